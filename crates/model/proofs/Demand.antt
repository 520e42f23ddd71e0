-- Demand 3, over every list of reports.
use mathlib.Core.Path.{◌≡◌, refl, sym, ◌∙◌}
use mathlib.Core.Bool.{Bool, true, false, cond, ◌&&◌, not}
use mathlib.Core.Option.{Option, none, some}
use mathlib.Core.List.{List, [], ◌∷◌, ◌++◌}
use Prim.Native.Nat.{ℕ, ◌+◌, ◌-◌, ◌≤◌, ◌<◌, max}
use native.Mathlib.Nat.{le_refl, le_trans}
use native.Mathlib.Decide.{ℕ_discrete}
use native.Mathlib.Omega.{arith}
use lib.Dec.{eqb}
use borrow.Author.Tests.{eq-eqb, eqb-true}
use lib.ListN.{length, replicate}
use lib.Seq.{get_or-set_same, get_or-set_other}
use Rattle.model.specs.Basics.{Each}
use Rattle.model.specs.Units.{occupied}
use Rattle.model.specs.Link.{VirtualLink, link_at}
use Rattle.model.specs.Table.{Table, size_of}
use Rattle.model.specs.Bounds.{longest, blocking, or_zero, hold, bound}
use Rattle.model.specs.Machine.{Frame, idle, Scheduler, Departure, queue_of, queued_last, advance, stored, bytes, held}
use Rattle.model.specs.Counters.{Counters}
use Rattle.model.specs.Port.{Port, mark_of, fresh, with_counters}
use Rattle.model.specs.Report.{Report, wait, frame, tick_of, Judged, stored_if, Call, Stepped, arrived}
use Rattle.model.specs.Run.{Entry, run, accepted, frame_if, stored_by, dropped_by, passed_by, without, without_all, and_last, held_frames, is_priority, has_priority, only, held_of, most_held, Always, start, then}
use Rattle.model.specs.Promises.{DemandThree}
use Rattle.model.proofs.Holds.{hold_is, HasBounds, has_bounds}
use Rattle.model.proofs.Passed.{Passed}
use Rattle.model.proofs.Passing.{Passing, is_passing}
use Rattle.model.proofs.Queues.{up_none}
use Rattle.model.proofs.BusyPeriod.{Sound, Before, over}
use Rattle.model.proofs.BusySteps.{stored_sound}
use Rattle.model.proofs.Backlog.{level_hold}
use Rattle.model.proofs.QueueSteps.{advance_clock}
use Rattle.model.proofs.Ledger.{Booked, booked_put, ticks_booked}
use Rattle.model.proofs.Stepping.{Admitted, policed_port, charged_port, priority_at, Judgement, filters, polices, drops, stores, Timely, Arrives, moved_to, reached, freed_by, Stepping, refuses, waits, frames, stepping}
use Rattle.model.proofs.Log.{entry_of, taken, declined, departures_taken, departures_declined, frame_declined, not_accepted, and_passed, passed_frames}
use Rattle.model.proofs.Invariant.{Ordered, Invariant, uncounted, moved_ordered, meets_its_queue, grown, step_kept, fresh_kept, empty_queues, no_marks}
use Rattle.model.proofs.Paying.{not_policed}
use Rattle.model.proofs.Levels.{up_passed, own_passed, Levels, held_bound, advance_levels, lost_levels, stored_levels}

-- ---- departures only lessen what is held
without_bytes : (weight : ℕ → ℕ) (test : Frame → Bool) (n : ℕ) (l : List Frame) → bytes weight (only test (without n l)) ≤ bytes weight (only test l)
unfolding bytes only without
without_bytes weight test n [] = le_refl 0
without_bytes weight test n (f ∷ l) = go (eqb f.number n) (test f) refl (without_bytes weight test n l)
  where
    go : (x y : Bool) → test f ≡ y → bytes weight (only test (without n l)) ≤ bytes weight (only test l)
        → bytes weight (only test (cond x l (f ∷ without n l))) ≤ bytes weight (cond y (f ∷ only test l) (only test l))
    go true true e ih = omega arith
    go true false e ih = le_refl (bytes weight (only test l))
    go false true e ih = rw e (omega arith)
    go false false e ih = rw e ih

without_all_bytes : (weight : ℕ → ℕ) (test : Frame → Bool) (ds : List Departure) (l : List Frame) → bytes weight (only test (without_all ds l)) ≤ bytes weight (only test l)
unfolding without_all
without_all_bytes weight test [] l = le_refl (bytes weight (only test l))
without_all_bytes weight test (d ∷ ds) l = le_trans (without_all_bytes weight test ds (without d.number l)) (without_bytes weight test d.number l)

-- ---- what is kept beside the invariant

-- the clauses of demand 3 about what came before
pub record SaidSoFar (t : Table) (log : List Entry) : Type 0 where
  pub within : (p : ℕ) → p < 8 → most_held t p log ≤ bound t p
  pub in_time : (p : ℕ) → p < 8 → Always (λ e log. accepted e.answer ≡ true → Each (λ f. tick_of e.report < f.arrival + hold t p) (held_of t p (e ∷ log))) log
  pub no_drop : (p : ℕ) → p < 8 → bound t p ≤ size_of t p → Always (λ e log. (f : Frame) → dropped_by e ≡ some f → has_priority t p f ≡ true → ⊥) log

pub record DemandKept (t : Table) (s : Port) (log : List Entry) : Type 0 where
  pub invariant : Invariant t s log
  pub levels : Levels t (passed_frames t log) s.scheduler
  pub booked : Booked t (held_frames log) s.scheduler.queues
  pub marked : (p : ℕ) → p < 8 → mark_of s p ≡ most_held t p log
  pub said : SaidSoFar t log

-- the counters play no part in it but in the invariant
recounted : {t : Table} {s : Port} {log : List Entry} {c : Counters} → Invariant t (with_counters s c) log → DemandKept t s log → DemandKept t (with_counters s c) log
recounted i' k = record { invariant = i'; levels = k.levels; booked = k.booked; marked = k.marked; said = k.said }

-- what a buffer holds is at most the most that it has held
held_most : (t : Table) (log : List Entry) (queues : List (List Frame)) → Booked t (held_frames log) queues → (p : ℕ) → p < 8 → held (queue_of queues p) ≤ most_held t p log
unfolding most_held held_of held_frames only bytes
held_most t [] queues k p m = rw (← k.books p m) (le_refl 0)
held_most t (e ∷ log) queues k p m = rw (← k.books p m) (omega arith)

-- one more entry
module _ (t : Table) (log : List Entry) (e : Entry) (s : Port) (i' : Invariant t s (e ∷ log)) where
  finish : Levels t (passed_frames t (e ∷ log)) s.scheduler → Booked t (held_frames (e ∷ log)) s.scheduler.queues
      → ((p : ℕ) → p < 8 → mark_of s p ≡ max (most_held t p log) (held (queue_of s.scheduler.queues p)))
      → (accepted e.answer ≡ true → tick_of e.report ≡ s.scheduler.clock)
      → ((p : ℕ) → p < 8 → bound t p ≤ size_of t p → (f : Frame) → dropped_by e ≡ some f → has_priority t p f ≡ true → ⊥)
      → SaidSoFar t log → DemandKept t s (e ∷ log)
  unfolding most_held held_of
  finish levels books mark time drop said =
      record {
        invariant = i';
        levels = levels;
        booked = books;
        marked = λ p m. rw (books.books p m) (mark p m);
        said =
            record {
              within =
                  λ p m. rw (books.books p m) (omega (arith, said.within p m, held_bound t (passed_frames t (e ∷ log)) s.scheduler s.gate i'.ordered.sound i'.good levels p m));
              in_time =
                  λ p m.
                  then {e = e} {log = log}
                  (λ x.
                  rw (books.books p m, time x)
                  (level_hold p (blocking t p) (hold t p) (up_passed p (passed_frames t (e ∷ log))) (own_passed p (passed_frames t (e ∷ log))) s.scheduler (levels p m) p (le_refl p)))
                  (said.in_time p m);
              no_drop = λ p m n. then {e = e} {log = log} (drop p m n) (said.no_drop p m n);
            };
      }

-- ---- a report
module _ (t : Table) (b : HasBounds t) (v : Passing t) (s : Port) (log : List Entry) (k : DemandKept t s log) (list : List ℕ) where
  refused_kept : (r : Report) (n : ℕ) → Invariant t s (declined r n list ∷ log) → DemandKept t s (declined r n list ∷ log)
  unfolding held_frames and_last without_all stored_by dropped_by passed_frames passed_by and_passed
  refused_kept r n i' =
      finish t log (declined r n list) s i'
      (rw (frame_declined (λ verdict. not (eqb verdict 1) && not (eqb verdict 2)) r n) k.levels)
      (rw (frame_declined (eqb 0) r n, departures_declined r n list) k.booked)
      (λ p m. omega (arith, k.marked p m, held_most t log s.scheduler.queues k.booked p m))
      (λ x. absurd (let z : ◌≡◌ {A = ℕ} 0 1 = let w : false ≡ true = sym (not_accepted n) ∙ x in cc in omega arith))
      (λ p m i f x. absurd (let z : ◌≡◌ {A = ℕ} 0 1 = let w : ◌≡◌ {A = Option Frame} none (some f) = sym (frame_declined (eqb 3) r n) ∙ x in cc in omega arith))
      k.said

  module _ (time : ℕ) (timely : Timely s time) where
    abbrev out : List Departure
    out = freed_by s time

    abbrev st : Scheduler
    st = (advance time s.scheduler).scheduler

    there : st.clock ≡ time
    there = advance_clock time s.scheduler timely.from

    levels : Levels t (passed_frames t log) st
    levels = advance_levels t b (passed_frames t log) s.scheduler s.gate time k.invariant.ordered.sound k.invariant.good k.levels

    books : Booked t (without_all out (held_frames log)) st.queues
    unfolding advance
    books = ticks_booked t (longest t) (time - s.scheduler.clock) (held_frames log) s.scheduler k.invariant.ordered.sound k.booked

    less : (p : ℕ) → p < 8 → held (queue_of st.queues p) ≤ most_held t p log
    less p m =
        rw (← books.books p m)
        (le_trans (without_all_bytes occupied (has_priority t p) out (held_frames log)) (rw (k.booked.books p m) (held_most t log s.scheduler.queues k.booked p m)))

    -- the ledger after an accepted report
    books_taken : (r : Report) (verdict : ℕ) (queues : List (List Frame)) → Booked t (and_last (stored_by (taken r verdict out list)) (without_all out (held_frames log))) queues
        → Booked t (held_frames (taken r verdict out list ∷ log)) queues
    unfolding held_frames
    books_taken r verdict queues x = rw (departures_taken r verdict out list) x

    waited_kept : Invariant t (moved_to s time) (taken (wait time) 0 out list ∷ log) → DemandKept t (moved_to s time) (taken (wait time) 0 out list ∷ log)
    unfolding and_last stored_by dropped_by frame_if passed_frames passed_by and_passed tick_of
    waited_kept i' =
        finish t log (taken (wait time) 0 out list) (moved_to s time) i' levels
        (books_taken (wait time) 0 st.queues books)
        (λ p m. omega (arith, k.marked p m, less p m))
        (λ _. sym there)
        (λ p m n f x. absurd (let z : ◌≡◌ {A = ℕ} 0 1 = cc in omega arith))
        k.said

    module _ (line number len : ℕ) (arrives : Arrives t s time line len) where
      abbrev it : Frame
      it = arrived number len time

      abbrev this : ℕ → Entry
      this verdict = taken (frame time line number len) verdict out list

      abbrev port : Port
      port = reached s time line

      filtered_kept : Invariant t port (this 1 ∷ log) → DemandKept t port (this 1 ∷ log)
      unfolding and_last stored_by dropped_by frame_if accepted passed_frames passed_by and_passed tick_of
      filtered_kept i' =
          finish t log (this 1) port i' levels
          (books_taken (frame time line number len) 1 st.queues books)
          (λ p m. omega (arith, k.marked p m, less p m))
          (λ _. sym there)
          (λ p m n f x. absurd (let z : ◌≡◌ {A = ℕ} 0 1 = cc in omega arith))
          k.said

      module _ (i : ℕ) (a : Admitted t line number len i) where
        abbrev vl : VirtualLink
        vl = link_at t.links i

        policed_kept : Invariant t (policed_port t port i time) (this 2 ∷ log)
            → DemandKept t (policed_port t port i time) (this 2 ∷ log)
        unfolding and_last stored_by dropped_by frame_if accepted passed_frames passed_by and_passed tick_of
        policed_kept i' =
            finish t log (this 2) (policed_port t port i time) i' levels
            (books_taken (frame time line number len) 2 st.queues books)
            (λ p m. omega (arith, k.marked p m, less p m))
            (λ _. sym there)
            (λ p m n f x. absurd (let z : ◌≡◌ {A = ℕ} 0 1 = cc in omega arith))
            k.said

        -- ---- passed
        abbrev p : ℕ
        p = priority_at t i

        p_below : p < 8
        p_below = omega (arith, (v.fields i a.at_place).priority_most)

        ordered : Ordered t (moved_to s time)
        ordered = moved_ordered t s time timely k.invariant.ordered

        p_in : p < length st.queues
        p_in = omega (arith, p_below, ordered.sound.eight)

        of_p : has_priority t p it ≡ true
        unfolding has_priority is_priority
        of_p = rw a.place (eq-eqb p p refl)

        p_is : (q : ℕ) → has_priority t q it ≡ true → p ≡ q
        unfolding has_priority is_priority
        p_is q e = eqb-true p q (rw a.place at e)

        abbrev passing : List Passed
        passing = and_passed t (some it) (passed_frames t log)

        with_it : Levels t passing (stored st p it)
        unfolding and_passed or_zero
        with_it = rw a.place (stored_levels t (passed_frames t log) st vl it (sym there) levels p_in (omega (arith, arrives.long)))

        without_it : Levels t passing st
        unfolding and_passed or_zero
        without_it = rw a.place (lost_levels t (passed_frames t log) st vl it (sym there) levels)

        sound_with_it : Sound (longest t) (stored st p it)
        sound_with_it = stored_sound (longest t) st p it p_below (meets_its_queue t v (moved_to s time) ordered time line number len i there arrives.long a) ordered.sound

        grows : held (queue_of (queued_last st.queues p it) p) ≡ held (queue_of st.queues p) + occupied len
        grows = grown t v (moved_to s time) ordered time line number len i there arrives.long a

        dropped_kept : size_of t p < held (queue_of st.queues p) + occupied len
            → Invariant t (charged_port t port i time) (this 3 ∷ log) → DemandKept t (charged_port t port i time) (this 3 ∷ log)
        unfolding and_last stored_by dropped_by frame_if accepted passed_frames passed_by tick_of
        dropped_kept full i' =
            finish t log (this 3) (charged_port t port i time) i' without_it
            (books_taken (frame time line number len) 3 st.queues books)
            (λ q m. omega (arith, k.marked q m, less q m))
            (λ _. sym there)
            (λ q m n f x o. lost q m n (let w : it ≡ f = cc in rw (← w) at o))
            k.said
          where
            -- with it the buffer would still be within its bound
            lost : (q : ℕ) → q < 8 → bound t q ≤ size_of t q → has_priority t q it ≡ true → ⊥
            lost q m n o =
                let e : p ≡ q = p_is q o in
                let n' : bound t p ≤ size_of t p = rw e n in
                omega (arith, grows, held_bound t passing (stored st p it) (charged_port t port i time).gate sound_with_it i'.good with_it p p_below)

        stored_kept : Invariant t (stored_if true (charged_port t port i time) p it).port (this 0 ∷ log)
            → DemandKept t (stored_if true (charged_port t port i time) p it).port (this 0 ∷ log)
        unfolding and_last stored_by dropped_by frame_if accepted passed_frames passed_by tick_of stored_if
        stored_kept i' =
            finish t log (this 0) (stored_if true (charged_port t port i time) p it).port i' with_it
            (books_taken (frame time line number len) 0 (queued_last st.queues p it) (booked_put t (without_all out (held_frames log)) st.queues p it p_in of_p books))
            (λ q m. marks_are q m (ℕ_discrete q p))
            (λ _. sym there)
            (λ q m n f x. absurd (let z : ◌≡◌ {A = ℕ} 0 1 = cc in omega arith))
            k.said
          where
            after : Port
            after = (stored_if true (charged_port t port i time) p it).port

            marks_in : p < length s.marks
            marks_in = omega (arith, p_below, ordered.eight)

            marks_are : (q : ℕ) → q < 8 → Dec (q ≡ p) → mark_of after q ≡ max (most_held t q log) (held (queue_of after.scheduler.queues q))
            marks_are q m (yes e) = rw (e, get_or-set_same s.marks, marks_in) (omega (arith, k.marked p p_below))
            marks_are q m (no n) =
                rw (get_or-set_other s.marks, n, get_or-set_other st.queues p q (queue_of st.queues p ++ (it ∷ [])) [] n) (omega (arith, k.marked q m, less q m))

      judged_kept : {j : Judged} → Judgement t port time line number len j → Invariant t j.port (this j.verdict ∷ log) → DemandKept t j.port (this j.verdict ∷ log)
      unfolding stored_if
      judged_kept filters i' = filtered_kept i'
      judged_kept (polices i a c) i' = policed_kept i a i'
      judged_kept (drops i a c full) i' = dropped_kept i a full i'
      judged_kept (stores i a c room) i' = stored_kept i a i'

  kept_after : {r : Report} {x : Stepped} → Stepping t s list r x → Invariant t x.port (entry_of r x ∷ log) → DemandKept t x.port (entry_of r x ∷ log)
  kept_after (refuses {r = r} n) i' = refused_kept r n i'
  kept_after (waits time timely) i' = waited_kept time timely i'
  kept_after (frames time line number len timely arrives j) i' = recounted i' (judged_kept time timely line number len arrives j (uncounted i'))

-- ---- the fresh port
fresh_demand : (t : Table) → HasBounds t → DemandKept t (fresh t) []
unfolding fresh held_frames only most_held passed_frames Before
fresh_demand t b =
    record {
      invariant = fresh_kept t;
      levels =
          λ p m.
          over p (blocking t p) (hold t p) (up_passed p []) (own_passed p []) (λ w. 0) (longest t) 0 0 (replicate 8 []) idle
          (omega (arith, (hold_is t p (hold t p) (b.holds p m)).least_is)) (fresh_kept t).ordered.sound.frames (up_none p (replicate 8 []) (λ q _. empty_queues 8 q)) tt;
      booked = record { books = λ p m. rw (empty_queues 8 p) };
      marked = λ p m. no_marks 8 p;
      said =
          record {
            within = λ p m. omega arith;
            in_time = λ p m. start;
            no_drop = λ p m n. start;
          };
    }

-- ---- every list of reports
pub run_demand : (t : Table) → HasBounds t → (calls : List Call) → DemandKept t (run t calls).port (run t calls).log
unfolding run
run_demand t b [] = fresh_demand t b
run_demand t b (c ∷ calls) =
    let k = run_demand t b calls in
    let x = stepping t (run t calls).port c.list c.report in
    kept_after t b (is_passing t b.table) (run t calls).port (run t calls).log k c.list x
    (step_kept t (is_passing t b.table) (run t calls).port (run t calls).log k.invariant c.list x)

pub demand_three : DemandThree
unfolding held_of
demand_three t e calls =
    let k = run_demand t (has_bounds t e) calls in
    record {
      queue = λ p m. sym (k.booked.books p m);
      within = k.said.within;
      mark = k.marked;
      in_time = k.said.in_time;
      no_drop = k.said.no_drop;
      not_policed = not_policed t (is_passing t (has_bounds t e).table) calls;
    }
