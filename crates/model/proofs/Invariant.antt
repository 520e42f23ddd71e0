-- What every list of reports keeps, with bounds or without: the scheduler is sound, the gate is good, the queues are in order,
-- the marks are within the sizes.
use mathlib.Core.Path.{◌≡◌, refl, sym}
use mathlib.Core.Bool.{Bool, true, not, ◌&&◌}
use mathlib.Core.Option.{some}
use mathlib.Core.List.{List, [], ◌∷◌, ◌++◌}
use Prim.Native.Nat.{ℕ, zero, suc, ◌+◌, ◌≤◌, ◌<◌}
use native.Mathlib.Nat.{le_refl, le_trans}
use native.Mathlib.Decide.{ℕ_discrete}
use native.Mathlib.Omega.{arith}
use lib.Dec.{eqb, lit≤}
use borrow.Author.Tests.{eq-eqb, le-leb}
use lib.ListN.{length, get_or, length-set, replicate}
use lib.Seq.{get_or-set_same, get_or-set_other}
use Rattle.model.specs.Basics.{provided, done}
use Rattle.model.specs.Units.{last_tick, occupied}
use Rattle.model.specs.Link.{VirtualLink, bag, link_at, place_of}
use Rattle.model.specs.Table.{Table, size_of}
use Rattle.model.specs.Bounds.{of_priority, longest, or_zero}
use Rattle.model.specs.Machine.{Frame, queue_of, queued_last, advance, bytes, held}
use Rattle.model.specs.Counters.{Counters}
use Rattle.model.specs.Port.{Gate, Port, mark_of, fresh, with_gate, with_counters, with_line_tick, with_account}
use Rattle.model.specs.Fitness.{names_link}
use Rattle.model.specs.Report.{Report, frame, Judged, stored_if, arrived, Stepped, Call}
use Rattle.model.specs.Run.{Entry, accepted, frame_if, passed_by, run}
use Rattle.model.specs.Promises.{Weight}
use Rattle.model.proofs.Checks.{true_all}
use Rattle.model.proofs.Curves.{greatest_ge}
use Rattle.model.proofs.Passed.{Passed}
use Rattle.model.proofs.Gate.{mem_at, renewed, reduced, Good, later_good, raise_good, police_good, pass_good, fresh_good}
use Rattle.model.proofs.Passing.{Passing}
use Rattle.model.proofs.BusyPeriod.{SendsInTime, Meets, Sound, put_bytes}
use Rattle.model.proofs.BusySteps.{stored_sound}
use Rattle.model.proofs.QueueSteps.{advance_keeps, advance_sound, advance_clock, held_tail}
use Rattle.model.proofs.Stepping.{Admitted, policed_port, charged_port, priority_at, Judgement, filters, polices, drops, stores, Timely, Arrives, moved_to, reached, freed_by, Stepping, refuses, waits, frames, stepping}
use Rattle.model.proofs.Lined.{Lined, over, lined_later, lined_tail, lined_last}
use Rattle.model.proofs.Log.{entry_of, taken, frame_declined, and_passed, passed_frames}

-- for every set of links and every weight
abbrev pub AllGood : Table → List Passed → ℕ → Gate → Type 0
AllGood t h clock g = (weight : ℕ → ℕ) → Weight weight → (members : VirtualLink → Bool) → Good weight members t.lines t.links h clock g

-- the part of a port that frames and departures change
pub record Ordered (t : Table) (s : Port) : Type 0 where
  pub sound : Sound (longest t) s.scheduler
  pub lined : (q : ℕ) → Lined t q s.scheduler.clock 0 (queue_of s.scheduler.queues q)
  pub early : s.scheduler.clock ≤ last_tick
  pub eight : length s.marks ≡ 8
  pub below : (p : ℕ) → p < 8 → held (queue_of s.scheduler.queues p) ≤ mark_of s p
  pub within : (p : ℕ) → p < 8 → mark_of s p ≤ size_of t p

pub record Invariant (t : Table) (s : Port) (log : List Entry) : Type 0 where
  pub ordered : Ordered t s
  pub good : AllGood t (passed_frames t log) s.scheduler.clock s.gate

-- the gate plays no part in it
pub regated : (t : Table) (s : Port) → Ordered t s → (g : Gate) → Ordered t (with_gate s g)
regated t s k g = record { sound = k.sound; lined = k.lined; early = k.early; eight = k.eight; below = k.below; within = k.within }

-- nor do the counters
pub recounted_order : {t : Table} {s : Port} (c : Counters) → Ordered t s → Ordered t (with_counters s c)
recounted_order c k = record { sound = k.sound; lined = k.lined; early = k.early; eight = k.eight; below = k.below; within = k.within }

pub uncounted : {t : Table} {s : Port} {log : List Entry} {c : Counters} → Invariant t (with_counters s c) log → Invariant t s log
uncounted {t} {s} k =
    let o = k.ordered in
    record { ordered = record { sound = o.sound; lined = o.lined; early = o.early; eight = o.eight; below = o.below; within = o.within }; good = k.good }

-- ---- an advance
pub moved_ordered : (t : Table) (s : Port) (time : ℕ) → Timely s time → Ordered t s → Ordered t (moved_to s time)
moved_ordered t s time timely k =
    record {
      sound = advance_sound (longest t) time s.scheduler k.sound;
      lined =
          rw there
          (advance_keeps (λ q l. Lined t q time 0 l) (λ q l x. lined_tail t q time l x) (longest t) time s.scheduler k.sound
          (λ q. lined_later t q s.scheduler.clock time 0 (queue_of s.scheduler.queues q) timely.from (k.lined q)));
      early = rw there timely.soon;
      eight = k.eight;
      below =
          λ p m.
          le_trans
          (advance_keeps (λ q l. held l ≤ held (queue_of s.scheduler.queues q)) (λ q l x. le_trans (held_tail l) x) (longest t) time s.scheduler k.sound
          (λ q. le_refl (held (queue_of s.scheduler.queues q))) p)
          (k.below p m);
      within = k.within;
    }
  where
    there : (advance time s.scheduler).scheduler.clock ≡ time
    there = advance_clock time s.scheduler timely.from

-- ---- a frame is stored
module _ (t : Table) (valid : Passing t) (s : Port) (k : Ordered t s) (time line number len i : ℕ) (clock : s.scheduler.clock ≡ time) (long : 84 ≤ len) (a : Admitted t line number len i) where
  abbrev p : ℕ
  p = priority_at t i

  abbrev it : Frame
  it = arrived number len time

  abbrev queues : List (List Frame)
  queues = s.scheduler.queues

  p_below : p < 8
  p_below = omega (arith, (valid.fields i a.at_place).priority_most)

  p_in : p < length queues
  p_in = omega (arith, p_below, k.sound.eight)

  pub names_its_link : names_link t p len (place_of number t.links) ≡ true
  unfolding names_link
  names_its_link =
      rw a.place
      (true_all _ (eq-eqb p p refl, (le-leb (link_at t.links i).least len a.not_shorter, (le-leb len (link_at t.links i).greatest a.not_longer, tt))))

  pub meets_its_queue : Meets (longest t p) s.scheduler.clock it
  unfolding longest of_priority
  meets_its_queue =
      record {
        positive = omega arith;
        short = le_trans a.not_longer (greatest_ge (of_priority p) (λ v. v.greatest) (mem_at t.links i a.at_place) (eq-eqb p p refl));
        past = omega arith;
      }

  pub grown : held (queue_of (queued_last queues p it) p) ≡ held (queue_of queues p) + occupied len
  unfolding provided
  grown = rw (eq-eqb p p refl) at (put_bytes occupied queues p p it p_in)

  pub stored_ordered : held (queue_of queues p) + occupied len ≤ size_of t p → (g : Gate) → Ordered t (stored_if true (with_gate s g) p it).port
  unfolding stored_if
  stored_ordered room g =
      record {
        sound = stored_sound (longest t) s.scheduler p it p_below meets_its_queue k.sound;
        lined = λ q. row q (ℕ_discrete q p);
        early = k.early;
        eight = rw length-set k.eight;
        below = λ q m. low q m (ℕ_discrete q p);
        within = λ q m. high q m (ℕ_discrete q p);
      }
    where
      after : Port
      after = (stored_if true (with_gate s g) p it).port

      row : (q : ℕ) → Dec (q ≡ p) → Lined t q s.scheduler.clock 0 (queue_of (queued_last queues p it) q)
      row q (yes x) =
          rw (x, get_or-set_same queues p (queue_of queues p ++ (it ∷ [])) [] p_in)
          (lined_last t p s.scheduler.clock 0 (queue_of queues p) it (omega arith) names_its_link (sym clock) (k.lined p))
      row q (no n) = rw (get_or-set_other queues p q (queue_of queues p ++ (it ∷ [])) [] n) (k.lined q)

      marks_in : p < length s.marks
      marks_in = omega (arith, p_below, k.eight)

      low : (q : ℕ) → q < 8 → Dec (q ≡ p) → held (queue_of (queued_last queues p it) q) ≤ mark_of after q
      low q m (yes x) = rw (x, get_or-set_same s.marks, marks_in) (omega arith)
      low q m (no n) = rw (get_or-set_other queues p q (queue_of queues p ++ (it ∷ [])) [] n, get_or-set_other s.marks, n) (k.below q m)

      high : (q : ℕ) → q < 8 → Dec (q ≡ p) → mark_of after q ≤ size_of t q
      high q m (yes x) = rw (x, get_or-set_same s.marks, marks_in) (omega (arith, grown, k.within p p_below))
      high q m (no n) = rw (get_or-set_other s.marks, n) (k.within q m)

-- ---- a report
module _ (t : Table) (valid : Passing t) (s : Port) (log : List Entry) (k : Invariant t s log) where
  module _ (time : ℕ) (timely : Timely s time) where
    there : (advance time s.scheduler).scheduler.clock ≡ time
    there = advance_clock time s.scheduler timely.from

    moved : Ordered t (moved_to s time)
    moved = moved_ordered t s time timely k.ordered

    module _ (line number len : ℕ) (arrives : Arrives t s time line len) (list : List ℕ) where
      raised : AllGood t (passed_frames t log) time (with_line_tick s.gate line time)
      raised weight z members = raise_good (k.good weight z members) line time arrives.line_in timely.from

      passed : (i : ℕ) → Admitted t line number len i → bag (link_at t.links i) ≤ (renewed t.links s.gate i time).credit
          → AllGood t (and_passed t (some (arrived number len time)) (passed_frames t log)) time (with_account (with_line_tick s.gate line time) i (reduced t.links s.gate i time))
      unfolding and_passed or_zero
      passed i a c weight z members =
          rw a.place
          (pass_good (k.good weight z members) z valid.rising line i len time
          (record { in_table = a.at_place; on_line_lem = a.on_its_line; line_below = arrives.line_in; short = a.not_longer; covered = c; spaced = arrives.spaced })
          timely.from)

      judged_kept : {j : Judged} → Judgement t (reached s time line) time line number len j
          → Invariant t j.port (taken (frame time line number len) j.verdict (freed_by s time) list ∷ log)
      unfolding passed_frames passed_by frame_if accepted and_passed stored_if
      judged_kept filters =
          record {
            ordered = regated t (moved_to s time) moved (with_line_tick s.gate line time);
            good = λ weight z members. rw there (raised weight z members);
          }
      judged_kept (polices i a c) =
          record {
            ordered = regated t (moved_to s time) moved (policed_port t (reached s time line) i time).gate;
            good = λ weight z members. rw there (police_good (raised weight z members) i time a.at_place (le_refl time));
          }
      judged_kept (drops i a c room) =
          record {
            ordered = regated t (moved_to s time) moved (charged_port t (reached s time line) i time).gate;
            good = λ weight z members. rw there (passed i a c weight z members);
          }
      judged_kept (stores i a c room) =
          record {
            ordered =
                stored_ordered t valid (moved_to s time) moved time line number len i there arrives.long a room
                (charged_port t (reached s time line) i time).gate;
            good = λ weight z members. rw there (passed i a c weight z members);
          }

  pub step_kept : (list : List ℕ) {r : Report} {x : Stepped} → Stepping t s list r x → Invariant t x.port (entry_of r x ∷ log)
  unfolding passed_frames passed_by frame_if and_passed
  step_kept list (refuses {r = r} n) =
      record { ordered = k.ordered; good = λ weight z members. rw (frame_declined (λ verdict. not (eqb verdict 1) && not (eqb verdict 2)) r n) (k.good weight z members) }
  step_kept list (waits time timely) =
      record {
        ordered = moved time timely;
        good = λ weight z members. rw (there time timely) (later_good (k.good weight z members) time timely.from);
      }
  step_kept list (frames time line number len timely arrives j) =
      let x = judged_kept time timely line number len arrives list j in record { ordered = recounted_order _ x.ordered; good = x.good }

-- ---- the fresh port
pub empty_queues : (n p : ℕ) → get_or {A = List Frame} (replicate n []) p [] ≡ []
empty_queues zero p = refl
empty_queues (suc n) zero = refl
empty_queues (suc n) (suc p) = empty_queues n p

pub no_marks : (n p : ℕ) → get_or {A = ℕ} (replicate n 0) p 0 ≡ 0
no_marks zero p = refl
no_marks (suc n) zero = refl
no_marks (suc n) (suc p) = no_marks n p

pub fresh_kept : (t : Table) → Invariant t (fresh t) []
unfolding fresh SendsInTime bytes passed_frames
fresh_kept t =
    record {
      ordered =
          record {
            sound = record { eight = refl; frames = λ q. rw (empty_queues 8 q) done; sends = tt };
            lined = λ q. rw (empty_queues 8 q) over;
            early = lit≤ tt;
            eight = refl;
            below = λ p m. rw (empty_queues 8 p) (omega arith);
            within = λ p m. rw (no_marks 8 p) (omega arith);
          };
      good = λ weight z members. fresh_good weight members t;
    }

-- ---- every list of reports
pub run_kept : (t : Table) → Passing t → (calls : List Call) → Invariant t (run t calls).port (run t calls).log
unfolding run
run_kept t v [] = fresh_kept t
run_kept t v (c ∷ calls) = step_kept t v (run t calls).port (run t calls).log (run_kept t v calls) c.list (stepping t (run t calls).port c.list c.report)
