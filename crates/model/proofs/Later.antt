-- For the next switch on the way: departures in time and a length apart; what passes of a link keeps BAG and jitter.
use mathlib.Core.Path.{◌≡◌, refl, sym, ◌∙◌}
use mathlib.Core.Bool.{true, ◌&&◌, not}
use mathlib.Core.Option.{none, some}
use mathlib.Core.List.{List, [], ◌∷◌, ◌++◌, append-nil, append_assoc}
use Prim.Native.Nat.{ℕ, ◌-◌, ◌≤◌, ◌<◌}
use native.Mathlib.Nat.{le_refl}
use native.Mathlib.Omega.{arith}
use lib.Dec.{eqb}
use lib.ListN.{length, set}
use Rattle.model.specs.Units.{occupied}
use Rattle.model.specs.Link.{VirtualLink, bag, link_at}
use Rattle.model.specs.Table.{Table}
use Rattle.model.specs.Bounds.{longest, blocking, hold}
use Rattle.model.specs.Machine.{Frame, Scheduler, Departure, advance}
use Rattle.model.specs.Port.{Account, Port, account_at, fresh}
use Rattle.model.specs.Report.{Report, wait, frame, Judged, stored_if, arrived, Call, Stepped}
use Rattle.model.specs.Run.{Entry, run, accepted, frame_if, passed_by, departures_by, held_frames, ticks_of, Always, start, then}
use Rattle.model.specs.Promises.{Leaving, Spaced, over, all_departures, DeparturesInTime, DeparturesSpaced, PassedKeep}
use Rattle.model.proofs.Holds.{HasBounds, has_bounds}
use Rattle.model.proofs.Curves.{occupied_weight}
use Rattle.model.proofs.Gate.{numbers_apart, renewed, reduced, after_set, full_at}
use Rattle.model.proofs.Keeping.{Spent, spent_start, spent_policed, spent_charged}
use Rattle.model.proofs.Passing.{Passing, is_passing}
use Rattle.model.proofs.BusyPeriod.{Sound}
use Rattle.model.proofs.Backlog.{level_hold}
use Rattle.model.proofs.Departures.{ticks_leaving, FreeFrom, ticks_apart}
use Rattle.model.proofs.Stepping.{Admitted, Judgement, filters, polices, drops, stores, Timely, reached, freed_by, Stepping, refuses, waits, frames, stepping}
use Rattle.model.proofs.Log.{entry_of, taken, declined, departures_taken, departures_declined, frame_declined, passed_frames}
use Rattle.model.proofs.Invariant.{Invariant, run_kept}
use Rattle.model.proofs.Levels.{up_passed, own_passed, Leveled, tick_leveled}
use Rattle.model.proofs.Paying.{ticks_none, ticks_same, ticks_other}
use Rattle.model.proofs.Demand.{DemandKept, run_demand}

-- ---- each departure in time
module _ (t : Table) (b : HasBounds t) (s : Port) (log : List Entry) (k : DemandKept t s log) where
  advance_leaving : (time : ℕ) → Leaving t (held_frames log) (freed_by s time)
  unfolding advance
  advance_leaving time =
      ticks_leaving t (longest t) (Leveled t (passed_frames t log) s.scheduler.clock)
      (tick_leveled t b (passed_frames t log) s.scheduler.clock s.gate k.invariant.good)
      (λ st x. x.sound)
      (λ st x p m. level_hold p (blocking t p) (hold t p) (up_passed p (passed_frames t log)) (own_passed p (passed_frames t log)) st (x.levels p m) p (le_refl p))
      (time - s.scheduler.clock) (held_frames log) s.scheduler
      (record { past = le_refl s.scheduler.clock; sound = k.invariant.ordered.sound; levels = k.levels })
      k.booked

  step_leaving : (list : List ℕ) {r : Report} {x : Stepped} → Stepping t s list r x → Leaving t (held_frames log) (departures_by (entry_of r x))
  step_leaving list (refuses {r = r} n) = rw (departures_declined r n list) over
  step_leaving list (waits time timely) = rw (departures_taken (wait time) 0 (freed_by s time) list) (advance_leaving time)
  step_leaving list (frames time line number len timely arrives {j = j} _) = rw (departures_taken (frame time line number len) j.verdict (freed_by s time) list) (advance_leaving time)

in_time : (t : Table) → HasBounds t → (calls : List Call) → Always (λ e log. Leaving t (held_frames log) (departures_by e)) (run t calls).log
unfolding run
in_time t b [] = start
in_time t b (c ∷ calls) =
    then (step_leaving t b (run t calls).port (run t calls).log (run_demand t b calls) c.list (stepping t (run t calls).port c.list c.report)) (in_time t b calls)

pub departures_in_time : DeparturesInTime
departures_in_time t e calls = in_time t (has_bounds t e) calls

-- ---- consecutive departures a length apart

-- the departures so far, whatever follows a length after the last; the sender is free from the last on
pub record Sparse (ds : List Departure) (st : Scheduler) : Type 0 where
  pub last : ℕ
  pub spaced : (more : List Departure) → Spaced last more → Spaced 0 (ds ++ more)
  pub free : FreeFrom last st.clock st.sender

module _ (t : Table) (s : Port) (ds : List Departure) (sound : Sound (longest t) s.scheduler) (k : Sparse ds s.scheduler) where
  advance_sparse : (time : ℕ) → Sparse (ds ++ freed_by s time) (advance time s.scheduler).scheduler
  unfolding advance
  advance_sparse time =
      let a = ticks_apart (longest t) (time - s.scheduler.clock) k.last s.scheduler sound k.free in
      record { last = a.final; spaced = λ more x. rw append_assoc (k.spaced _ (a.spaced more x)); free = a.free }

  judged_sparse : (time line number len : ℕ) {j : Judged} → Judgement t (reached s time line) time line number len j → Sparse (ds ++ freed_by s time) j.port.scheduler
  unfolding stored_if
  judged_sparse time line number len filters = advance_sparse time
  judged_sparse time line number len (polices i a c) = advance_sparse time
  judged_sparse time line number len (drops i a c full) = advance_sparse time
  judged_sparse time line number len (stores i a c room) =
      record { last = (advance_sparse time).last; spaced = (advance_sparse time).spaced; free = (advance_sparse time).free }

  step_sparse : (list : List ℕ) {r : Report} {x : Stepped} → Stepping t s list r x → Sparse (ds ++ departures_by (entry_of r x)) x.port.scheduler
  step_sparse list (refuses {r = r} n) = rw (departures_declined r n list, append-nil) k
  step_sparse list (waits time timely) = rw (departures_taken (wait time) 0 (freed_by s time) list) (advance_sparse time)
  step_sparse list (frames time line number len timely arrives {j = j} x) =
      rw (departures_taken (frame time line number len) j.verdict (freed_by s time) list) (judged_sparse time line number len x)

pub run_sparse : (t : Table) → Passing t → (calls : List Call) → Sparse (all_departures (run t calls).log) (run t calls).port.scheduler
unfolding run all_departures fresh FreeFrom
run_sparse t v [] = record { last = 0; spaced = λ more x. x; free = le_refl 0 }
run_sparse t v (c ∷ calls) =
    step_sparse t (run t calls).port (all_departures (run t calls).log) (run_kept t v calls).ordered.sound (run_sparse t v calls) c.list
    (stepping t (run t calls).port c.list c.report)

pub departures_spaced : DeparturesSpaced
departures_spaced t e calls = rw append-nil at ((run_sparse t (is_passing t e) calls).spaced [] over)

-- ---- the passed frames of a link keep BAG and jitter
abbrev Metered : Table → List Account → List Entry → Type 0
Metered t accounts log = (i : ℕ) → i < length t.links → Spent (link_at t.links i) (ticks_of passed_by (link_at t.links i).number log) (account_at accounts i)

module _ (t : Table) (v : Passing t) (s : Port) (log : List Entry) (inv : Invariant t s log) (k : Metered t s.gate.accounts log) where
  none_passes : (e : Entry) → passed_by e ≡ none → Metered t s.gate.accounts (e ∷ log)
  none_passes e x i l = rw (ticks_none passed_by (link_at t.links i).number e log x) (k i l)

  module _ (time line number len : ℕ) (timely : Timely s time) (i : ℕ) (a : Admitted t line number len i) where
    abbrev vl : VirtualLink
    vl = link_at t.links i

    abbrev it : Frame
    it = arrived number len time

    ticked : (account_at s.gate.accounts i).tick ≤ time
    ticked = omega (arith, (inv.good occupied occupied_weight (λ _. true)).account_past i a.at_place, timely.from)

    abbrev own : Spent vl (ticks_of passed_by vl.number log) (account_at s.gate.accounts i)
    own = k i a.at_place

    set_metered : (e : Entry) (account : Account) → Spent vl (ticks_of passed_by vl.number (e ∷ log)) account
        → ((j : ℕ) → j < length t.links → (number ≡ (link_at t.links j).number → ⊥) → ticks_of passed_by (link_at t.links j).number (e ∷ log) ≡ ticks_of passed_by (link_at t.links j).number log)
        → Metered t (set s.gate.accounts i account) (e ∷ log)
    set_metered e account here others =
        after_set (λ j account. Spent (link_at t.links j) (ticks_of passed_by (link_at t.links j).number (e ∷ log)) account) (length t.links) s.gate.accounts (record { credit = 0; tick = 0 }) i account
        (inv.good occupied occupied_weight (λ _. true)).accounts_length a.at_place here
        (λ j l n. rw (others j l (λ y. numbers_apart t.links v.rising j i l a.at_place n (sym (a.named ∙ y)))) (k j l))

    policed_metered : (e : Entry) → passed_by e ≡ none → Metered t (set s.gate.accounts i (renewed t.links s.gate i time)) (e ∷ log)
    policed_metered e x =
        set_metered e (renewed t.links s.gate i time)
        (rw (ticks_none passed_by vl.number e log x) (spent_policed vl (ticks_of passed_by vl.number log) (account_at s.gate.accounts i) time ticked own))
        (λ j l n. ticks_none passed_by (link_at t.links j).number e log x)

    passed_metered : bag vl ≤ (renewed t.links s.gate i time).credit → (e : Entry) → passed_by e ≡ some it → Metered t (set s.gate.accounts i (reduced t.links s.gate i time)) (e ∷ log)
    passed_metered c e x =
        set_metered e (reduced t.links s.gate i time)
        (rw (ticks_same passed_by vl.number e log it x (sym a.named)) (spent_charged vl (ticks_of passed_by vl.number log) (account_at s.gate.accounts i) time ticked c own))
        (λ j l n. ticks_other passed_by (link_at t.links j).number e log it x n)

  judged_metered : (time line number len : ℕ) → Timely s time → (list : List ℕ) {j : Judged} → Judgement t (reached s time line) time line number len j
      → Metered t j.port.gate.accounts (taken (frame time line number len) j.verdict (freed_by s time) list ∷ log)
  unfolding stored_if passed_by frame_if accepted
  judged_metered time line number len timely list filters = none_passes (taken (frame time line number len) 1 (freed_by s time) list) refl
  judged_metered time line number len timely list (polices i a c) = policed_metered time line number len timely i a (taken (frame time line number len) 2 (freed_by s time) list) refl
  judged_metered time line number len timely list (drops i a c full) = passed_metered time line number len timely i a c (taken (frame time line number len) 3 (freed_by s time) list) refl
  judged_metered time line number len timely list (stores i a c room) = passed_metered time line number len timely i a c (taken (frame time line number len) 0 (freed_by s time) list) refl

  step_metered : (list : List ℕ) {r : Report} {x : Stepped} → Stepping t s list r x → Metered t x.port.gate.accounts (entry_of r x ∷ log)
  unfolding passed_by frame_if
  step_metered list (refuses {r = r} n) = none_passes (declined r n list) (frame_declined (λ verdict. not (eqb verdict 1) && not (eqb verdict 2)) r n)
  step_metered list (waits time timely) = none_passes (taken (wait time) 0 (freed_by s time) list) refl
  step_metered list (frames time line number len timely arrives x) = judged_metered time line number len timely list x

run_metered : (t : Table) → Passing t → (calls : List Call) → Metered t (run t calls).port.gate.accounts (run t calls).log
unfolding run fresh ticks_of
run_metered t v [] = λ i l. rw (full_at t.links i l) (spent_start (link_at t.links i))
run_metered t v (c ∷ calls) =
    step_metered t v (run t calls).port (run t calls).log (run_kept t v calls) (run_metered t v calls) c.list (stepping t (run t calls).port c.list c.report)

pub passed_keep : PassedKeep
passed_keep t e calls i l = (run_metered t (is_passing t e) calls i l).keeping
