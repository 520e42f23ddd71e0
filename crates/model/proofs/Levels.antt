-- All eight levels of a port whose table has bounds: kept by an advance and by a frame that passed, stored or not.
use mathlib.Core.Path.{◌≡◌}
use mathlib.Core.List.{List, ◌∷◌}
use Prim.Native.Nat.{ℕ, ◌-◌, ◌≤◌, ◌<◌}
use native.Mathlib.Nat.{le_refl}
use native.Mathlib.Omega.{arith}
use lib.ListN.{length}
use Rattle.model.specs.Units.{occupied}
use Rattle.model.specs.Link.{VirtualLink}
use Rattle.model.specs.Table.{Table}
use Rattle.model.specs.Bounds.{of_priority, up_to, own_arrivals, up_arrivals, longest, blocking, hold, bound}
use Rattle.model.specs.Machine.{Frame, Scheduler, queue_of, tick, advance, stored, held}
use Rattle.model.specs.Port.{Gate}
use Rattle.model.proofs.Curves.{wire_weight, occupied_weight}
use Rattle.model.proofs.Holds.{hold_is, HasBounds}
use Rattle.model.proofs.Passed.{Passed, passed_frame, total, set_length}
use Rattle.model.proofs.Gate.{later_good, gate_bound, total_new}
use Rattle.model.proofs.BusyPeriod.{Sound, Level}
use Rattle.model.proofs.BusySteps.{tick_sound, tick_level, tick_clock, ticks_keep, more_level, stored_level}
use Rattle.model.proofs.Backlog.{level_bound, blocks}
use Rattle.model.proofs.Invariant.{AllGood}

-- what passed from s on: of the priorities 0 to p in wire bytes, and of priority p in bytes of its buffer
abbrev pub up_passed : ℕ → List Passed → ℕ → ℕ
up_passed p h s = total (set_length (λ n. n) (up_to p) s) h

abbrev pub own_passed : ℕ → List Passed → ℕ → ℕ
own_passed p h s = total (set_length occupied (of_priority p) s) h

abbrev pub Levels : Table → List Passed → Scheduler → Type 0
Levels t h st = (p : ℕ) → p < 8 → Level p (blocking t p) (hold t p) (up_passed p h) (own_passed p h) st

-- what each buffer holds is at most its bound
pub held_bound : (t : Table) (h : List Passed) (st : Scheduler) (g : Gate) → Sound (longest t) st → AllGood t h st.clock g → Levels t h st
    → (p : ℕ) → p < 8 → held (queue_of st.queues p) ≤ bound t p
unfolding up_arrivals own_arrivals bound
held_bound t h st g sound good levels p m =
    level_bound t p (hold t p) (up_passed p h) (own_passed p h) st sound (levels p m)
    (gate_bound (good (λ n. n) wire_weight (up_to p)) wire_weight (levels p m).s (levels p m).since)
    (gate_bound (good occupied occupied_weight (of_priority p)) occupied_weight (levels p m).s (levels p m).since)

-- ---- an advance
pub record Leveled (t : Table) (h : List Passed) (c : ℕ) (st : Scheduler) : Type 0 where
  pub past : c ≤ st.clock
  pub sound : Sound (longest t) st
  pub levels : Levels t h st

-- a tick keeps all levels: what passed until c is bounded at every later clock
pub tick_leveled : (t : Table) → HasBounds t → (h : List Passed) (c : ℕ) (g : Gate) → AllGood t h c g → (s : Scheduler) → Leveled t h c s → Leveled t h c (tick s).scheduler
unfolding up_arrivals
tick_leveled t b h c g good s x =
    record {
      past = omega (arith, x.past, tick_clock s);
      sound = tick_sound (longest t) s x.sound;
      levels =
          λ p n.
          tick_level (longest t) p (blocking t p) (hold t p) (up_passed p h) (own_passed p h) (up_arrivals t p) (λ q i. blocks t p q i)
          (hold_is t p (hold t p) (b.holds p n)).holds s x.sound
          (gate_bound (later_good (good (λ i. i) wire_weight (up_to p)) s.clock x.past) wire_weight)
          (x.levels p n);
    }

pub advance_levels : (t : Table) → HasBounds t → (h : List Passed) (st : Scheduler) (g : Gate) (time : ℕ) → Sound (longest t) st → AllGood t h st.clock g → Levels t h st
    → Levels t h (advance time st).scheduler
unfolding advance
advance_levels t b h st g time sound good levels =
    (ticks_keep (Leveled t h st.clock) st.clock (λ s l x. tick_leveled t b h st.clock g good s x) (time - st.clock) st (le_refl st.clock)
    (record { past = le_refl st.clock; sound = sound; levels = levels })).levels

-- ---- a frame that passed
module _ (t : Table) (h : List Passed) (st : Scheduler) (v : VirtualLink) (f : Frame) (clock : f.arrival ≡ st.clock) (levels : Levels t h st) where
  pub lost_levels : Levels t (passed_frame v f.length f.arrival ∷ h) st
  lost_levels p m =
      more_level p (blocking t p) (hold t p) (up_passed p h) (own_passed p h) (up_passed p (passed_frame v f.length f.arrival ∷ h)) (own_passed p (passed_frame v f.length f.arrival ∷ h)) st
      (λ s l. omega (arith, total_new (λ n. n) (up_to p) s (passed_frame v f.length f.arrival) h (omega arith)))
      (λ s l. omega (arith, total_new occupied (of_priority p) s (passed_frame v f.length f.arrival) h (omega arith))) (levels p m)

  pub stored_levels : v.priority < length st.queues → 0 < f.length → Levels t (passed_frame v f.length f.arrival ∷ h) (stored st v.priority f)
  unfolding up_to of_priority
  stored_levels in_range long p m =
      stored_level p (blocking t p) (hold t p) (up_passed p h) (own_passed p h) (up_passed p (passed_frame v f.length f.arrival ∷ h)) (own_passed p (passed_frame v f.length f.arrival ∷ h)) st v.priority f in_range long clock
      (λ s l. total_new (λ n. n) (up_to p) s (passed_frame v f.length f.arrival) h (omega arith))
      (λ s l. total_new occupied (of_priority p) s (passed_frame v f.length f.arrival) h (omega arith)) (levels p m)
