-- What every departure keeps of a queue, an advance keeps.
use mathlib.Core.Bool.{Bool, true, false}
use mathlib.Core.Option.{Option, none, some}
use mathlib.Core.List.{List, [], ◌∷◌}
use mathlib.Core.Path.{◌≡◌, refl}
use Prim.Native.Nat.{ℕ, suc, ◌+◌, ◌-◌, ◌≤◌}
use native.Mathlib.Nat.{le_refl}
use native.Mathlib.Omega.{arith}
use lib.Dec.{eqb}
use lib.ListN.{drop}
use Rattle.model.specs.Basics.{Each}
use Rattle.model.specs.Machine.{Frame, Sender, idle, sending, Scheduler, queue_of, head_of, highest_waiting, start_if_any, started, freed_if, byte_leaves, tick, advance, bytes, held}
use Rattle.model.proofs.BusyPeriod.{Under, SendsInTime, Meets, Sound, set_keeps}
use Rattle.model.proofs.BusySteps.{begins, tick_sound, ticks_clock, ticks_keep}

module _ (Q : ℕ → List Frame → Type 0) (tail : (q : ℕ) (l : List Frame) → Q q l → Q q (drop 1 l)) where
  leaves_keeps : (c : ℕ) (qs : List (List Frame)) (r s : ℕ) → Under c qs r s → ((q : ℕ) → Q q (queue_of qs q)) → (q : ℕ) → Q q (queue_of (byte_leaves c qs (sending r s)).scheduler.queues q)
  unfolding byte_leaves freed_if
  leaves_keeps c qs r s u e q = go (eqb (s + (head_of qs r).length) (suc c))
    where
      go : (x : Bool) → Q q (queue_of (freed_if x c qs r s).scheduler.queues q)
      go true = set_keeps Q qs r (drop 1 (queue_of qs r)) u.in_range (tail r (queue_of qs r) (e r)) e q
      go false = e q

  wakes_keeps : (limit : ℕ → ℕ) (c : ℕ) (qs : List (List Frame)) → ((j : ℕ) → Each (Meets (limit j) c) (queue_of qs j)) → (o : Option ℕ) → highest_waiting qs ≡ o → ((q : ℕ) → Q q (queue_of qs q))
      → (q : ℕ) → Q q (queue_of (byte_leaves c qs (start_if_any c o)).scheduler.queues q)
  unfolding byte_leaves freed_if start_if_any
  wakes_keeps limit c qs m none x e q = e q
  wakes_keeps limit c qs m (some r) x e q = leaves_keeps c qs r c (begins limit c qs r m x) e q

  tick_keeps : (limit : ℕ → ℕ) (st : Scheduler) → Sound limit st → ((q : ℕ) → Q q (queue_of st.queues q)) → (q : ℕ) → Q q (queue_of (tick st).scheduler.queues q)
  unfolding tick started SendsInTime
  tick_keeps limit st k e q = go st.sender k.sends
    where
      go : (z : Sender) → SendsInTime st.clock st.queues z → Q q (queue_of (byte_leaves st.clock st.queues (started st.clock st.queues z)).scheduler.queues q)
      go idle m = wakes_keeps limit st.clock st.queues k.frames (highest_waiting st.queues) refl e q
      go (sending r s) m = leaves_keeps st.clock st.queues r s m.1 e q

  record Queued (limit : ℕ → ℕ) (st : Scheduler) : Type 0 where
    sound : Sound limit st
    each : (q : ℕ) → Q q (queue_of st.queues q)

  pub advance_keeps : (limit : ℕ → ℕ) (time : ℕ) (st : Scheduler) → Sound limit st → ((q : ℕ) → Q q (queue_of st.queues q)) → (q : ℕ) → Q q (queue_of (advance time st).scheduler.queues q)
  unfolding advance
  advance_keeps limit time st k e =
      (ticks_keep (Queued limit) st.clock
      (λ s l x. record { sound = tick_sound limit s x.sound; each = tick_keeps limit s x.sound x.each })
      (time - st.clock) st (le_refl st.clock) (record { sound = k; each = e })).each

pub advance_sound : (limit : ℕ → ℕ) (time : ℕ) (st : Scheduler) → Sound limit st → Sound limit (advance time st).scheduler
unfolding advance
advance_sound limit time st k = ticks_keep (Sound limit) st.clock (λ s l x. tick_sound limit s x) (time - st.clock) st (le_refl st.clock) k

pub advance_clock : (time : ℕ) (s : Scheduler) → s.clock ≤ time → (advance time s).scheduler.clock ≡ time
unfolding advance
advance_clock time s l = omega (arith, ticks_clock (time - s.clock) s)

pub held_tail : (l : List Frame) → held (drop 1 l) ≤ held l
unfolding bytes
held_tail [] = le_refl 0
held_tail (f ∷ l) = omega arith
