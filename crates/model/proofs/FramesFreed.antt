-- The frames that an advance frees and those that it leaves are the frames held before.
use mathlib.Core.Path.{◌≡◌, refl}
use mathlib.Core.Bool.{Bool, true, false}
use mathlib.Core.Option.{Option, none, some}
use mathlib.Core.List.{List, [], ◌∷◌}
use Prim.Native.Nat.{ℕ, zero, suc, ◌+◌, ◌<◌}
use native.Mathlib.Omega.{arith}
use lib.Dec.{eqb}
use lib.ListN.{length, set, drop, length-append}
use Rattle.model.specs.Basics.{Each}
use Rattle.model.specs.Machine.{Frame, Sender, idle, sending, Scheduler, queue_of, head_of, highest_waiting, start_if_any, started, freed_if, byte_leaves, tick, ticks, frames_held}
use Rattle.model.proofs.BusyPeriod.{Under, SendsInTime, Meets, Sound}
use Rattle.model.proofs.BusySteps.{begins, tick_sound}

frames_set : (qs : List (List Frame)) (q : ℕ) (l : List Frame) → q < length qs → frames_held (set qs q l) + length (queue_of qs q) ≡ frames_held qs + length l
unfolding frames_held
frames_set [] q l k = absurd (omega arith)
frames_set (x ∷ qs) zero l k = omega arith
frames_set (x ∷ qs) (suc q) l k = omega (arith, frames_set qs q l (omega arith))

tail_length : (l : List Frame) → 0 < length l → length (drop 1 l) + 1 ≡ length l
tail_length [] k = absurd (omega arith)
tail_length (f ∷ l) k = omega arith

leaves_count : (c : ℕ) (qs : List (List Frame)) (q s : ℕ) → Under c qs q s → length (byte_leaves c qs (sending q s)).departures + frames_held (byte_leaves c qs (sending q s)).scheduler.queues ≡ frames_held qs
unfolding byte_leaves freed_if
leaves_count c qs q s u = go (eqb (s + (head_of qs q).length) (suc c))
  where
    go : (x : Bool) → length (freed_if x c qs q s).departures
        + frames_held (freed_if x c qs q s).scheduler.queues ≡ frames_held qs
    go true = omega (arith, frames_set qs q (drop 1 (queue_of qs q)) u.in_range, tail_length (queue_of qs q) u.waits)
    go false = omega arith

wakes_count : (limit : ℕ → ℕ) (c : ℕ) (qs : List (List Frame)) (o : Option ℕ) → highest_waiting qs ≡ o → ((j : ℕ) → Each (Meets (limit j) c) (queue_of qs j))
    → length (byte_leaves c qs (start_if_any c o)).departures + frames_held (byte_leaves c qs (start_if_any c o)).scheduler.queues ≡ frames_held qs
unfolding byte_leaves freed_if start_if_any
wakes_count limit c qs none x m = omega arith
wakes_count limit c qs (some q) x m = leaves_count c qs q c (begins limit c qs q m x)

tick_count : (limit : ℕ → ℕ) (st : Scheduler) → Sound limit st → length (tick st).departures + frames_held (tick st).scheduler.queues ≡ frames_held st.queues
unfolding tick started SendsInTime
tick_count limit st k = go st.sender k.sends
  where
    go : (z : Sender) → SendsInTime st.clock st.queues z
        → length (byte_leaves st.clock st.queues (started st.clock st.queues z)).departures + frames_held (byte_leaves st.clock st.queues (started st.clock st.queues z)).scheduler.queues ≡ frames_held st.queues
    go idle m = wakes_count limit st.clock st.queues (highest_waiting st.queues) refl k.frames
    go (sending q s) m = leaves_count st.clock st.queues q s m.1

pub ticks_count : (limit : ℕ → ℕ) (k : ℕ) (st : Scheduler) → Sound limit st → length (ticks k st).departures + frames_held (ticks k st).scheduler.queues ≡ frames_held st.queues
unfolding ticks
ticks_count limit zero st x = omega arith
ticks_count limit (suc k) st x =
    omega (arith, length-append (tick st).departures (ticks k (tick st).scheduler).departures, tick_count limit st x, ticks_count limit k (tick st).scheduler (tick_sound limit st x))
