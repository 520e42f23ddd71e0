-- k ticks in closed form: the laws by which an advance frame by frame equals the tick machine.
use mathlib.Core.Path.{◌≡◌}
use mathlib.Core.Option.{none, some}
use mathlib.Core.List.{List, [], ◌∷◌, ◌++◌, append_assoc}
use Prim.Native.Nat.{ℕ, zero, suc, ◌+◌, ◌-◌, ◌≤◌, ◌<◌}
use native.Mathlib.Nat.{add-zero}
use native.Mathlib.Omega.{arith}
use borrow.Author.Tests.{eq-eqb, ne_eqb}
use Rattle.model.specs.Machine.{Frame, Sender, idle, sending, Departure, Advance, at, advanced, head_of, without_head, highest_waiting, start_if_any, started, departure, freed_if, byte_leaves, tick, preceded, ticks, advance}

-- nothing waits
quiet_idle : (k m : ℕ) (qs : List (List Frame)) → highest_waiting qs ≡ none → ticks k (at m qs idle) ≡ advanced [] (at (m + k) qs idle)
unfolding ticks tick byte_leaves freed_if started start_if_any
quiet_idle zero m qs e = rw add-zero
quiet_idle (suc k) m qs e = let g : suc m + k ≡ m + suc k = omega arith in rw (e, quiet_idle k (suc m) qs e, g)

-- the highest_waiting waiting frame started
start : (k m p : ℕ) (qs : List (List Frame)) → highest_waiting qs ≡ some p → ticks (suc k) (at m qs idle) ≡ ticks (suc k) (at m qs (sending p m))
unfolding ticks tick started start_if_any
start k m p qs e = rw e

module _ (qs : List (List Frame)) (p s : ℕ) where
  -- a frame is under way for k ticks
  quiet : (k m : ℕ) → m + k < s + (head_of qs p).length → ticks k (at m qs (sending p s)) ≡ advanced [] (at (m + k) qs (sending p s))
  unfolding ticks tick byte_leaves freed_if started
  quiet zero m l = rw add-zero
  quiet (suc k) m l =
      let g : suc m + k ≡ m + suc k = omega arith in
      rw (ne_eqb (s + (head_of qs p).length) (suc m) (λ e. omega arith), quiet k (suc m) (omega arith), g)

  -- it byte_leaves
  leave : (k j m : ℕ) → m + suc j ≡ s + (head_of qs p).length →
      ticks (suc j + k) (at m qs (sending p s)) ≡ preceded (departure (head_of qs p) (s + (head_of qs p).length) ∷ []) (ticks k (at (s + (head_of qs p).length) (without_head qs p) idle))
  unfolding ticks tick byte_leaves freed_if started
  leave k zero m e = let h : s + (head_of qs p).length ≡ suc m = omega arith in
      let g : 1 + k ≡ suc k = omega arith in
      rw (g, eq-eqb (s + (head_of qs p).length) (suc m) h, h)
  leave k (suc j) m e =
      let g : suc (suc j) + k ≡ suc (suc j + k) = omega arith in
      rw (g, ne_eqb (s + (head_of qs p).length) (suc m) (λ h. omega arith), leave k j (suc m) (omega arith))

  pub under_way : (t m : ℕ) → m ≤ t → t < s + (head_of qs p).length → advance t (at m qs (sending p s)) ≡ advanced [] (at t qs (sending p s))
  unfolding advance
  under_way t m h l = let e : m + (t - m) ≡ t = omega arith in rw (quiet (t - m) m (omega arith), e)

  pub sent : (t m : ℕ) → m < s + (head_of qs p).length → s + (head_of qs p).length ≤ t →
      advance t (at m qs (sending p s)) ≡ preceded (departure (head_of qs p) (s + (head_of qs p).length) ∷ []) (advance t (at (s + (head_of qs p).length) (without_head qs p) idle))
  unfolding advance
  sent t m h l =
      let e : t - m ≡ suc (s + (head_of qs p).length - suc m) + (t - (s + (head_of qs p).length)) = omega arith in
      rw e (leave (t - (s + (head_of qs p).length)) (s + (head_of qs p).length - suc m) m (omega arith))

pub nothing_waits : (t m : ℕ) (qs : List (List Frame)) → highest_waiting qs ≡ none → m ≤ t → advance t (at m qs idle) ≡ advanced [] (at t qs idle)
unfolding advance
nothing_waits t m qs e h = let g : m + (t - m) ≡ t = omega arith in rw (quiet_idle (t - m) m qs e, g)

pub time_up : (t : ℕ) (qs : List (List Frame)) (s : Sender) → advance t (at t qs s) ≡ advanced [] (at t qs s)
unfolding advance ticks
time_up t qs s = let g : t - t ≡ 0 = omega arith in rw g

pub starting : (t m p : ℕ) (qs : List (List Frame)) → highest_waiting qs ≡ some p → m < t → advance t (at m qs idle) ≡ advance t (at m qs (sending p m))
unfolding advance
starting t m p qs e h = let g : t - m ≡ suc (t - suc m) = omega arith in rw g (start (t - suc m) m p qs e)

pub preceded_preceded : (a b : List Departure) (r : Advance) → preceded a (preceded b r) ≡ preceded (a ++ b) r
preceded_preceded a b r = rw append_assoc
