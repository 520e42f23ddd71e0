-- The sum, call by call.
use mathlib.Core.Path.{◌≡◌, refl, sym, ap, ◌∙◌}
use mathlib.Core.Bool.{Bool, true, false, cond}
use mathlib.Core.List.{List, []}
use Prim.Native.Nat.{ℕ, suc, ◌+◌, ◌-◌, ◌*◌, ◌/◌, ◌≤◌, ◌<◌}
use native.Mathlib.Omega.{arith}
use lib.ListN.{length, get_or, take, drop}
use borrow.Author.Tests.{lt-ltb, le-ltb}
use Rattle.model.specs.Redundancy.{State, Selection, fresh, select}
use Rattle.redundancy.specs.declared.Decision.{Decision as DecisionRecord}
use Rattle.redundancy.specs.View.{view_state, network_of, view_decision}
use Rattle.redundancy_measure.specs.declared.Measure.{Measure}
use Rattle.redundancy_measure.specs.Measure.{measure_of}
use Rattle.redundancy_bench.specs.Sums.{frame_at, placed, is_b, added, Recordings, answer_at, sum_of}

-- k of so many calls are made
module _ (r : Recordings) (s : State) (i j total calls k : ℕ) (more : k < calls) (d : DecisionRecord) (m : Measure)
    (decided : view_decision d ≡ (answer_at r s i j).decision) (measured : m ≡ measure_of (answer_at r s i j).part) where
  left : calls - k ≡ suc (calls - (k + 1))
  left = omega arith

  pub step : (b : Bool) → b ≡ is_b (network_of d.outcome)
      → sum_of (calls - k) r s i j total ≡ sum_of (calls - (k + 1)) r (view_state d.state) (cond b i (i + 1)) (cond b (j + 1) j) (added total m)
  unfolding sum_of
  step b e = rw (left, e, measured) (ap (λ x. sum_of (calls - (k + 1)) r x.state (cond (is_b x.network) i (i + 1)) (cond (is_b x.network) (j + 1) j) (added total (measure_of (answer_at r s i j).part))) (sym decided))

-- ---- the frame at a place
pub frame_there : (frames : List ℕ) (k : ℕ) → k < length frames / 64 → take (k * 64 + 64 - k * 64) (drop (k * 64) frames) ≡ frame_at frames k
unfolding frame_at
frame_there frames k h =
    let n : k * 64 + 64 - k * 64 ≡ 64 = omega arith in
    rw (lt-ltb k (length frames / 64) h, n) refl

pub frame_past : (frames : List ℕ) (k : ℕ) → length frames / 64 ≤ k → [] ≡ frame_at frames k
unfolding frame_at
frame_past frames k h = rw (le-ltb k (length frames / 64) h) refl

-- ---- the loop: so many calls are made, and the sum of those that are left, from here, is the whole sum
pub record Going (r : Recordings) (skew calls : ℕ) (s : State) (i j total k : ℕ) : Type 0 where
  pub at_a : i ≤ k
  pub at_b : j ≤ k
  pub made : k ≤ calls
  pub whole : sum_of (calls - k) r s i j total ≡ sum_of calls r (fresh skew) 0 0 0

pub begins : (r : Recordings) (skew calls : ℕ) {s : State} → s ≡ fresh skew → Going r skew calls s 0 0 0 0
begins r skew calls e = record { at_a = omega arith; at_b = omega arith; made = omega arith; whole = ap (λ x. sum_of (calls - 0) r x 0 0 0) e ∙ ap (λ (n : ℕ). sum_of n r (fresh skew) 0 0 0) zero_less }
  where
    zero_less : calls - 0 ≡ calls
    zero_less = omega arith

pub ends : (r : Recordings) (skew calls : ℕ) {s : State} {i j total k : ℕ} → Going r skew calls s i j total k → calls ≤ k → total ≡ sum_of calls r (fresh skew) 0 0 0
unfolding sum_of
ends r skew calls {s} {i} {j} {total} {k} g h = let none_left : calls - k ≡ 0 = omega arith in rw none_left at g.whole

module _ (r : Recordings) (skew calls : ℕ) {s : State} {i j total k : ℕ} (g : Going r skew calls s i j total k) (more : k < calls)
    {fa fb : List ℕ} {ta tb : ℕ} (ea : fa ≡ frame_at r.a i) (eta : ta ≡ get_or r.ticks_a i 0) (eb : fb ≡ frame_at r.b j) (etb : tb ≡ get_or r.ticks_b j 0)
    (d : DecisionRecord) (m : Measure) (decided : view_decision d ≡ (select s (placed fa ta fb tb)).decision) (measured : m ≡ measure_of (select s (placed fa ta fb tb)).part)
    {total' : ℕ} (sum : total' ≡ added total m) {b : Bool} (which : b ≡ is_b (network_of d.outcome)) where
  is_answer : select s (placed fa ta fb tb) ≡ answer_at r s i j
  is_answer = rw (ea, eta, eb, etb) refl

  next : sum_of (calls - (k + 1)) r (view_state d.state) (cond b i (i + 1)) (cond b (j + 1) j) total' ≡ sum_of calls r (fresh skew) 0 0 0
  next =
      rw sum
      (sym (step r s i j total calls k more d m (decided ∙ ap (λ (x : Selection). x.decision) is_answer) (measured ∙ ap (λ (x : Selection). measure_of x.part) is_answer) b which) ∙ g.whole)

  pub taken_b : b ≡ true → {i' j' : ℕ} → i' ≡ i → j' ≡ j + 1 → Going r skew calls (view_state d.state) i' j' total' (k + 1)
  taken_b e ei ej = record { at_a = omega (arith, g.at_a, ei); at_b = omega (arith, g.at_b, ej); made = omega (arith, more); whole = rw (ei, ej) (rw e at next) }

  pub taken_a : b ≡ false → {i' j' : ℕ} → i' ≡ i + 1 → j' ≡ j → Going r skew calls (view_state d.state) i' j' total' (k + 1)
  taken_a e ei ej = record { at_a = omega (arith, g.at_a, ei); at_b = omega (arith, g.at_b, ej); made = omega (arith, more); whole = rw (ei, ej) (rw e at next) }

-- the recordings that the call is given
abbrev pub recordings : List ℕ → List ℕ → List ℕ → List ℕ → Recordings
recordings a ticks_a b ticks_b = record { a = a; ticks_a = ticks_a; b = b; ticks_b = ticks_b }
