-- Climbing to the hold, which no step passes.
use mathlib.Core.Path.{◌≡◌}
use mathlib.Core.Option.{none, some}
use Prim.Native.Nat.{ℕ, ◌+◌, ◌-◌, ◌≤◌, ◌<◌}
use native.Mathlib.Decide.{dec_le}
use native.Mathlib.Omega.{arith}
use borrow.Author.Tests.{le-leb, lt-leb}
use Rattle.model.specs.Table.{Table}
use Rattle.model.specs.Bounds.{up_arrivals, blocking, hold_test, hold_by, hold_of}
use Rattle.model.specs.Promises.{IsHold}
use Rattle.model.proofs.Search.{is_first, is_none}
use Rattle.model.proofs.Holds.{up_grows}

-- no w up to this one is a hold
pub record Unheld (t : Table) (p last : ℕ) : Type 0 where
  pub none : (k : ℕ) → 1 ≤ k → k ≤ last → k < blocking t p + up_arrivals t p (k - 1)

pub hold_found : (t : Table) (p w : ℕ) → IsHold t p w → hold_of t p ≡ some w
unfolding hold_of hold_by hold_test
hold_found t p w h =
    is_first (hold_test (blocking t p) (up_arrivals t p)) 65_536 1 w
    (record { from = h.least_is; below = omega (arith, h.most_is); holds = le-leb _ _ h.holds; before = λ k i j. lt-leb _ _ (h.smallest k i j) })

module _ (t : Table) (p : ℕ) where
  pub unheld_start : Unheld t p 0
  unheld_start = record { none = λ k l m. absurd (omega arith) }

  module _ (last n b a : ℕ) (u : Unheld t p last) (eb : b ≡ blocking t p) (ea : a ≡ up_arrivals t p last) (en : n ≡ b + a) where
    pub unheld_climb : last + 1 < n → Unheld t p (n - 1)
    unheld_climb h = record { none = λ k l m. go k l m (dec_le k last) }
      where
        go : (k : ℕ) → 1 ≤ k → k ≤ n - 1 → Dec (k ≤ last) → k < blocking t p + up_arrivals t p (k - 1)
        go k l m (yes x) = u.none k l x
        go k l m (no x) = omega (arith, up_grows t p last (k - 1) (omega arith))

    pub is_hold : last < 65_536 → n ≤ last + 1 → IsHold t p (last + 1)
    is_hold h l =
        record {
          least_is = omega arith;
          most_is = omega arith;
          holds = let e : last + 1 - 1 ≡ last = omega arith in rw e (omega arith);
          smallest = λ k x y. u.none k x (omega arith);
        }

  pub climbed_none : (last : ℕ) → Unheld t p last → 65_536 ≤ last → hold_of t p ≡ none
  unfolding hold_of hold_by hold_test
  climbed_none last u h = is_none (hold_test (blocking t p) (up_arrivals t p)) 65_536 1 (λ k i j. lt-leb _ _ (u.none k i (omega arith)))
