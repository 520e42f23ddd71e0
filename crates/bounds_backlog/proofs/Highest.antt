-- The greatest value so far, and where it first occurs.
use mathlib.Core.Path.{◌≡◌}
use mathlib.Core.Option.{some}
use Prim.Native.Nat.{ℕ, zero, suc, ◌+◌, ◌≤◌, ◌<◌}
use native.Mathlib.Nat.{le_refl}
use native.Mathlib.Decide.{dec_le}
use native.Mathlib.Omega.{arith}
use lib.Dec.{eqb}
use borrow.Author.Tests.{eq-eqb, ne_eqb}
use Rattle.model.specs.Basics.{greatest_to, first_from}
use Rattle.model.proofs.Search.{is_first, greatest_to_ge}
use Rattle.bounds_backlog.specs.Peaks.{Crest, Highest}

module _ (g : ℕ → ℕ) where
  pub highest_none : Highest g 0 0 0
  highest_none = record { all = λ k l. absurd (omega arith); hit = omega arith; early = λ k l. absurd (omega arith); inside = omega arith }

  module _ (s e m w k : ℕ) (h : Highest g s m w) (c : Crest g s e k) where
    pub highest_new : m < g k → Highest g (e + 1) (g k) k
    highest_new l = record {
      all = λ j x. elim (dec_le s j) [ yes y ↦ c.all j y (omega arith) | no y ↦ omega (arith, h.all j (omega arith)) ];
      hit = le_refl (g k);
      early = λ j x. elim (dec_le s j) [ yes y ↦ c.before j y x | no y ↦ omega (arith, h.all j (omega arith)) ];
      inside = omega (arith, c.until);
    }

    pub highest_old : g k ≤ m → Highest g (e + 1) m w
    highest_old l = record {
      all = λ j x. elim (dec_le s j) [ yes y ↦ omega (arith, c.all j y (omega arith)) | no y ↦ h.all j (omega arith) ];
      hit = h.hit;
      early = h.early;
      inside = omega (arith, h.inside, c.from, c.until);
    }

  -- no value from s to e passes the greatest so far
  pub highest_same : (s e m w : ℕ) → s ≤ e → ((k : ℕ) → s ≤ k → k ≤ e → g k ≤ m) → Highest g s m w → Highest g (e + 1) m w
  highest_same s e m w l p h = record {
    all = λ k x. elim (dec_le s k) [ yes y ↦ p k y (omega arith) | no y ↦ h.all k (omega arith) ];
    hit = h.hit;
    early = h.early;
    inside = omega (arith, h.inside);
  }

  below : (n m : ℕ) → ((k : ℕ) → k < n → g k ≤ m) → greatest_to g n ≤ m
  unfolding greatest_to
  below zero m h = omega arith
  below (suc n) m h = omega (arith, below n m (λ k l. h k (omega arith)), h n (le_refl (suc n)))

  -- at the end: the greatest, and its first place
  module _ (n m w : ℕ) (p : 0 < n) (h : Highest g n m w) where
    pub highest_is : m ≡ greatest_to g n
    highest_is = let x = greatest_to_ge g n w (omega (arith, h.inside)) in let y = below n m h.all in omega (arith, h.hit)

    pub highest_first : first_from (λ k. eqb (g k) (greatest_to g n)) n 0 ≡ some w
    highest_first =
        let e = highest_is in
        let t = h.all w (omega (arith, h.inside)) in
        is_first (λ k. eqb (g k) (greatest_to g n)) n 0 w
        (record {
          from = omega arith;
          below = omega (arith, h.inside);
          holds = eq-eqb (g w) (greatest_to g n) (omega (arith, h.hit));
          before = λ k x y. ne_eqb (g k) (greatest_to g n) (λ q. omega (arith, h.early k y));
        })
