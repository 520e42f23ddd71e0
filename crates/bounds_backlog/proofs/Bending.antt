-- A function that bends down has its first greatest value where it first does not rise, and bisection on its slope finds the place.
use mathlib.Core.Path.{◌≡◌}
use mathlib.Core.Logic.{inl, inr}
use Prim.Native.Nat.{ℕ, zero, suc, ◌+◌, ◌-◌, ◌≤◌, ◌<◌, min}
use native.Mathlib.Nat.{le_refl, eq-or-lt_of_le, lt_of_not-le}
use native.Mathlib.Numerals.{add-one}
use native.Mathlib.Decide.{dec_le}
use native.Mathlib.Omega.{arith}
use Rattle.model.specs.Basics.{sum_to}
use Rattle.bounds_backlog.specs.Peaks.{Bends, Crest}

-- the first greatest value lies from low to high
pub record Bracket (f : ℕ → ℕ) (start last low high : ℕ) : Type 0 where
  pub from : start ≤ low
  pub order : low ≤ high
  pub until : high ≤ last
  pub rise : (j : ℕ) → start ≤ j → j < low → f j < f (suc j)
  pub fall : (j : ℕ) → high ≤ j → suc j ≤ last → f (suc j) ≤ f j

module _ (f : ℕ → ℕ) (s e : ℕ) where
  falls : Bends f s e → (k : ℕ) → s ≤ k → f (suc k) ≤ f k → (j : ℕ) → k ≤ j → suc j ≤ e → f (suc j) ≤ f j
  falls b k h d zero l m = let x : k ≡ 0 = omega arith in rw x at d
  falls b k h d (suc j) l m =
      elim (eq-or-lt_of_le l) [ inl x ↦ rw x at d | inr x ↦ omega (arith, b j (omega arith) m, falls b k h d j (omega arith) (omega arith)) ]

  rises : Bends f s e → (k : ℕ) → suc k ≤ e → f k < f (suc k) → (j : ℕ) → s ≤ j → j ≤ k → f j < f (suc j)
  rises b k h r j l m = elim (dec_le (f (suc j)) (f j)) [ yes x ↦ absurd (omega (arith, falls b j l x k m h)) | no x ↦ lt_of_not-le x ]

  down : (h : ℕ) → ((j : ℕ) → h ≤ j → suc j ≤ e → f (suc j) ≤ f j) → (j : ℕ) → h ≤ j → j ≤ e → f j ≤ f h
  down h d zero l m = let x : h ≡ 0 = omega arith in rw x (le_refl (f 0))
  down h d (suc j) l m =
      elim (eq-or-lt_of_le l) [ inl x ↦ rw x (le_refl (f (suc j))) | inr x ↦ omega (arith, d j (omega arith) m, down h d j (omega arith) (omega arith)) ]

  up : (h : ℕ) → ((j : ℕ) → s ≤ j → j < h → f j < f (suc j)) → (j : ℕ) → s ≤ j → j < h → f j < f h
  up zero r j l m = absurd (omega arith)
  up (suc h) r j l m =
      elim (eq-or-lt_of_le m) [
        | inl x ↦ (let y : j ≡ h = omega arith in rw y (r h (omega arith) (omega arith)))
        | inr x ↦ omega (arith, r h (omega arith) (omega arith), up h (λ i a b. r i a (omega arith)) j l (omega arith))
      ]

  pub bracket_all : s ≤ e → Bracket f s e s e
  bracket_all h = record { from = le_refl s; order = h; until = le_refl e; rise = λ j a b. absurd (omega arith); fall = λ j a b. absurd (omega arith) }

  module _ (b : Bends f s e) (low high mid : ℕ) (l : low ≤ mid) (h : mid < high) (k : Bracket f s e low high) where
    pub bracket_right : f mid < f (mid + 1) → Bracket f s e (mid + 1) high
    bracket_right r = record {
      from = omega (arith, k.from);
      order = omega arith;
      until = k.until;
      rise = λ j x y. rises b mid (omega (arith, k.until)) (rw add-one at r) j x (omega arith);
      fall = k.fall;
    }

    pub bracket_left : f (mid + 1) ≤ f mid → Bracket f s e low mid
    bracket_left d = record {
      from = k.from;
      order = l;
      until = omega (arith, k.until);
      rise = k.rise;
      fall = λ j x y. falls b mid (omega (arith, k.from)) (rw add-one at d) j x y;
    }

  pub bracket_one : (low high : ℕ) → high ≤ low → Bracket f s e low high → Crest f s e low
  bracket_one low high h k = record {
    from = k.from;
    until = omega (arith, k.until, k.order);
    before = λ j x y. up low k.rise j x y;
    all = λ j x y. elim (dec_le low j) [ yes z ↦ down low (λ i p q. k.fall i (omega arith) q) j z y | no z ↦ omega (arith, up low k.rise j x (omega arith)) ];
  }

  pub crest_of : (g : ℕ → ℕ) → ((k : ℕ) → s ≤ k → k ≤ e → f k ≡ g k) → (k : ℕ) → Crest f s e k → Crest g s e k
  crest_of g q k c = record {
    from = c.from;
    until = c.until;
    before = λ j x y. omega (arith, q j x (omega (arith, c.until)), q k c.from c.until, c.before j x y);
    all = λ j x y. omega (arith, q j x y, q k c.from c.until, c.all j x y);
  }

-- ---- what bends
pub ramp_bends : (t g s e : ℕ) → Bends (λ k. min t (k + g)) s e
ramp_bends t g s e k h l = omega arith

pub sum_bends : (h : ℕ → ℕ → ℕ) (n s e : ℕ) → ((ℓ : ℕ) → Bends (h ℓ) s e) → Bends (λ k. sum_to (λ ℓ. h ℓ k) n) s e
unfolding sum_to
sum_bends h zero s e p k a b = omega arith
sum_bends h (suc n) s e p k a b = omega (arith, sum_bends h n s e p k a b, p n k a b)

over_bends : (k b : ℕ) → (suc k - b) + (suc k - b) ≤ (k - b) + (suc (suc k) - b)
over_bends k b = omega arith

net_is : (u d m : ℕ) → d ≤ u → 1 ≤ m → ((u - d) + m - 1) + d + 1 ≡ u + m
net_is u d m h k = omega arith

min_bends : (a₀ a₁ a₂ x₀ x₁ x₂ : ℕ) → a₀ + a₂ ≤ a₁ + a₁ → x₀ + x₂ ≤ x₁ + x₁ → min a₀ x₀ + min a₂ x₂ ≤ min a₁ x₁ + min a₁ x₁
min_bends a₀ a₁ a₂ x₀ x₁ x₂ h k = omega arith

-- the smaller of two curves, of which one drains: where the difference is never truncated
pub drained_bends : (own up : ℕ → ℕ) (b m s e : ℕ) → 1 ≤ m → ((k : ℕ) → s ≤ k → k ≤ e → k - b ≤ up k) → Bends own s e → Bends up s e
    → Bends (λ k. min (own k) (up k - (k - b) + m - 1)) s e
drained_bends own up b m s e p q x y k h l =
    let n₀ = net_is (up k) (k - b) m (q k h (omega arith)) p in
    let n₁ = net_is (up (suc k)) (suc k - b) m (q (suc k) (omega arith) (omega arith)) p in
    let n₂ = net_is (up (suc (suc k))) (suc (suc k) - b) m (q (suc (suc k)) (omega arith) l) p in
    min_bends (own k) (own (suc k)) (own (suc (suc k))) _ _ _ (x k h l)
    (net (up k) (up (suc k)) (up (suc (suc k))) (k - b) (suc k - b) (suc (suc k) - b) _ _ _ n₀ n₁ n₂ (over_bends k b) (y k h l))
  where
    net : (u₀ u₁ u₂ d₀ d₁ d₂ x₀ x₁ x₂ : ℕ) → x₀ + d₀ + 1 ≡ u₀ + m → x₁ + d₁ + 1 ≡ u₁ + m → x₂ + d₂ + 1 ≡ u₂ + m → d₁ + d₁ ≤ d₀ + d₂ → u₀ + u₂ ≤ u₁ + u₁
        → x₀ + x₂ ≤ x₁ + x₁
    net u₀ u₁ u₂ d₀ d₁ d₂ x₀ x₁ x₂ a b c d e = omega arith
