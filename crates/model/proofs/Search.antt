-- Searches: the first and the last number that pass a test, the greatest of a function, and climbing to a fixed point.
use mathlib.Core.Path.{◌≡◌, refl, sym, ◌∙◌}
use mathlib.Core.Logic.{inl, inr}
use mathlib.Core.Bool.{Bool, true, false}
use mathlib.Core.Option.{Option, none, some}
use Prim.Native.Nat.{ℕ, zero, suc, ◌+◌, ◌-◌, ◌≤◌, ◌<◌, max}
use native.Mathlib.Nat.{le_refl, eq-or-lt_of_le}
use native.Mathlib.Decide.{dec_le}
use native.Mathlib.Omega.{arith}
use Rattle.model.specs.Basics.{greatest_to, first_from, last_below}

-- ---- the first
pub record IsFirst (p : ℕ → Bool) (n a w : ℕ) : Type 0 where
  pub from : a ≤ w
  pub below : w < a + n
  pub holds : p w ≡ true
  pub before : (k : ℕ) → a ≤ k → k < w → p k ≡ false

pub found_first : (p : ℕ → Bool) (n a w : ℕ) → first_from p n a ≡ some w → IsFirst p n a w
unfolding first_from
found_first p zero a w e = absurd (let z : ◌≡◌ {A = ℕ} 0 1 = cc in omega arith)
found_first p (suc n) a w e = go (p a) refl (found_first p n (suc a) w)
  where
    go : (b : Bool) → p a ≡ b → (first_from p n (suc a) ≡ some w → IsFirst p n (suc a) w) → IsFirst p (suc n) a w
    go true q ih =
        let z : a ≡ w = let y : some a ≡ some w = rw q at e in cc in
        record { from = omega arith; below = omega arith; holds = rw (← z) q; before = λ k l m. absurd (omega arith) }
    go false q ih =
        let f : IsFirst p n (suc a) w = ih (rw q at e) in
        record {
          from = omega arith;
          below = omega arith;
          holds = f.holds;
          before = λ k l m. elim (eq-or-lt_of_le l) [ inl x ↦ rw (← x) q | inr x ↦ f.before k x m ];
        }

pub found_none : (p : ℕ → Bool) (n a : ℕ) → first_from p n a ≡ none → (k : ℕ) → a ≤ k → k < a + n → p k ≡ false
unfolding first_from
found_none p zero a e k l m = absurd (omega arith)
found_none p (suc n) a e k l m = go (p a) refl (found_none p n (suc a))
  where
    go : (b : Bool) → p a ≡ b → (first_from p n (suc a) ≡ none → (j : ℕ) → suc a ≤ j → j < suc a + n → p j ≡ false) → p k ≡ false
    go true q ih = absurd (let z : ◌≡◌ {A = ℕ} 0 1 = let y : ◌≡◌ {A = Option ℕ} (some a) none = rw q at e in cc in omega arith)
    go false q ih = elim (eq-or-lt_of_le l) [ inl x ↦ rw (← x) q | inr x ↦ ih (rw q at e) k x (omega arith) ]

-- a test that holds wherever another does is passed no later
pub first_sooner : (p q : ℕ → Bool) → ((k : ℕ) → q k ≡ true → p k ≡ true) → (n a w : ℕ) → first_from q n a ≡ some w → (v : ℕ) × (first_from p n a ≡ some v) × (v ≤ w)
first_sooner p q h n a w e = go (first_from p n a) refl
  where
    late : IsFirst q n a w
    late = found_first q n a w e

    clash : p w ≡ false → ⊥
    clash x = let z : ◌≡◌ {A = ℕ} 0 1 = let y : true ≡ false = sym (h w late.holds) ∙ x in cc in omega arith

    go : (o : Option ℕ) → first_from p n a ≡ o → (v : ℕ) × (first_from p n a ≡ some v) × (v ≤ w)
    go none x = absurd (clash (found_none p n a x w late.from late.below))
    go (some v) x = (v, x, elim (dec_le v w) [ yes l ↦ l | no l ↦ absurd (clash ((found_first p n a v x).before w late.from (omega arith))) ])

-- the other way: what is first is what the search finds
pub is_first : (p : ℕ → Bool) (n a w : ℕ) → IsFirst p n a w → first_from p n a ≡ some w
unfolding first_from
is_first p zero a w f = absurd (omega arith)
is_first p (suc n) a w f = elim (eq-or-lt_of_le f.from) [ inl x ↦ here x | inr x ↦ there x (is_first p n (suc a) w) ]
  where
    here : a ≡ w → first_from p (suc n) a ≡ some w
    here x = let t : p a ≡ true = rw x f.holds in rw (t, x)

    there : a < w → (IsFirst p n (suc a) w → first_from p n (suc a) ≡ some w) → first_from p (suc n) a ≡ some w
    there x ih =
        rw (f.before a (le_refl a) x)
        (ih (record { from = x; below = omega arith; holds = f.holds; before = λ k l m. f.before k (omega arith) m }))

pub is_none : (p : ℕ → Bool) (n a : ℕ) → ((k : ℕ) → a ≤ k → k < a + n → p k ≡ false) → first_from p n a ≡ none
unfolding first_from
is_none p zero a h = refl
is_none p (suc n) a h = rw (h a (le_refl a) (omega arith)) (is_none p n (suc a) (λ k l m. h k (omega arith) (omega arith)))

-- ---- the last
pub record IsLast (p : ℕ → Bool) (n w : ℕ) : Type 0 where
  pub below : w < n
  pub holds : p w ≡ true
  pub after : (k : ℕ) → w < k → k < n → p k ≡ false

pub found_last : (p : ℕ → Bool) (n w : ℕ) → last_below p n ≡ some w → IsLast p n w
unfolding last_below
found_last p zero w e = absurd (let z : ◌≡◌ {A = ℕ} 0 1 = cc in omega arith)
found_last p (suc n) w e = go (p n) refl (found_last p n w)
  where
    go : (b : Bool) → p n ≡ b → (last_below p n ≡ some w → IsLast p n w) → IsLast p (suc n) w
    go true q ih =
        let z : n ≡ w = let y : some n ≡ some w = rw q at e in cc in
        record { below = omega arith; holds = rw (← z) q; after = λ k l m. absurd (omega arith) }
    go false q ih =
        let f : IsLast p n w = ih (rw q at e) in
        record {
          below = omega arith;
          holds = f.holds;
          after = λ k l m. elim (eq-or-lt_of_le m) [ inl x ↦ (let y : k ≡ n = omega arith in rw y q) | inr x ↦ f.after k l (omega arith) ];
        }

pub no_last : (p : ℕ → Bool) (n : ℕ) → last_below p n ≡ none → (k : ℕ) → k < n → p k ≡ false
unfolding last_below
no_last p zero e k l = absurd (omega arith)
no_last p (suc n) e k l = go (p n) refl (no_last p n)
  where
    go : (b : Bool) → p n ≡ b → (last_below p n ≡ none → (j : ℕ) → j < n → p j ≡ false) → p k ≡ false
    go true q ih = absurd (let z : ◌≡◌ {A = ℕ} 0 1 = let y : ◌≡◌ {A = Option ℕ} (some n) none = rw q at e in cc in omega arith)
    go false q ih = elim (eq-or-lt_of_le l) [ inl x ↦ (let y : k ≡ n = omega arith in rw y q) | inr x ↦ ih (rw q at e) k (omega arith) ]

pub is_last : (p : ℕ → Bool) (n w : ℕ) → IsLast p n w → last_below p n ≡ some w
unfolding last_below
is_last p zero w f = absurd (omega arith)
is_last p (suc n) w f = elim (eq-or-lt_of_le f.below) [ inl x ↦ here (omega arith) | inr x ↦ there (omega arith) (is_last p n w) ]
  where
    here : n ≡ w → last_below p (suc n) ≡ some w
    here x = let t : p n ≡ true = rw x f.holds in rw (t, x)

    there : w < n → (IsLast p n w → last_below p n ≡ some w) → last_below p (suc n) ≡ some w
    there x ih = rw (f.after n x (le_refl (suc n))) (ih (record { below = x; holds = f.holds; after = λ k l m. f.after k l (omega arith) }))

pub is_no_last : (p : ℕ → Bool) (n : ℕ) → ((k : ℕ) → k < n → p k ≡ false) → last_below p n ≡ none
unfolding last_below
is_no_last p zero h = refl
is_no_last p (suc n) h = rw (h n (le_refl (suc n))) (is_no_last p n (λ k l. h k (omega arith)))

-- ---- the greatest
pub greatest_to_ge : (g : ℕ → ℕ) (n k : ℕ) → k < n → g k ≤ greatest_to g n
unfolding greatest_to
greatest_to_ge g zero k h = absurd (omega arith)
greatest_to_ge g (suc n) k h = elim (eq-or-lt_of_le h) [ inl x ↦ same (omega arith) | inr x ↦ omega (arith, greatest_to_ge g n k (omega arith)) ]
  where
    same : k ≡ n → g k ≤ max (greatest_to g n) (g n)
    same x = rw x (omega arith)

pub record Attained (g : ℕ → ℕ) (n : ℕ) : Type 0 where
  pub at : ℕ
  pub at_lt : at < n
  pub at_is : g at ≡ greatest_to g n

pub greatest_to_attained : (g : ℕ → ℕ) (n : ℕ) → 0 < n → Attained g n
unfolding greatest_to
greatest_to_attained g zero h = absurd (omega arith)
greatest_to_attained g (suc zero) h = record { at = 0; at_lt = h; at_is = omega arith }
greatest_to_attained g (suc (suc n)) h = go (greatest_to_attained g (suc n) (omega arith)) (dec_le (greatest_to g (suc n)) (g (suc n)))
  where
    go : Attained g (suc n) → Dec (greatest_to g (suc n) ≤ g (suc n)) → Attained g (suc (suc n))
    go a (yes l) = record { at = suc n; at_lt = omega arith; at_is = omega arith }
    go a (no l) = record { at = a.at; at_lt = omega arith; at_is = omega arith }

-- ---- climbing: from w to b + f (w − 1), which never passes a w with b + f (w − 1) ≤ w
unfoldable pub climb : (ℕ → ℕ) → ℕ → ℕ → ℕ → ℕ
climb f b zero w = w
climb f b (suc n) w = climb f b n (max w (b + f (w - 1)))

abbrev pub Grows : (ℕ → ℕ) → Type 0
Grows f = (x y : ℕ) → x ≤ y → f x ≤ f y

pub climb_below : (f : ℕ → ℕ) → Grows f → (b n w k : ℕ) → b + f (k - 1) ≤ k → w ≤ k → climb f b n w ≤ k
unfolding climb
climb_below f g b zero w k h l = l
climb_below f g b (suc n) w k h l =
    climb_below f g b n (max w (b + f (w - 1))) k h
    (omega (arith, g (w - 1) (k - 1) (omega arith)))
