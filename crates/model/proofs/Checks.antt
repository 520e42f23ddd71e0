-- The first check of a list that is met, and lists of conditions that all hold.
use mathlib.Core.Path.{◌≡◌, refl, sym, ◌∙◌}
use mathlib.Core.Logic.{◌≢◌, ◌⊎◌, inl, inr}
use mathlib.Core.Bool.{Bool, true, false, cond, and-eq-true_iff}
use mathlib.Core.List.{List, [], ◌∷◌, ◌++◌}
use Prim.Native.Nat.{ℕ, zero, suc, ◌<◌}
use native.Mathlib.Nat.{le_refl, eq-or-lt_of_le}
use native.Mathlib.Omega.{arith}
use Rattle.model.specs.Basics.{all_to, all_hold, Check, first_met, first_refusal}

-- ---- conditions

abbrev pub AllTrue : List Bool → Type 0
AllTrue [] = Unit {0}
AllTrue (b ∷ bs) = (b ≡ true) × AllTrue bs

pub all_true : (bs : List Bool) → all_hold bs ≡ true → AllTrue bs
unfolding all_hold
all_true [] e = tt
all_true (b ∷ bs) e = let both = (and-eq-true_iff b (all_hold bs)).0 e in (both.0, all_true bs both.1)

pub true_all : (bs : List Bool) → AllTrue bs → all_hold bs ≡ true
unfolding all_hold
true_all [] all = refl
true_all (b ∷ bs) all = (and-eq-true_iff b (all_hold bs)).1 (all.0, true_all bs all.1)

-- ---- a test that holds of 0, .., n − 1

pub all_to_lem : (test : ℕ → Bool) (n : ℕ) → all_to test n ≡ true → (k : ℕ) → k < n → test k ≡ true
unfolding all_to
all_to_lem test zero e k l = absurd (omega arith)
all_to_lem test (suc n) e k l = go ((and-eq-true_iff (all_to test n) (test n)).0 e) (eq-or-lt_of_le l) (λ x. all_to_lem test n x k)
  where
    go : (all_to test n ≡ true) × (test n ≡ true) → (suc k ≡ suc n) ⊎ (suc k < suc n) → (all_to test n ≡ true → k < n → test k ≡ true) → test k ≡ true
    go both (inl x) ih = let y : k ≡ n = omega arith in rw y both.1
    go both (inr x) ih = ih both.0 (omega arith)

pub to_all : (test : ℕ → Bool) (n : ℕ) → ((k : ℕ) → k < n → test k ≡ true) → all_to test n ≡ true
unfolding all_to
to_all test zero h = refl
to_all test (suc n) h = (and-eq-true_iff (all_to test n) (test n)).1 (to_all test n (λ k l. h k (omega arith)), h n (le_refl (suc n)))

pub not_all : (test : ℕ → Bool) (n k : ℕ) → k < n → test k ≡ false → all_to test n ≡ false
not_all test n k l e = go (all_to test n) refl
  where
    go : (b : Bool) → all_to test n ≡ b → b ≡ false
    go false q = refl
    go true q = absurd (let z : ◌≡◌ {A = ℕ} 0 1 = let w : true ≡ false = sym (all_to_lem test n q k l) ∙ e in cc in omega arith)

-- ---- one check

pub first_here : (c : Check) (cs : List Check) → c.met ≡ true → first_met (c ∷ cs) ≡ c.number
unfolding first_met
first_here c cs e = rw e

pub first_later : (c : Check) (cs : List Check) → c.met ≡ false → first_met (c ∷ cs) ≡ first_met cs
unfolding first_met
first_later c cs e = rw e

pub first_zero : (c : Check) (cs : List Check) → 0 < c.number → first_met (c ∷ cs) ≡ 0 → (c.met ≡ false) × (first_met cs ≡ 0)
unfolding first_met
first_zero c cs h e = go c.met refl
  where
    go : (b : Bool) → c.met ≡ b → (c.met ≡ false) × (first_met cs ≡ 0)
    go true q = absurd (let z : c.number ≡ 0 = rw q at e in omega arith)
    go false q = (q, rw q at e)

-- ---- numbers of checks

-- no number is 0, which stands for none
abbrev pub Numbered : List Check → Type 0
Numbered [] = Unit {0}
Numbered (c ∷ cs) = (0 < c.number) × Numbered cs

pub numbered_append : (a b : List Check) → Numbered a → Numbered b → Numbered (a ++ b)
numbered_append [] b p q = q
numbered_append (c ∷ a) b p q = (p.0, numbered_append a b p.1 q)

-- no check has that number
abbrev pub Apart : ℕ → List Check → Type 0
Apart n [] = Unit {0}
Apart n (c ∷ cs) = (c.number ≢ n) × Apart n cs

pub apart_append : (n : ℕ) (a b : List Check) → Apart n a → Apart n b → Apart n (a ++ b)
apart_append n [] b p q = q
apart_append n (c ∷ a) b p q = (p.0, apart_append n a b p.1 q)

pub first_apart : (n : ℕ) (cs : List Check) → 0 < n → Apart n cs → first_met cs ≡ n → ⊥
unfolding first_met
first_apart n [] h each e = omega arith
first_apart n (c ∷ cs) h each e = go c.met e (first_apart n cs h each.1)
  where
    go : (b : Bool) → cond b c.number (first_met cs) ≡ n → (first_met cs ≡ n → ⊥) → ⊥
    go true x later = each.0 x
    go false x later = later x

-- ---- no check is met

abbrev pub NoneMet : List Check → Type 0
NoneMet [] = Unit {0}
NoneMet (c ∷ cs) = (c.met ≡ false) × NoneMet cs

pub none_append : (a b : List Check) → NoneMet a → NoneMet b → NoneMet (a ++ b)
none_append [] b p q = q
none_append (c ∷ a) b p q = (p.0, none_append a b p.1 q)

pub none_front : (a b : List Check) → NoneMet (a ++ b) → NoneMet a
none_front [] b p = tt
none_front (c ∷ a) b p = (p.0, none_front a b p.1)

pub none_back : (a b : List Check) → NoneMet (a ++ b) → NoneMet b
none_back [] b p = p
none_back (c ∷ a) b p = none_back a b p.1

pub none_met : (cs : List Check) → Numbered cs → first_met cs ≡ 0 → NoneMet cs
none_met [] each e = tt
none_met (c ∷ cs) each e = let parts = first_zero c cs each.0 e in (parts.0, none_met cs each.1 parts.1)

-- past checks that are not met
pub first_past : (a b : List Check) → NoneMet a → first_met (a ++ b) ≡ first_met b
first_past [] b none = refl
first_past (c ∷ a) b none = first_later c (a ++ b) none.0 ∙ first_past a b none.1

pub first_none : (cs : List Check) → NoneMet cs → first_met cs ≡ 0
unfolding first_met
first_none [] none = refl
first_none (c ∷ cs) none = first_later c cs none.0 ∙ first_none cs none.1

refused_first : (n m : ℕ) → 0 < n → first_refusal n m ≡ n
unfolding first_refusal
refused_first zero m h = absurd (omega arith)
refused_first (suc n) m h = refl

-- the answer of the first list, or where that meets none, of the second
pub first_append : (a b : List Check) → Numbered a → first_met (a ++ b) ≡ first_refusal (first_met a) (first_met b)
unfolding first_met first_refusal
first_append [] b each = refl
first_append (c ∷ a) b each = go c.met (first_append a b each.1)
  where
    go : (m : Bool) → first_met (a ++ b) ≡ first_refusal (first_met a) (first_met b) → cond m c.number (first_met (a ++ b)) ≡ first_refusal (cond m c.number (first_met a)) (first_met b)
    go true later = sym (refused_first c.number (first_met b) each.0)
    go false later = later
