-- Conditions that all hold: one that fails, one more, the last.
use mathlib.Core.Path.{◌≡◌, refl, sym}
use mathlib.Core.Bool.{Bool, true, false, ◌&&◌, and-eq-true_iff}
use mathlib.Core.List.{List, [], ◌∷◌}
use Prim.Native.Nat.{ℕ, zero, suc, ◌+◌, ◌≤◌, ◌<◌}
use native.Mathlib.Numerals.{add-one}
use native.Mathlib.Omega.{arith}
use lib.ListN.{get_or}
use Rattle.model.specs.Basics.{all_to, all_hold}
use Rattle.model.proofs.Checks.{all_true, true_all, all_to_lem, to_all}

pub not_both : {b : Bool} {A : Type 0} → b ≡ true → b ≡ false → A
not_both e f = absurd (let z : ◌≡◌ {A = ℕ} 0 1 = cc in omega arith)

-- equal, since one is true where the other is
pub same_truth : (a b : Bool) → (a ≡ true → b ≡ true) → (b ≡ true → a ≡ true) → a ≡ b
same_truth true b f g = sym (f refl)
same_truth false true f g = g refl
same_truth false false f g = refl

-- ---- a list of conditions
and-false : (b : Bool) → (b && false) ≡ false
and-false true = refl
and-false false = refl

pub any_false : (bs : List Bool) (i : ℕ) → get_or bs i true ≡ false → false ≡ all_hold bs
unfolding all_hold
any_false [] i e = sym e
any_false (b ∷ bs) zero e = rw e
any_false (b ∷ bs) (suc i) e = rw (← any_false bs i e) (sym (and-false b))

-- ---- a test of 0, .., n − 1
module _ (test : ℕ → Bool) where
  pub all_none : all_to test 0 ≡ true
  unfolding all_to
  all_none = refl

  pub all_more : (i : ℕ) → all_to test i ≡ true → test i ≡ true → all_to test (i + 1) ≡ true
  unfolding all_to
  all_more i a b = rw add-one ((and-eq-true_iff (all_to test i) (test i)).1 (a, b))

  pub all_stops : (n i : ℕ) → i < n → test i ≡ false → false ≡ all_to test n
  all_stops n i h e = go (all_to test n) refl
    where
      go : (b : Bool) → all_to test n ≡ b → false ≡ b
      go false q = refl
      go true q = not_both (all_to_lem test n q i h) e

  pub all_end : (n i : ℕ) → i ≤ n → n ≤ i → all_to test i ≡ true → true ≡ all_to test n
  all_end n i h k e = let x : i ≡ n = omega arith in sym (rw x at e)

-- four tests at once
pub all_four : (a b c d : ℕ → Bool) (n : ℕ) →
    all_to (λ p. all_hold (a p ∷ b p ∷ c p ∷ d p ∷ [])) n ≡ all_hold (all_to a n ∷ all_to b n ∷ all_to c n ∷ all_to d n ∷ [])
all_four a b c d n =
    same_truth _ _
    (λ e.
    let each : (p : ℕ) → p < n → all_hold (a p ∷ b p ∷ c p ∷ d p ∷ []) ≡ true = all_to_lem _ n e in
    true_all _ (
      to_all a n (λ p l. (all_true _ (each p l)).0),
      (
        to_all b n (λ p l. (all_true _ (each p l)).1.0),
        (to_all c n (λ p l. (all_true _ (each p l)).1.1.0), (to_all d n (λ p l. (all_true _ (each p l)).1.1.1.0), tt)),
      ),
    ))
    (λ e.
    let all = all_true _ e in
    to_all _ n
    (λ p l.
    true_all _ (
      all_to_lem a n all.0 p l,
      (all_to_lem b n all.1.0 p l, (all_to_lem c n all.1.1.0 p l, (all_to_lem d n all.1.1.1.0 p l, tt))),
    )))
