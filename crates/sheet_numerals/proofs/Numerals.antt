-- What std prints of a number is the paper's numeral, and how long it is.
use Rattle.std.proofs.Common.{◌≡◌, ℕ, zero, suc, ◌+◌, ◌/◌, ◌%◌, ◌^◌, ◌≤◌, ◌<◌, List, [], ◌∷◌, ◌++◌, ap, ◌∙◌, arith, lt-ltb, le-ltb}
use Rattle.std.specs.Fmt.{decimal}
use Rattle.std.proofs.lemmas.Fmt.{decimal_by_steps}
use native.Mathlib.Decide.{dec_le}
use Rattle.model.specs.Sheet.{digits, numeral}

-- more room than the number asks changes nothing
enough : (k m n : ℕ) → n < k → n < m → digits k n ≡ digits m n
unfolding digits
enough zero m n h l = absurd (omega arith)
enough (suc k) zero n h l = absurd (omega arith)
enough (suc k) (suc m) n h l =
    elim (dec_le 10 n) [
      | yes z ↦ rw (le-ltb n 10 z, enough k m (n / 10) (omega arith) (omega arith))
      | no z ↦ rw (lt-ltb n 10 (omega arith))
    ]

one_digit : (n : ℕ) → n < 10 → (48 + n) ∷ [] ≡ numeral n
unfolding numeral digits
one_digit n h = rw (lt-ltb n 10 h)

last_digit : (n : ℕ) → 10 ≤ n → numeral (n / 10) ++ ((48 + n % 10) ∷ []) ≡ numeral n
unfolding numeral digits
last_digit n h = rw (le-ltb n 10 h, enough n (suc (n / 10)) (n / 10) (omega arith) (omega arith))

pub decimal_is : (n : ℕ) → n < 2 ^ 64 → decimal n ≡ numeral n
decimal_is = decimal_by_steps (λ m ds. ds ≡ numeral m) one_digit (λ m ds l e. ap (λ (x : List ℕ). x ++ ((48 + m % 10) ∷ [])) e ∙ last_digit m l)
