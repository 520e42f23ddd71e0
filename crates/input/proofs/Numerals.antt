-- A numeral read digit by digit: what is read so far, and what ends the reading.
use mathlib.Core.Path.{◌≡◌, refl}
use mathlib.Core.Bool.{true, false, and-eq-true_iff, and-false}
use mathlib.Core.List.{List, [], ◌∷◌, ◌++◌}
use Prim.Native.Nat.{ℕ, zero, suc, ◌+◌, ◌-◌, ◌≤◌, ◌<◌}
use native.Mathlib.Numerals.{add-one}
use native.Mathlib.Omega.{arith}
use lib.Dec.{leb}
use Rattle.std.specs.Prelude.{Some, None}
use lib.ListN.{length, get_or, take}
use lib.Seq.{take-suc, take_all}
use borrow.Author.Tests.{leb-true}
use Rattle.input.specs.Numerals.{is_digit, are_digits, is_numeral_text, with_digit, number_behind, number_of, capped, read_numeral}

pub from_zero : (byte : ℕ) → is_digit byte ≡ true → 48 ≤ byte
from_zero byte h = leb-true 48 byte ((and-eq-true_iff (leb 48 byte) (leb byte 57)).0 h).0

-- ---- one digit more

digits_snoc : (text : List ℕ) (byte : ℕ) → are_digits text ≡ true → is_digit byte ≡ true → are_digits (text ++ (byte ∷ [])) ≡ true
unfolding are_digits
digits_snoc [] byte h d = rw d
digits_snoc (b ∷ text) byte h d =
    let both = (and-eq-true_iff (is_digit b) (are_digits text)).0 h in
    rw both.0 (digits_snoc text byte both.1 d)

number_snoc : (n : ℕ) (text : List ℕ) (byte : ℕ) → number_behind n (text ++ (byte ∷ [])) ≡ with_digit (number_behind n text) (byte - 48)
unfolding number_behind
number_snoc n [] byte = refl
number_snoc n (b ∷ text) byte = number_snoc (with_digit n (b - 48)) text byte

-- to cap before each digit is to cap once, at the end
capped_before : (n digit : ℕ) → capped (with_digit (capped n) digit) ≡ capped (with_digit n digit)
capped_before n digit = omega arith

-- the first i bytes are read
pub record Read (text : List ℕ) (i value : ℕ) : Type 0 where
  pub within : i ≤ length text
  pub digits : are_digits (take i text) ≡ true
  pub number : value ≡ capped (number_of (take i text))

module _ (text : List ℕ) where
  pub none_read : Read text 0 0
  unfolding are_digits number_behind
  none_read = record { within = omega arith; digits = refl; number = refl }

  pub one_more : (i value : ℕ) → i < length text → is_digit (get_or text i 0) ≡ true → Read text i value
      → Read text (i + 1) (capped (with_digit value (get_or text i 0 - 48)))
  one_more i value h d r =
      let byte = get_or text i 0 in
      record {
        within = omega arith;
        digits = rw (add-one, take-suc text i 0 h) (digits_snoc (take i text) byte r.digits d);
        number = rw (add-one, take-suc text i 0 h, r.number, number_snoc 0 (take i text) byte) (capped_before (number_of (take i text)) (byte - 48));
      }

-- ---- what ends it

another_byte : (text : List ℕ) (i : ℕ) → i < length text → is_digit (get_or text i 0) ≡ false → are_digits text ≡ false
unfolding are_digits
another_byte [] i h d = absurd (omega arith)
another_byte (b ∷ text) zero h d = rw d
another_byte (b ∷ text) (suc i) h d = rw (another_byte text i (omega arith) d) (and-false (is_digit b))

pub no_numeral_lem : (text : List ℕ) (i : ℕ) → i < length text → is_digit (get_or text i 0) ≡ false → None ≡ read_numeral text
unfolding is_numeral_text
no_numeral_lem [] i h d = refl
no_numeral_lem (b ∷ text) i h d = rw (another_byte (b ∷ text) i h d)

all_read : (text : List ℕ) → (length text ≡ 0 → ⊥) → are_digits text ≡ true → Some (capped (number_of text)) ≡ read_numeral text
unfolding is_numeral_text
all_read [] n h = absurd (n refl)
all_read (b ∷ text) n h = rw h

pub whole_read : (text : List ℕ) (i value : ℕ) → length text ≤ i → (length text ≡ 0 → ⊥) → Read text i value → Some value ≡ read_numeral text
whole_read text i value h n r =
    let whole : take i text ≡ text = take_all i text h in
    rw (rw whole at r.number) (all_read text n (rw whole at r.digits))

pub empty_read : (text : List ℕ) → length text ≡ 0 → None ≡ read_numeral text
unfolding is_numeral_text
empty_read [] e = refl
empty_read (b ∷ text) e = absurd (omega arith)
