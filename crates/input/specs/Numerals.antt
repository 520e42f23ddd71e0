-- Decimal numerals: a text of digits, at least one, the highest first.
use Rattle.std.specs.Prelude.{Bool, true, false, cond, ◌&&◌, List, [], ◌∷◌, ℕ, ◌+◌, ◌-◌, ◌*◌, ◌^◌, min, leb, Option, Some, None}

-- the greatest number that a program takes
abbrev pub greatest : ℕ
greatest = 2 ^ 64 - 1

-- '0' to '9'
abbrev pub is_digit : ℕ → Bool
is_digit byte = leb 48 byte && leb byte 57

unfoldable pub are_digits : List ℕ → Bool
are_digits [] = true
are_digits (byte ∷ text) = is_digit byte && are_digits text

unfoldable pub is_numeral_text : List ℕ → Bool
is_numeral_text [] = false
is_numeral_text (byte ∷ text) = are_digits (byte ∷ text)

-- a digit behind those that are n
abbrev pub with_digit : ℕ → ℕ → ℕ
with_digit n digit = 10 * n + digit

-- what n becomes with the digits of a text behind it
unfoldable pub number_behind : ℕ → List ℕ → ℕ
number_behind n [] = n
number_behind n (byte ∷ text) = number_behind (with_digit n (byte - 48)) text

abbrev pub number_of : List ℕ → ℕ
number_of text = number_behind 0 text

-- a number above the greatest counts as that
abbrev pub capped : ℕ → ℕ
capped n = min greatest n

-- the number of a text, or none where the text is no numeral
abbrev pub read_numeral : List ℕ → Option ℕ
read_numeral text = cond (is_numeral_text text) (Some (capped (number_of text))) None
