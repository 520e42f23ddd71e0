-- Numbers as digits, in any base and of any width, the least significant digit first.
use Rattle.std.specs.Prelude.{List, [], ◌∷◌, ℕ, zero, suc, ◌+◌, ◌*◌, ◌/◌, ◌%◌, ◌<◌, length, get_or}

-- the digits of n that a width has room for: base, width, n
unfoldable pub digits_of : ℕ → ℕ → ℕ → List ℕ
digits_of base zero n = []
digits_of base (suc width) n = n % base ∷ digits_of base width (n / base)

-- the number that digits are
unfoldable pub from_digits : ℕ → List ℕ → ℕ
from_digits base [] = 0
from_digits base (d ∷ digits) = d + base * from_digits base digits

-- every element is a digit of the base
abbrev pub AllDigits : ℕ → List ℕ → Type 0
AllDigits base digits = (i : ℕ) → i < length digits → get_or digits i 0 < base
