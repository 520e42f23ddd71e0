-- Digits and the number that they are, each from the other, over any base and any width.
use mathlib.Core.Path.{◌≡◌, refl, sym, ap, ◌∙◌}
use mathlib.Core.List.{List, [], ◌∷◌, ◌++◌}
use Prim.Native.Nat.{ℕ, zero, suc, ◌+◌, ◌*◌, ◌/◌, ◌%◌, ◌^◌, ◌<◌}
use native.Mathlib.Nat.{zero-add, suc-add, pow-zero, pow-succ', mul-le-mul_left, mod-lt, mod-eq_of_lt, mod-add-div, div-one, div-eq_of_lt, div-lt_iff_lt-mul, div-div-eq-div-mul, add-mul-div_left, add-mul-mod_self_left}
use native.Mathlib.Omega.{arith}
use lib.ListN.{length, take, drop}
use lib.Seq.{take-nil}
use Rattle.model.specs.Digits.{digits_of, from_digits, AllDigits}

-- ---- a number, its digits, and the number again

base_positive : (base k n : ℕ) → n < base ^ suc k → 0 < base
base_positive zero k n h = absurd (omega (arith, pow-succ' 0 k))
base_positive (suc base) k n h = omega arith

higher_fit : (base k n : ℕ) → n < base ^ suc k → n / base < base ^ k
higher_fit base k n h = (div-lt_iff_lt-mul (base_positive base k n h)).1 (omega (arith, pow-succ' base k))

pub length_digits : (base k n : ℕ) → length (digits_of base k n) ≡ k
unfolding digits_of
length_digits base zero n = refl
length_digits base (suc k) n = ap suc (length_digits base k (n / base))

pub all_digits : (base k n : ℕ) → n < base ^ k → AllDigits base (digits_of base k n)
unfolding digits_of
all_digits base zero n h i l = absurd (omega arith)
all_digits base (suc k) n h zero l = mod-lt n (base_positive base k n h)
all_digits base (suc k) n h (suc i) l = all_digits base k (n / base) (higher_fit base k n h) i (omega arith)

pub from_to : (base k n : ℕ) → n < base ^ k → from_digits base (digits_of base k n) ≡ n
unfolding digits_of from_digits
from_to base zero n h = omega (arith, pow-zero base)
from_to base (suc k) n h = rw (from_to base k (n / base) (higher_fit base k n h)) (mod-add-div n base)

-- ---- digits, their number, and the digits again

head_digit : (base d : ℕ) (digits : List ℕ) → AllDigits base (d ∷ digits) → d < base
head_digit base d digits all = all 0 (omega arith)

tail_digits : (base d : ℕ) (digits : List ℕ) → AllDigits base (d ∷ digits) → AllDigits base digits
tail_digits base d digits all i h = all (suc i) (omega arith)

pub from_below : (base : ℕ) (digits : List ℕ) → AllDigits base digits → from_digits base digits < base ^ length digits
unfolding from_digits
from_below base [] all = omega (arith, pow-zero base)
from_below base (d ∷ digits) all =
    omega (arith, head_digit base d digits all, mul-le-mul_left base (from_below base digits (tail_digits base d digits all)), pow-succ' base (length digits))

pub to_from : (base : ℕ) (digits : List ℕ) → AllDigits base digits → digits_of base (length digits) (from_digits base digits) ≡ digits
unfolding digits_of from_digits
to_from base [] all = refl
to_from base (d ∷ digits) all =
    let h : d < base = head_digit base d digits all in
    let m = from_digits base digits in
    let low : (d + base * m) % base ≡ d = add-mul-mod_self_left d base m ∙ mod-eq_of_lt h in
    let high : (d + base * m) / base ≡ m = add-mul-div_left d m (omega arith) ∙ rw (div-eq_of_lt h) (omega arith) in
    rw (low, high, to_from base digits (tail_digits base d digits all))

-- ---- the lowest j digits, and k behind them

pub from_joined : (base j k : ℕ) (digits : List ℕ)
    → from_digits base (take (j + k) digits) ≡ from_digits base (take j digits) + base ^ j * from_digits base (take k (drop j digits))
unfolding from_digits
from_joined base zero k digits = rw (zero-add, pow-zero) (omega arith)
from_joined base (suc j) k [] = rw (suc-add, take-nil {A = ℕ} k) (omega arith)
from_joined base (suc j) k (d ∷ digits) = rw (suc-add, pow-succ', from_joined base j k digits) (omega arith)

module _ (base : ℕ) (p : 0 < base) where
  higher_left_out : (j a b : ℕ) → digits_of base j (a + base ^ j * b) ≡ digits_of base j a
  unfolding digits_of
  higher_left_out zero a b = refl
  higher_left_out (suc j) a b =
      let e : a + base ^ suc j * b ≡ a + base * (base ^ j * b) = rw pow-succ' (omega arith) in
      rw (e, add-mul-mod_self_left a base (base ^ j * b), add-mul-div_left a (base ^ j * b) p, higher_left_out j (a / base) b)

  higher_behind : (j k n : ℕ) → digits_of base (j + k) n ≡ digits_of base j n ++ digits_of base k (n / base ^ j)
  unfolding digits_of
  higher_behind zero k n = rw (pow-zero, div-one, zero-add)
  higher_behind (suc j) k n = rw (suc-add, higher_behind j k (n / base), div-div-eq-div-mul, ← pow-succ')

  pub to_joined : (j k n : ℕ) → digits_of base (j + k) n ≡ digits_of base j (n % base ^ j) ++ digits_of base k (n / base ^ j)
  to_joined j k n =
      let low : digits_of base j n ≡ digits_of base j (n % base ^ j) = ap (digits_of base j) (sym (mod-add-div n (base ^ j))) ∙ higher_left_out j (n % base ^ j) (n / base ^ j) in
      higher_behind j k n ∙ ap (λ (l : List ℕ). l ++ digits_of base k (n / base ^ j)) low
