-- Numbers in bytes: std's sum of bytes, what is read past the end, bytes put in a part.
use mathlib.Core.Path.{◌≡◌, refl, sym, ap, ◌∙◌}
use mathlib.Core.List.{List, [], ◌∷◌, ◌++◌, append_assoc}
use Prim.Native.Nat.{ℕ, zero, suc, ◌+◌, ◌-◌, ◌*◌, ◌/◌, ◌%◌, ◌^◌, ◌<◌, min}
use native.Mathlib.Nat.{div-div-eq-div-mul, pow-succ', pow-zero, div-one}
use native.Mathlib.Decide.{ℕ_discrete}
use native.Mathlib.Omega.{arith}
use lib.ListN.{length, get_or, take, drop, replicate, length-drop, drop_of_length-le}
use lib.Seq.{drop-cons, drop-drop, take_all}
use Rattle.std.specs.Int.{byte_worth, byte_at, bytes_low_first, sum_through}
use Rattle.std.proofs.lemmas.List.{drop-replicate}
use Rattle.model.specs.Digits.{digits_of, from_digits}
use Rattle.model.specs.TableFile.{to_bytes, from_bytes, number_at}
use Rattle.model.proofs.Digits.{from_joined}
use Rattle.little_endian.specs.Output.{laid}

-- ---- std's numbers are the model's

one_read : (i : ℕ) (bytes : List ℕ) → i < length bytes → get_or bytes i 0 ≡ from_bytes (take 1 (drop i bytes))
unfolding from_digits
one_read i bytes h = rw (drop-cons bytes i 0 h) (omega arith)

low_summed : (k : ℕ) (bytes : List ℕ) → k < length bytes → sum_through (λ i. byte_worth i (get_or bytes i 0)) k ≡ from_bytes (take (suc k) bytes)
low_summed zero bytes h = one_read 0 bytes h
low_summed (suc k) bytes h =
    let e : suc k + 1 ≡ suc (suc k) = omega arith in
    rw (low_summed k bytes (omega arith), one_read (suc k) bytes h, ← e, from_joined 256 (suc k) 1 bytes) (omega arith)

pub summed : (k : ℕ) (bytes : List ℕ) → length bytes ≡ suc k → sum_through (λ i. byte_worth i (get_or bytes i 0)) k ≡ from_bytes bytes
summed k bytes e = low_summed k bytes (omega arith) ∙ ap from_bytes (take_all (suc k) bytes (omega arith))

at_byte : (i n : ℕ) → byte_at i n ≡ (n / 256 ^ i) % 256
at_byte zero n = rw (pow-zero, div-one)
at_byte (suc i) n = refl

low_digits : (i k n : ℕ) → bytes_low_first i k n ≡ to_bytes k (n / 256 ^ i)
unfolding digits_of
low_digits i zero n = refl
low_digits i (suc k) n =
    let e : 256 ^ i * 256 ≡ 256 ^ suc i = omega (arith, pow-succ' 256 i) in
    rw (at_byte i n, low_digits (suc i) k n, div-div-eq-div-mul, e)

pub split : (k n : ℕ) → bytes_low_first 0 k n ≡ to_bytes k n
split k n = low_digits 0 k n ∙ rw (pow-zero, div-one)

pub one_byte : (n : ℕ) → n < 256 → n ∷ [] ≡ to_bytes 1 n
unfolding digits_of
one_byte n h = let e : n % 256 ≡ n = omega arith in rw e

-- ---- past the end

none_more : (n : ℕ) → from_bytes (replicate n 0) ≡ 0
unfolding from_digits
none_more zero = refl
none_more (suc n) = rw (none_more n) (omega arith)

zeros_behind : (bytes : List ℕ) (n : ℕ) → from_bytes (bytes ++ replicate n 0) ≡ from_bytes bytes
unfolding from_digits
zeros_behind [] n = none_more n
zeros_behind (b ∷ bytes) n = rw (zeros_behind bytes n)

-- what is left from a place on, which is the end where the place is behind it
left : (at m : ℕ) (s : List ℕ) → m ≡ min at (length s) → take (length s - m) (drop m s) ≡ drop at s
left at m s e = take_all (length s - m) (drop m s) (omega (arith, length-drop m s)) ∙ go (ℕ_discrete m at)
  where
    go : Dec (m ≡ at) → drop m s ≡ drop at s
    go (yes h) = ap (λ n. drop n s) h
    go (no h) = drop_of_length-le s {i = m} (omega arith) ∙ sym (drop_of_length-le s {i = at} (omega arith))

pub short_read : (at k m : ℕ) (s copied : List ℕ) → m ≡ min at (length s) → copied ≡ take (length s - m) (drop m s) → length (take (length s - m) (drop m s)) < k →
    from_bytes (copied ++ drop (length (take (length s - m) (drop m s))) (replicate k 0)) ≡ number_at at k s
short_read at k m s copied e f h =
    let is = left at m s e in
    rw (f, is, drop-replicate {X = ℕ} (length (drop at s)) k 0) (zeros_behind (drop at s) (k - length (drop at s)) ∙ ap from_bytes (sym (take_all k (drop at s) (omega (arith, ap length is)))))

-- ---- a part
pub part_laid : (at k : ℕ) (s put bytes : List ℕ) → put ≡ bytes → k ≡ length bytes → take at s ++ (put ++ drop k (drop at s)) ≡ laid at bytes s
unfolding laid
part_laid at k s put bytes e f = rw (e, f, drop-drop (length bytes) at s) (sym (append_assoc (take at s) bytes (drop (at + length bytes) s)))
