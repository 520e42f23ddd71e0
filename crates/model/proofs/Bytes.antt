-- Numbers in bytes, over any width.
use mathlib.Core.Path.{◌≡◌, refl}
use mathlib.Core.List.{List, [], ◌∷◌, ◌++◌, flat_map, append_assoc}
use Prim.Native.Nat.{ℕ, zero, suc, ◌+◌, ◌*◌, ◌^◌, ◌≤◌, ◌<◌, min}
use native.Mathlib.Nat.{mul-zero}
use native.Mathlib.Omega.{arith}
use lib.ListN.{length, get_or, take, drop, length-take, length-drop, take-append-drop}
use lib.Seq.{get_or-take, get_or-drop, drop-drop, take_at, drop_at}
use Rattle.model.specs.Digits.{AllDigits}
use Rattle.model.specs.TableFile.{to_bytes, from_bytes, number_at}
use Rattle.model.proofs.Lists.{list_to}
use Rattle.model.proofs.Digits.{length_digits, from_to, to_from}

-- every element is a byte
abbrev pub AllBytes : List ℕ → Type 0
AllBytes bytes = AllDigits 256 bytes

pub length-to_bytes : (k n : ℕ) → length (to_bytes k n) ≡ k
length-to_bytes k n = length_digits 256 k n

pub from_to_bytes : (k n : ℕ) → n < 256 ^ k → from_bytes (to_bytes k n) ≡ n
from_to_bytes k n h = from_to 256 k n h

-- ---- parts of a list of bytes

pub all_drop : (n : ℕ) (bytes : List ℕ) → AllBytes bytes → AllBytes (drop n bytes)
all_drop n bytes all i h = rw get_or-drop (all (n + i) (omega (arith, simp length-drop at h)))

pub all_take : (n : ℕ) (bytes : List ℕ) → AllBytes bytes → AllBytes (take n bytes)
all_take n bytes all i h =
    let l : i < min n (length bytes) = simp length-take at h in
    rw (get_or-take n bytes i 0 (omega arith)) (all i (omega arith))

-- ---- a number among bytes

-- the k bytes from place i on are those of the number that stands there
pub number_bytes : (i k : ℕ) (bytes : List ℕ) → AllBytes bytes → i + k ≤ length bytes → to_bytes k (number_at i k bytes) ++ drop (i + k) bytes ≡ drop i bytes
number_bytes i k bytes all h =
    let part = take k (drop i bytes) in
    let long : length part ≡ k = omega (arith, length-take k (drop i bytes), length-drop i bytes) in
    let same : to_bytes k (from_bytes part) ≡ part = rw long at (to_from 256 part (all_take k (drop i bytes) (all_drop i bytes all))) in
    rw (← drop-drop, same) (take-append-drop k (drop i bytes))

-- the bytes of n numbers at places k apart are those that stand there
pub numbers_bytes : (k : ℕ) (bytes : List ℕ) → AllBytes bytes → (n : ℕ) (place : ℕ → ℕ) → ((p : ℕ) → place p + k ≡ place (suc p)) → ((p : ℕ) → p < n → place p + k ≤ length bytes)
    → flat_map (to_bytes k) (list_to (λ p. number_at (place p) k bytes) n) ++ drop (place n) bytes ≡ drop (place 0) bytes
unfolding flat_map
numbers_bytes k bytes all zero place next room = refl
numbers_bytes k bytes all (suc n) place next room =
    rw (append_assoc, numbers_bytes k bytes all n (λ p. place (suc p)) (λ p. next (suc p)) (λ p h. room (suc p) (omega arith)), ← next 0)
    (number_bytes (place 0) k bytes all (room 0 (omega arith)))

-- ---- a number that was written

pub number_written : (k n : ℕ) (rest : List ℕ) → n < 256 ^ k → number_at 0 k (to_bytes k n ++ rest) ≡ n
number_written k n rest h = rw (take_at (to_bytes k n) rest k (length-to_bytes k n)) (from_to_bytes k n h)

-- place p among numbers of k bytes each
pub number_among : (k : ℕ) (ns rest : List ℕ) (p : ℕ) → p < length ns → get_or ns p 0 < 256 ^ k → number_at (k * p) k (flat_map (to_bytes k) ns ++ rest) ≡ get_or ns p 0
unfolding flat_map
number_among k [] rest p l h = absurd (omega arith)
number_among k (n ∷ ns) rest zero l h = rw (mul-zero, append_assoc) (number_written k n (flat_map (to_bytes k) ns ++ rest) h)
number_among k (n ∷ ns) rest (suc p) l h =
    let e : k * suc p ≡ k + k * p = omega arith in
    rw (e, append_assoc, ← drop-drop, drop_at (to_bytes k n) (flat_map (to_bytes k) ns ++ rest) k (length-to_bytes k n)) (number_among k ns rest p (omega arith) h)
