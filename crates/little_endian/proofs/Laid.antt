-- Bytes laid down one after another, and in a part that is lent.
use mathlib.Core.Path.{◌≡◌, sym, ap, ◌∙◌}
use mathlib.Core.List.{List, [], ◌++◌, append_assoc, append-nil}
use Prim.Native.Nat.{ℕ, ◌+◌, ◌-◌, ◌≤◌}
use native.Mathlib.Omega.{arith}
use lib.ListN.{length, take, drop, length-append, length-take, length-drop, drop_of_length-le, take-append-drop}
use lib.Seq.{length-take-le, take_at, drop-append-add, drop-drop, sets, sets-eq, take_all}
use Rattle.little_endian.specs.Output.{laid}

pub length_laid : (at : ℕ) (bytes output : List ℕ) → at + length bytes ≤ length output → length (laid at bytes output) ≡ length output
unfolding laid
length_laid at bytes output h = simp (length-append, length-take, length-drop) (omega arith)

pub none_laid : (at : ℕ) (output : List ℕ) → output ≡ laid at [] output
unfolding laid
none_laid at output = let e : at + 0 ≡ at = omega arith in rw (e, append-nil (take at output)) (sym (take-append-drop at output))

-- stores, one after another
pub stores_laid : (bytes output : List ℕ) (at : ℕ) → at + length bytes ≤ length output → sets output at bytes ≡ laid at bytes output
unfolding laid
stores_laid bytes output at h = sets-eq bytes output at h

-- bytes behind bytes
module _ (at : ℕ) (a b output : List ℕ) (h : at + length a + length b ≤ length output) where
  start : length (take at output) ≡ at
  start = length-take-le at output (omega arith)

  front : length (take at output ++ a) ≡ at + length a
  front = rw length-append (omega (arith, start))

  behind : drop (at + length a + length b) (take at output ++ a ++ drop (at + length a) output) ≡ drop (at + length a + length b) output
  behind =
      let e : at + length a + length b ≡ length (take at output ++ a) + length b = omega (arith, front) in
      rw e (drop-append-add (take at output ++ a) (drop (at + length a) output) (length b) ∙ drop-drop (length b) (at + length a) output ∙ ap (λ (n : ℕ). drop n output) e)

  both : laid (at + length a) b (laid at a output) ≡ laid at (a ++ b) output
  unfolding laid
  both =
      let e : at + length (a ++ b) ≡ at + length a + length b = omega (arith, length-append a b) in
      rw (take_at (take at output ++ a) (drop (at + length a) output) (at + length a) front, behind, append_assoc (take at output) a b, e)

pub laid_behind : (at n : ℕ) (a b output : List ℕ) → n ≡ at + length a → n + length b ≤ length output → laid n b (laid at a output) ≡ laid at (a ++ b) output
laid_behind at n a b output e h = rw e (both at a b output (omega arith))

pub then_laid : (at n : ℕ) (a b output x y : List ℕ) → n ≡ at + length a → n + length b ≤ length output → x ≡ laid at a output → y ≡ laid n b x → y ≡ laid at (a ++ b) output
then_laid at n a b output x y e h p q = q ∙ ap (laid n b) p ∙ laid_behind at n a b output e h

put_back : (at : ℕ) (bytes output part last : List ℕ) → part ≡ laid 0 bytes (drop at output) → last ≡ [] → take at output ++ (part ++ last) ≡ laid at bytes output
unfolding laid
put_back at bytes output part last e f =
    let k : 0 + length bytes ≡ length bytes = omega arith in
    rw (e, f, append-nil (bytes ++ drop (0 + length bytes) (drop at output)), k, drop-drop (length bytes) at output)
    (sym (append_assoc (take at output) bytes (drop (at + length bytes) output)))

-- a part that was lent, from at on, and came back with bytes at its start
pub laid_in_part : (at : ℕ) (bytes output part : List ℕ) → at + length bytes ≤ length output → part ≡ laid 0 bytes (take (length output - at) (drop at output)) →
    take at output ++ (part ++ drop (length output - at) (drop at output)) ≡ laid at bytes output
laid_in_part at bytes output part h e =
    let whole : take (length output - at) (drop at output) ≡ drop at output = take_all (length output - at) (drop at output) (omega (arith, length-drop at output)) in
    let none : drop (length output - at) (drop at output) ≡ [] = drop_of_length-le (drop at output) {i = length output - at} (omega (arith, length-drop at output)) in
    put_back at bytes output part (drop (length output - at) (drop at output)) (e ∙ ap (laid 0 bytes) whole) none
