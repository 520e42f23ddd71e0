-- The columns of a line, one behind another, and the most bytes that they have.
use Rattle.std.proofs.Common.{◌≡◌, ℕ, zero, suc, ◌+◌, ◌-◌, ◌*◌, ◌/◌, ◌%◌, ◌≤◌, ◌<◌, min, List, ◌∷◌, ◌++◌, length, get_or, ℤ, pos, negsuc, ◌-ℤ◌, sym, refl, ap, ◌∙◌, arith, lt-ltb, le-ltb, eq-eqb, ne_eqb, length-append, append_assoc, append-nil, add-one, decimal}
use Rattle.std.specs.Fmt.{signed_decimal}
use Rattle.std.proofs.lemmas.Fmt.{length-decimal-le}
use Rattle.std.proofs.lemmas.Grind.{div_ceil_times}
use Rattle.std.proofs.Math.Nat.{div-eq_of_lt-le}
use native.Mathlib.Nat.{div-le_self, add-mul, one-mul}
use native.Mathlib.Decide.{dec_le}
use lib.IntN.{sub_ℕ}
use mir.Syntax.{w64}
use mir.Val.{SFits, to_z, of_z}
use mir.ValLaws.{to_z-of_z}
use Rattle.arrayvec.specs.ArrayString.{ArrayString}
use Rattle.model.specs.Sheet.{text, difference, fill, sheet_line, header}
use Rattle.sheet_numerals.proofs.Numerals.{decimal_is}
use Rattle.sheet_lines.specs.Lines.{Put, columns, lines_to, table_lines}

-- ---- one part behind another
pub then_put : {t x y : ArrayString} {a b : List ℕ} {m n : ℕ} → Put t x a m → Put x y b n → Put t y (a ++ b) (m + n)
then_put {t} {x} {y} {a} {b} p q = record { bytes = q.bytes ∙ rw p.bytes (append_assoc t.bytes a b); few = omega (arith, p.few, q.few) }

pub same_put : {t x : ArrayString} {a b : List ℕ} {m : ℕ} → Put t x a m → a ≡ b → Put t x b m
same_put {t} {x} {m = m} p e = rw e at p

pub line_is : (priority bound hold window size : ℕ) →
    columns priority bound hold window size ++ (difference size bound ++ text " ") ++ (fill bound size ++ text "\n")
    ≡ sheet_line priority bound hold window size
unfolding sheet_line
line_is priority bound hold window size = simp append_assoc

-- ---- the parts
-- a numeral and what ends it, as `put_number` puts them
pub printed : {t x : ArrayString} (l part end : List ℕ) (most : ℕ) → x.bytes ≡ t.bytes ++ l ++ end → l ≡ part → length l + length end ≤ most → Put t x (part ++ end) most
printed {t} {x} l part end most e p h =
    record {
      bytes = e ∙ append_assoc t.bytes l end ∙ ap (λ (y : List ℕ). t.bytes ++ (y ++ end)) p;
      few = omega (arith, ap length e, length-append (t.bytes ++ l) end, length-append t.bytes l);
    }

pub one_digit : (n : ℕ) → n ≤ 7 → length (decimal n) ≤ 1
one_digit n h = length-decimal-le 1 n (omega arith) (omega arith) (omega arith)

pub ten_digits : (n : ℕ) → n ≤ 4_294_967_295 → length (decimal n) ≤ 10
ten_digits n h = length-decimal-le 10 n (omega arith) (omega arith) (omega arith)

pub thirteen_digits : (n : ℕ) → n ≤ 9_999_999_999_999 → length (decimal n) ≤ 13
thirteen_digits n h = length-decimal-le 13 n (omega arith) (omega arith) (omega arith)

-- spare
module _ (size bound : ℕ) (h : size ≤ 4_294_967_295) (k : bound ≤ 4_294_967_295) where
  pub record Spare (z : ℤ) : Type 0 where
    pub printed : signed_decimal z ≡ difference size bound
    pub few : length (signed_decimal z) ≤ 11
    pub fits : SFits w64 z

  spare_below : size < bound → Spare (negsuc (bound - suc size))
  unfolding difference text
  spare_below l =
      let e : suc (bound - suc size) ≡ bound - size = omega arith in
      record {
        printed = rw (lt-ltb size bound l, e) (ap (λ (y : List ℕ). 45 ∷ y) (decimal_is (bound - size) (omega arith)));
        few = rw e (omega (arith, ten_digits (bound - size) (omega arith)));
        fits = record { sfits = omega arith };
      }

  spare_from : bound ≤ size → Spare (pos (size - bound))
  unfolding difference
  spare_from l = record { printed = rw (le-ltb size bound l) (decimal_is (size - bound) (omega arith)); few = omega (arith, ten_digits (size - bound) (omega arith)); fits = record { sfits = omega arith } }

  by_order : (a b : ℕ) → pos a -ℤ pos b ≡ sub_ℕ a b
  by_order a zero =
      let e : a + 0 ≡ a - 0 = omega arith in
      ap pos e ∙ sym (rw (le-ltb a 0 (omega arith)) refl)
  by_order a (suc b) = refl

  spare_is : Spare (pos size -ℤ pos bound)
  spare_is =
      elim (dec_le bound size) [
        | yes l ↦ rw (by_order size bound, le-ltb size bound l) (spare_from l)
        | no l ↦ rw (by_order size bound, lt-ltb size bound (omega arith)) (spare_below (omega arith))
      ]

  -- as it is handed on
  pub spare_there : (z : ℤ) → z ≡ pos size -ℤ pos bound → Spare (to_z w64 (of_z w64 z))
  spare_there z e = rw (e, to_z-of_z w64 (pos size -ℤ pos bound) spare_is.fits) spare_is

-- fill
pub put_dash : {t x : ArrayString} (bound size : ℕ) → size ≡ 0 → x.bytes ≡ t.bytes ++ text "-\n" → Put t x (fill bound size ++ text "\n") 14
unfolding fill text
put_dash {t} bound size z e = record { bytes = e ∙ rw (eq-eqb size 0 z); few = omega (arith, ap length e, length-append {A = ℕ}) }

rounded_up : (a b : ℕ) → 0 < b → (a + b - 1) / b ≡ a / b + min 1 (a % b)
rounded_up a b h =
    let q : ℕ = a / b + min 1 (a % b) in
    let t = div_ceil_times a b h in
    let s : (q + 1) * b ≡ q * b + b = rw (add-mul q 1 b, one-mul b) in
    div-eq_of_lt-le b (omega arith) (omega arith)

pub part_few : (bound size : ℕ) → 1 ≤ size → bound ≤ 4_294_967_295 → 1_000 * bound / size + min 1 (1_000 * bound % size) ≤ 9_999_999_999_999
part_few bound size h k = omega (arith, div-le_self (1_000 * bound) size)

pub fill_part : (bound size : ℕ) → 1 ≤ size → size ≤ 4_294_967_295 → bound ≤ 4_294_967_295 → decimal (1_000 * bound / size + min 1 (1_000 * bound % size)) ≡ fill bound size
unfolding fill
fill_part bound size h m k =
    rw (ne_eqb size 0 (λ z. omega arith), ← rounded_up (1_000 * bound) size h)
    (decimal_is _ (omega (arith, div-le_self (1_000 * bound + size - 1) size)))

-- ---- line by line
module _ (bounds holds windows sizes : List ℕ) where
  pub none_there : (l : List ℕ) → l ≡ header → l ≡ header ++ lines_to bounds holds windows sizes 0
  unfolding lines_to
  none_there l e = e ∙ sym (append-nil header)

  pub one_there : (p : ℕ) (out next : ArrayString) (most : ℕ) → out.bytes ≡ header ++ lines_to bounds holds windows sizes p →
      Put out next (sheet_line p (get_or bounds p 0) (get_or holds p 0) (get_or windows p 0) (get_or sizes p 0)) most → next.bytes ≡ header ++ lines_to bounds holds windows sizes (p + 1)
  unfolding lines_to
  one_there p out next most e q =
      let line = sheet_line p (get_or bounds p 0) (get_or holds p 0) (get_or windows p 0) (get_or sizes p 0) in
      q.bytes ∙ rw (e, add-one) (append_assoc header (lines_to bounds holds windows sizes p) line)

  pub all_there : (p : ℕ) (l : List ℕ) → p ≡ 8 → l ≡ header ++ lines_to bounds holds windows sizes p → l ≡ table_lines bounds holds windows sizes
  all_there p l n e = rw n at e
