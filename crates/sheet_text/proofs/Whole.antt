-- The whole text, by the first refusal.
use mathlib.Core.Path.{◌≡◌, refl, sym, ap, ◌∙◌}
use mathlib.Core.List.{List, flat_map, append_assoc, append-nil}
use Prim.Native.Nat.{ℕ, zero, suc, min}
use native.Mathlib.Decide.{dec_le}
use native.Mathlib.Omega.{arith}
use lib.ListN.{length, take}
use lib.Seq.{take_all}
use Rattle.std.specs.Prelude.{Ok, Err}
use Rattle.model.specs.Basics.{first_refusal}
use Rattle.model.specs.Table.{Table}
use Rattle.model.specs.TableFile.{read_table}
use Rattle.model.specs.Bounds.{Sizing, bounds_refusal, sized_or, sizing}
use Rattle.model.specs.Sheet.{sheet_or, sheet}
use Rattle.refusal.specs.declared.Refusal.{Refusal}
use Rattle.refusal.specs.Numbers.{number_of}
use Rattle.refusal.proofs.Numbers.{number_not_0}
use Rattle.table.specs.declared.Table.{Table as TableRecord}
use Rattle.table.specs.View.{view_table, record_table}
use Rattle.table_file.specs.Answers.{Reading, reading_of, record_reading}
use Rattle.table_file.proofs.Back.{read_shown}
use Rattle.bounds.specs.declared.Bounds.{Bounds}
use Rattle.bounds.specs.Answer.{sizing_of}
use Rattle.bounds.proofs.Answered.{sizing_refused}
use Rattle.sheet_lines.specs.Lines.{lines_to, table_lines, refusal_line}
use Rattle.sheet_text.specs.Shown.{sheet_of}

-- the bytes that are read
cut : (input : List ℕ) → take (min (length input) 4_653) input ≡ take 4_653 input
cut input =
    elim (dec_le (length input) 4_653) [
      | yes h ↦
          let n : min (length input) 4_653 ≡ length input = omega arith in
          rw n (take_all (length input) input (omega arith) ∙ sym (take_all 4_653 input h))
      | no h ↦ let n : min (length input) 4_653 ≡ 4_653 = omega arith in rw n
    ]

pub sheet_is : (input : List ℕ) (end : ℕ) → end ≡ min (length input) 4_653 → sheet_of (take end input) ≡ sheet input
unfolding sheet
sheet_is input end e = rw (e, cut input)

-- ---- the lines that they make
refused_line : (n m : ℕ) (t : Table) → (n ≡ 0 → ⊥) → refusal_line n ≡ sheet_or (first_refusal n m) t
unfolding sheet_or first_refusal
refused_line zero m t h = absurd (h refl)
refused_line (suc n) m t h = refl

refused_second : (n m : ℕ) (t : Table) → n ≡ 0 → (m ≡ 0 → ⊥) → refusal_line m ≡ sheet_or (first_refusal n m) t
unfolding sheet_or first_refusal
refused_second zero zero t e h = absurd (h refl)
refused_second zero (suc m) t e h = refl
refused_second (suc n) m t e h = absurd (omega arith)

lines_there : (n m : ℕ) (t : Table) → n ≡ 0 → m ≡ 0 → table_lines (sized_or m t).bounds (sized_or m t).holds (sized_or m t).windows t.sizes ≡ sheet_or (first_refusal n m) t
unfolding sized_or sheet_or lines_to flat_map first_refusal
lines_there zero zero t e h = simp (append_assoc, append-nil)
lines_there (suc n) m t e h = absurd (omega arith)
lines_there zero (suc m) t e h = absurd (omega arith)

-- ---- from the answers of reader and calculation
module _ (file : List ℕ) where
  pub file_refused : (r : Refusal) → reading_of (Err r) ≡ record_reading (read_table file) → refusal_line (number_of r) ≡ sheet_of file
  file_refused r e =
      let number : number_of r ≡ (read_table file).refused = ap (λ (x : Reading). x.refused) e in
      ap refusal_line number ∙ refused_line _ _ _ (λ z. number_not_0 r (number ∙ z))

  module _ (t : TableRecord) (e : reading_of (Ok t) ≡ record_reading (read_table file)) where
    none : (read_table file).refused ≡ 0
    none = sym (ap (λ (x : Reading). x.refused) e)

    same : view_table t ≡ (read_table file).table
    same = ap (λ (x : Reading). view_table x.table) e ∙ read_shown file

    sizes_same : t.sizes ≡ (read_table file).table.sizes
    unfolding record_table
    sizes_same = ap (λ (x : Reading). x.table.sizes) e

    pub bounds_refused : (r : Refusal) → sizing_of (Err r) ≡ sizing (view_table t) → refusal_line (number_of r) ≡ sheet_of file
    bounds_refused r s =
        let number : number_of r ≡ bounds_refusal (read_table file).table = ap (λ (x : Sizing). x.refused) s ∙ sizing_refused (view_table t) ∙ ap bounds_refusal same in
        ap refusal_line number ∙ refused_second _ _ _ none (λ z. number_not_0 r (number ∙ z))

    pub lines_are : (b : Bounds) → sizing_of (Ok b) ≡ sizing (view_table t) → table_lines b.bounds b.holds b.windows t.sizes ≡ sheet_of file
    unfolding sizing
    lines_are b s =
        let all : sizing_of (Ok b) ≡ sizing (read_table file).table = s ∙ ap sizing same in
        let zero_is : bounds_refusal (read_table file).table ≡ 0 = sym (ap (λ (x : Sizing). x.refused) all ∙ sizing_refused (read_table file).table) in
        ap (λ (x : Sizing). table_lines x.bounds x.holds x.windows t.sizes) all
        ∙ rw sizes_same
        (lines_there _ _ _ none zero_is)
