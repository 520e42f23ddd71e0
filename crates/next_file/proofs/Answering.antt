-- What the call answers, from what its parts give.
use mathlib.Core.Path.{◌≡◌, refl, sym, ap, ◌∙◌}
use mathlib.Core.List.{List, map}
use Prim.Native.Nat.{ℕ, zero, suc, ◌≤◌}
use native.Mathlib.Omega.{arith}
use lib.ListN.{length, length-map, replicate}
use Rattle.model.specs.Basics.{first_refusal}
use Rattle.model.specs.Table.{Table}
use Rattle.model.specs.TableFile.{Writing, read_table}
use Rattle.model.specs.NextTable.{line_refusal, next_link, next_links, next_table, next_refusal, next, next_file_refusal, next_file_or, next_file}
use Rattle.table.specs.View.{view_table, record_table}
use Rattle.table_file.specs.Answers.{Reading as ReadingRecord, Writing as WritingRecord, record_reading, Wrote as WroteTable}
use Rattle.table_file.proofs.Back.{links_few, read_shown}
use Rattle.tandem.specs.Answer.{Next as NextRecord, record_next}
use Rattle.tandem.proofs.Given.{next_refused, next_is, sized_shown}
use Rattle.next_file.specs.Answer.{Wrote}
use Rattle.next_file.proofs.Capping.{cap, write_same}

first_is : (n later : ℕ) → (n ≡ 0 → ⊥) → first_refusal n later ≡ n
unfolding first_refusal
first_is zero later z = absurd (z refl)
first_is (suc n) later z = refl

module _ (file : List ℕ) (line lines : ℕ) (sizes output : List ℕ) where
  abbrev t : Table
  t = (read_table file).table

  stops : (n : ℕ) → (n ≡ 0 → ⊥) → (r : WritingRecord) → r ≡ record { refused = n; written = 0 } → Wrote (next_file_or n t line lines sizes output) output r
  unfolding next_file_or
  stops zero z r e = absurd (z refl)
  stops (suc n) z r e = record { refused = rw e; written = rw e; output = refl }

  module _ (number : ℕ) (e : number ≡ line_refusal line lines) where
    pub line_refused : (number ≡ 0 → ⊥) → (r : WritingRecord) → r ≡ record { refused = number; written = 0 } → Wrote (next_file file line lines sizes output) output r
    unfolding next_file next_file_refusal
    line_refused z r x = rw (← e, first_is number _ z) (stops number z r x)

    module _ (z : number ≡ 0) (read : ReadingRecord) (is : read ≡ record_reading (read_table file)) where
      reads : read.refused ≡ (read_table file).refused
      reads = ap (λ (x : ReadingRecord). x.refused) is

      shown : view_table read.table ≡ t
      shown = rw is (read_shown file)

      pub file_refused : (read.refused ≡ 0 → ⊥) → (r : WritingRecord) → r ≡ record { refused = read.refused; written = 0 }
          → Wrote (next_file file line lines sizes output) output r
      unfolding next_file next_file_refusal first_refusal
      file_refused y r x = rw (← e, z, ← reads, first_is read.refused _ y) (stops read.refused y r x)

      module _ (y : read.refused ≡ 0) (rows : NextRecord) (made : rows ≡ record_next (next (view_table read.table) line lines)) where
        rows_are : rows ≡ record_next (next t line lines)
        rows_are = rw shown at made

        number_is : rows.refused ≡ next_refusal t line lines
        number_is = ap (λ (x : NextRecord). x.refused) rows_are ∙ next_refused t line lines

        refusal_is : next_file_refusal file line lines ≡ rows.refused
        unfolding next_file_refusal first_refusal
        refusal_is = rw (← e, z, ← reads, y, ← number_is)

        pub rows_refused : (rows.refused ≡ 0 → ⊥) → (r : WritingRecord) → r ≡ record { refused = rows.refused; written = 0 }
            → Wrote (next_file file line lines sizes output) output r
        unfolding next_file
        rows_refused x r w = rw refusal_is (stops rows.refused x r w)

        module _ (x : rows.refused ≡ 0) where
          few : length (next_links t line) ≤ 256
          unfolding next_links
          few = omega (arith, length-map t.links (next_link t line), links_few file)

          made_is : rows.table ≡ record_table (next_table t line lines (replicate 8 0))
          made_is = ap (λ (x : NextRecord). x.table) (rows_are ∙ ap record_next (next_is t line lines (sym number_is ∙ x)))

          pub writes : (fields : List ℕ) → fields ≡ map cap sizes → (after : List ℕ) (r : WritingRecord)
              → WroteTable (view_table (record { lines = rows.table.lines; count = rows.table.count; numbers = rows.table.numbers; links = rows.table.links; sizes = fields })) output after r
              → Wrote (next_file file line lines sizes output) after r
          unfolding next_file next_file_or
          writes fields f after r w =
              let k : WroteTable (next_table t line lines (map cap sizes)) output after r = rw (sized_shown t line lines (map cap sizes) few rows.table made_is) at (rw f at w) in
              let same = write_same lines (next_links t line) sizes output in
              rw (refusal_is, x)
              (record { refused = k.refused ∙ ap (λ (v : Writing). v.refused) same; written = k.written ∙ ap (λ (v : Writing). v.written) same; output = k.output ∙ ap (λ (v : Writing). v.output) same })
