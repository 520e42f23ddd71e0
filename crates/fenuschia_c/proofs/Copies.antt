-- A copy from what the reader and the writer answer.
use mathlib.Core.Path.{◌≡◌, refl, sym, ap, ◌∙◌}
use mathlib.Core.List.{List}
use Prim.Native.Nat.{ℕ, zero, suc}
use Rattle.model.specs.Table.{Table}
use Rattle.model.specs.TableFile.{read_table}
use Rattle.table.specs.View.{view_table}
use Rattle.table_file.specs.Answers.{Reading as ReadingRecord, Writing as WritingRecord, record_reading, writing_of, Wrote}
use Rattle.table_file.proofs.Answers.{told_written}
use Rattle.std.specs.Prelude.{Result}
use Rattle.refusal.specs.declared.Refusal.{Refusal}
use Rattle.refusal.specs.Numbers.{number_or_0}
use Rattle.table_file.proofs.Back.{read_shown}
use Rattle.fenuschia_c.specs.Copied.{copy_or, copy_of, Copied}

refused_untouched : (n : ℕ) (t : Table) (output : List ℕ) → (n ≡ 0 → ⊥) → ((copy_or n t output).refused ≡ n) × ((copy_or n t output).output ≡ output)
unfolding copy_or
refused_untouched zero t output h = absurd (h refl)
refused_untouched (suc n) t output h = (refl, refl)

module _ (file before : List ℕ) (r : ReadingRecord) (e : r ≡ record_reading (read_table file)) where
  refusal_is : r.refused ≡ (read_table file).refused
  refusal_is = ap (λ (x : ReadingRecord). x.refused) e

  pub refused_copied : (r.refused ≡ 0 → ⊥) → Copied file before before r.refused
  unfolding copy_of
  refused_copied h =
      let n = refused_untouched (read_table file).refused (read_table file).table before (λ x. h (cc refusal_is)) in
      record { answer = refusal_is ∙ sym n.0; output = rw n.1 }

  written_copied : r.refused ≡ 0 → (after : List ℕ) (w : WritingRecord) → Wrote (view_table r.table) before after w → Copied file before after w.refused
  unfolding copy_of copy_or
  written_copied z after w o =
      let none : (read_table file).refused ≡ 0 = cc refusal_is in
      let same : view_table r.table ≡ (read_table file).table = ap (λ (x : ReadingRecord). view_table x.table) e ∙ read_shown file in
      record { answer = rw none (rw same at o.refused); output = rw none (rw same at o.output) }

  pub told_copied : r.refused ≡ 0 → (after : List ℕ) (w : Result ℕ Refusal) → Wrote (view_table r.table) before after (writing_of w) → Copied file before after (number_or_0 w)
  told_copied z after w o = rw (← told_written w) (written_copied z after (writing_of w) o)
