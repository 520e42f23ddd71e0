-- A batch of a file: the reader's refusal, then that of the lists, then what the batch from the fresh port gives.
use mathlib.Core.Path.{◌≡◌, refl, sym, ap, ◌∙◌}
use mathlib.Core.List.{List}
use Prim.Native.Nat.{ℕ, zero, suc}
use lib.ListN.{length}
use Rattle.model.specs.Table.{Table, table_refusal}
use Rattle.model.specs.TableFile.{read_table}
use Rattle.model.specs.Port.{fresh}
use Rattle.model.specs.Batch.{batch, reports_in, numbers_in, bytes_refusal, bytes_or, file_or, batch_file}
use Rattle.model.proofs.FileRead.{read_passes}
use Rattle.table.specs.View.{view_table}
use Rattle.table_file.specs.Answers.{Reading as ReadingRecord, record_reading}
use Rattle.table_file.proofs.Back.{read_shown}
use Rattle.batch_bytes.specs.Promised.{BytesAnswers}
use Rattle.fenuschia_c.specs.Reported.{Reported}

refused_file : (n : ℕ) (t : Table) (reports answers list : List ℕ) → (n ≡ 0 → ⊥) → Reported (file_or n t reports answers list) n answers list
unfolding file_or
refused_file zero t reports answers list h = absurd (h refl)
refused_file (suc n) t reports answers list h = record { answer = refl; answers_are = refl; list_is = refl }

refused_lists : (n : ℕ) (t : Table) (reports answers list : List ℕ) → (n ≡ 0 → ⊥) → Reported (bytes_or n t reports answers list) n answers list
unfolding bytes_or
refused_lists zero t reports answers list h = absurd (h refl)
refused_lists (suc n) t reports answers list h = record { answer = refl; answers_are = refl; list_is = refl }

module _ (file reports answers list : List ℕ) (r : ReadingRecord) (e : r ≡ record_reading (read_table file)) where
  refusal_is : r.refused ≡ (read_table file).refused
  refusal_is = ap (λ (x : ReadingRecord). x.refused) e

  pub file_refused : (r.refused ≡ 0 → ⊥) → Reported (batch_file file reports answers list) r.refused answers list
  unfolding batch_file
  file_refused h = rw (← refusal_is) (refused_file r.refused (read_table file).table reports answers list h)

  module _ (z : r.refused ≡ 0) {n : ℕ} (b : n ≡ bytes_refusal reports (length answers)) where
    abbrev table : Table
    table = (read_table file).table

    none : (read_table file).refused ≡ 0
    none = sym refusal_is ∙ z

    shown : view_table r.table ≡ table
    shown = ap (λ (x : ReadingRecord). view_table x.table) e ∙ read_shown file

    pub lists_refused : (n ≡ 0 → ⊥) → Reported (batch_file file reports answers list) n answers list
    unfolding batch_file file_or
    lists_refused h = rw (none, ← b) (refused_lists n table reports answers list h)

    pub passes : table_refusal (view_table r.table) ≡ 0
    passes = rw shown (read_passes file none)

    pub batch_given : n ≡ 0 → {answers' list' : List ℕ} →
        BytesAnswers (batch (view_table r.table) (fresh (view_table r.table)) (reports_in (numbers_in reports)) (numbers_in list)) answers answers' list list' →
        Reported (batch_file file reports answers list) 0 answers' list'
    unfolding batch_file file_or bytes_or
    batch_given m k =
        let q : bytes_refusal reports (length answers) ≡ 0 = sym b ∙ m in
        record { answer = rw (none, q); answers_are = rw (none, q) (rw shown at k.answers_are); list_is = rw (none, q) (rw shown at k.list_is) }
