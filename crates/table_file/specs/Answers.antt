-- What the reader and the writer of a table file answer.
use Rattle.std.specs.Prelude.{◌≡◌, List, ℕ, Result, Ok, Err}
use Rattle.model.specs.Table.{Table, blank_table}
use Rattle.model.specs.TableFile.{Reading as ModelReading, write_table}
use Rattle.refusal.specs.declared.Refusal.{Refusal}
use Rattle.refusal.specs.Numbers.{number_of}
use Rattle.table.specs.declared.Table.{Table as TableRecord}
use Rattle.table.specs.View.{record_table}

-- the number of a refusal and no table, which is the blank one; or 0 and the table
pub record Reading : Type 0 where
  pub refused : ℕ
  pub table : TableRecord

abbrev pub reading_of : Result TableRecord Refusal → Reading
reading_of (Ok t) = record { refused = 0; table = t }
reading_of (Err refusal) = record { refused = number_of refusal; table = record_table blank_table }

-- what the reader of a file answers: the record of the model's table
abbrev pub record_reading : ModelReading → Reading
record_reading r = record { refused = r.refused; table = record_table r.table }

-- the number of a refusal, or 0 and the bytes written
pub record Writing : Type 0 where
  pub refused : ℕ
  pub written : ℕ

abbrev pub writing_of : Result ℕ Refusal → Writing
writing_of (Ok written) = record { refused = 0; written = written }
writing_of (Err refusal) = record { refused = number_of refusal; written = 0 }

-- the answer and the whole output afterwards are those of the model
pub record Wrote (t : Table) (before after : List ℕ) (r : Writing) : Type 0 where
  pub refused : r.refused ≡ (write_table t before).refused
  pub written : r.written ≡ (write_table t before).written
  pub output : after ≡ (write_table t before).output
