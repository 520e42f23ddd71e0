-- What the call for the next table answers: the number of a refusal and no table, which is the blank one; or 0 and the table.
use Rattle.std.specs.Prelude.{ℕ, Result, Ok, Err}
use Rattle.model.specs.Table.{blank_table}
use Rattle.model.specs.NextTable.{Next as ModelNext}
use Rattle.refusal.specs.declared.Refusal.{Refusal}
use Rattle.refusal.specs.Numbers.{number_of}
use Rattle.table.specs.declared.Table.{Table as TableRecord}
use Rattle.table.specs.View.{record_table}

pub record Next : Type 0 where
  pub refused : ℕ
  pub table : TableRecord

abbrev pub next_of : Result TableRecord Refusal → Next
next_of (Ok t) = record { refused = 0; table = t }
next_of (Err refusal) = record { refused = number_of refusal; table = record_table blank_table }

-- the model's answer, its table as a record
abbrev pub record_next : ModelNext → Next
record_next n = record { refused = n.refused; table = record_table n.table }
