-- What the call for the handful answers: the number of a refusal and no table, which is the blank one; or 0 and the table.
use Rattle.std.specs.Prelude.{ℕ, Result, Ok, Err}
use Rattle.model.specs.Table.{blank_table}
use Rattle.model.specs.OverloadCore.{Core as ModelCore}
use Rattle.refusal.specs.declared.Refusal.{Refusal}
use Rattle.refusal.specs.Numbers.{number_of}
use Rattle.table.specs.declared.Table.{Table as TableRecord}
use Rattle.table.specs.View.{record_table}

pub record Core : Type 0 where
  pub refused : ℕ
  pub table : TableRecord

abbrev pub core_of : Result TableRecord Refusal → Core
core_of (Ok t) = record { refused = 0; table = t }
core_of (Err refusal) = record { refused = number_of refusal; table = record_table blank_table }

-- the model's answer, its table as a record
abbrev pub record_core : ModelCore → Core
record_core c = record { refused = c.refused; table = record_table c.table }
