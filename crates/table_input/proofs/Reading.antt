-- A table that the reader answers passes its checks.
use mathlib.Core.Path.{◌≡◌, sym, ap, ◌∙◌}
use mathlib.Core.List.{List}
use Prim.Native.Nat.{ℕ}
use Rattle.std.specs.Prelude.{Ok}
use Rattle.model.specs.Table.{table_refusal}
use Rattle.model.specs.TableFile.{read_table}
use Rattle.model.proofs.FileRead.{read_passes}
use Rattle.table.specs.declared.Table.{Table as TableRecord}
use Rattle.table.specs.View.{view_table}
use Rattle.table_file.specs.Answers.{Reading, reading_of, record_reading}
use Rattle.table_file.proofs.Back.{read_shown}

pub read_taken : (file : List ℕ) (t : TableRecord) → reading_of (Ok t) ≡ record_reading (read_table file) → table_refusal (view_table t) ≡ 0
read_taken file t e =
    let free : (read_table file).refused ≡ 0 = sym (ap (λ (a : Reading). a.refused) e) in
    rw (ap (λ (a : Reading). view_table a.table) e ∙ read_shown file) (read_passes file free)
