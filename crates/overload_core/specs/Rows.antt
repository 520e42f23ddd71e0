-- A table record with nothing behind its count.
use Rattle.std.specs.Prelude.{◌≡◌}
use Rattle.table.specs.declared.Table.{Table as TableRecord}
use Rattle.table.specs.View.{view_table, record_table}

-- it is the record of what it shows
abbrev pub Recorded : TableRecord → Type 0
Recorded t = t ≡ record_table (view_table t)
