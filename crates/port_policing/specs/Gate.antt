-- The gate record of a table and the gate of the model: what stands before the counts.
use Rattle.std.specs.Prelude.{map}
use Rattle.model.specs.Basics.{entries}
use Rattle.model.specs.Port.{Gate, blank_account}
use Rattle.table.specs.declared.Table.{Table as TableRecord}
use Rattle.port_policing.specs.declared.Gate.{Gate as GateRecord}
use Rattle.port_policing.specs.Check.{view_account}

abbrev pub view_gate : TableRecord → GateRecord → Gate
view_gate t g =
    record { line_ticks = entries 0 t.lines g.line_ticks; accounts = entries blank_account t.count (map view_account g.accounts) }
