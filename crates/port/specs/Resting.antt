-- The parts of a fresh record.
use Rattle.std.specs.Prelude.{None, List, replicate}
use Rattle.table.specs.declared.Table.{Table as TableRecord}
use Rattle.port_policing.specs.declared.Account.{Account as AccountRecord}
use Rattle.port.specs.declared.Port.{Port as PortRecord}
use Rattle.port.specs.View.{empty_queue}

-- "clock, ticks and marks 0, queues empty, idle", nothing counted
abbrev pub resting_with : TableRecord → List AccountRecord → PortRecord
resting_with t accounts =
    record {
      table = t;
      clock = 0;
      queues = replicate 8 empty_queue;
      sender = None;
      gate = record { line_ticks = replicate 24 0; accounts = accounts };
      counts = replicate 1024 0;
      unknown = 0;
    }
