-- The port record and the port of the model; the fresh record.
use Rattle.std.specs.Prelude.{None, List, map, replicate}
use Rattle.model.specs.Basics.{entries}
use Rattle.model.specs.Units.{most_frames}
use Rattle.model.specs.Table.{Table}
use Rattle.model.specs.Port.{Account, Port, blank_account, full_account}
use Rattle.table.specs.declared.Table.{Table as TableRecord}
use Rattle.table.specs.View.{view_links, view_table}
use Rattle.port_policing.specs.Check.{record_account}
use Rattle.port_scheduler.specs.declared.Queue.{Queue}
use Rattle.port_scheduler.specs.View.{blank_entry}
use Rattle.port_record_fitness.specs.View.{view_parts}
use Rattle.port.specs.declared.Port.{Port as PortRecord}

-- the table of a port record, and its state: what stands before the counts
abbrev pub view_port_table : PortRecord → Table
view_port_table p = view_table p.table

unfoldable pub view_port : PortRecord → Port
view_port p = view_parts p.table p.clock p.queues p.sender p.gate p.counts p.unknown

-- ---- the fresh record
abbrev pub empty_queue : Queue
empty_queue = record { count = 0; mark = 0; frames = replicate most_frames blank_entry }

-- a record with nothing held and nothing counted, and these accounts before blank ones
unfoldable pub resting_port : TableRecord → List Account → PortRecord
resting_port t accounts =
    record {
      table = t;
      clock = 0;
      queues = replicate 8 empty_queue;
      sender = None;
      gate = record { line_ticks = replicate 24 0; accounts = entries (record_account blank_account) 256 (map record_account accounts) };
      counts = replicate 1024 0;
      unknown = 0;
    }

unfoldable pub fresh_port : TableRecord → PortRecord
fresh_port t = resting_port t (map full_account (view_links t))
