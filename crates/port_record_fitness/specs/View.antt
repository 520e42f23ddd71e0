-- The parts of a port record and the port of the model: what stands before the counts.
use Rattle.std.specs.Prelude.{Option, List, ℕ}
use Rattle.model.specs.Machine.{at}
use Rattle.model.specs.Port.{Port}
use Rattle.table.specs.declared.Table.{Table as TableRecord}
use Rattle.port_policing.specs.declared.Gate.{Gate as GateRecord}
use Rattle.port_policing.specs.Gate.{view_gate}
use Rattle.port_scheduler.specs.declared.Queue.{Queue}
use Rattle.port_scheduler.specs.declared.Sending.{Sending}
use Rattle.port_scheduler.specs.View.{view_queues, view_marks, view_sender}
use Rattle.counters.specs.View.{view_counts}

abbrev pub view_parts : TableRecord → ℕ → List Queue → Option Sending → GateRecord → List ℕ → ℕ → Port
view_parts t clock queues sender gate counts unknown =
    record {
      scheduler = at clock (view_queues queues) (view_sender sender);
      marks = view_marks queues;
      gate = view_gate t gate;
      counters = view_counts t.count counts unknown;
    }
