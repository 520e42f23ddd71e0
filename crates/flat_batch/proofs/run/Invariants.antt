use Rattle.model.specs.Batch.{reports_in}
use Rattle.table.specs.View.{view_table}
use Rattle.flat_batch.specs.Promised.{batch_of}
use Rattle.flat_batch.proofs.Turning.{Turning}
use Rattle.flat_batch.proofs.run.Given as goal

abbrev pub invariant-loop-i : goal.invariant-loop-i
invariant-loop-i l = Turning (view_table l.table) l.initial.port (batch_of (view_table l.table) l.initial.port (reports_in l.reports) l.initial.list) l.reports l.initial.answers l.initial.list l.port l.i l.written l.accepted l.answers l.list
