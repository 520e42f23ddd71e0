use Rattle.table.specs.View.{view_table}
use Rattle.bounds.proofs.Answering.{Known}
use Rattle.bounds.proofs.bounds_of.Given as goal

abbrev pub invariant-loop-p : goal.invariant-loop-p
invariant-loop-p l = Known (view_table l.passing.table) l.bounds l.holds l.windows l.p
