use Rattle.table.specs.View.{view_table}
use Rattle.bounds.proofs.Sufficing.{Sufficing}
use Rattle.bounds.proofs.sizes.suffice.Given as goal

abbrev pub invariant-loop-p : goal.invariant-loop-p
invariant-loop-p l = Sufficing (view_table l.passing.table) l.p
