use Rattle.table.proofs.Reservations.{CarryTo}
use Rattle.table.proofs.checks.check_sums.Given as goal

abbrev pub invariant-loop-line : goal.invariant-loop-line
invariant-loop-line l = CarryTo l.sums l.line
