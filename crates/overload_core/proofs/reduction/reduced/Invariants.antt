use Rattle.overload_core.proofs.Reducing.{Reduced}
use Rattle.overload_core.proofs.reduction.reduced.Given as goal

abbrev pub invariant-loop-i : goal.invariant-loop-i
invariant-loop-i l = Reduced l.t.table l.kept l.i
