use Rattle.overload_core.proofs.Lacking.{Summed}
use Rattle.overload_core.proofs.demand.demand_of.Given as goal

abbrev pub invariant-loop-l : goal.invariant-loop-l
invariant-loop-l l = Summed l.fn.t.table l.w l.sum l.l-index
