use Prim.Native.Nat.{◌-◌, ◌≤◌}
use Rattle.model.proofs.LastHold.{Overloaded}
use Rattle.table.specs.View.{view_links}
use Rattle.overload_core.proofs.demand.lacks.Given as goal

abbrev pub invariant-loop-w : goal.invariant-loop-w
invariant-loop-w l = (1 ≤ l.w) × Overloaded (view_links l.passing.table) l.w

abbrev pub decreases-loop-w : goal.decreases-loop-w
decreases-loop-w l = 65_537 - l.w
