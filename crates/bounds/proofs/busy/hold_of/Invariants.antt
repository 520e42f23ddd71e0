use Prim.Native.Nat.{◌-◌}
use Rattle.table.specs.View.{view_table}
use Rattle.bounds.proofs.Climbing.{Unheld}
use Rattle.bounds.proofs.busy.hold_of.Given as goal

abbrev pub invariant-loop-last : goal.invariant-loop-last
invariant-loop-last l = Unheld (view_table l.t.table) l.p l.last

abbrev pub decreases-loop-last : goal.decreases-loop-last
decreases-loop-last l = 65_536 - l.last
