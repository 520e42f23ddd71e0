use Prim.Native.Nat.{◌+◌, ◌-◌, ◌≤◌}
use Rattle.model.specs.Bounds.{backlog}
use Rattle.table.specs.View.{view_table}
use Rattle.bounds_backlog.specs.Peaks.{Highest}
use Rattle.bounds_backlog.proofs.peak_of.Given as goal

abbrev pub invariant-loop-w : goal.invariant-loop-w
invariant-loop-w l = (l.w ≤ l.s.last + 1) × Highest (backlog (view_table l.t.table) l.s.priority) l.w l.best.backlog l.best.window

abbrev pub decreases-loop-w : goal.decreases-loop-w
decreases-loop-w l = l.s.last + 1 - l.w
