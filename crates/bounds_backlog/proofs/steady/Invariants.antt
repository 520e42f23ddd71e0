use Prim.Native.Nat.{◌≤◌}
use Rattle.table.specs.View.{view_links}
use Rattle.bounds_arrivals.specs.Loads.{between}
use Rattle.bounds_backlog.specs.Stretches.{Steady}
use Rattle.bounds_backlog.proofs.steady.Given as goal

abbrev pub invariant-loop-l : goal.invariant-loop-l
invariant-loop-l l = (l.w ≤ l.last) × Steady (between 0 l.high) (view_links l.fn.t.table) l.l-index l.w l.last
