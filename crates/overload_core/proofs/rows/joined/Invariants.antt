use mathlib.Core.List.{◌++◌}
use Prim.Native.Nat.{◌-◌, ◌≤◌}
use lib.ListN.{drop}
use Rattle.table.specs.View.{view_links}
use Rattle.overload_core.proofs.Filling.{shown_by, Joined}
use Rattle.overload_core.proofs.rows.joined.Given as goal

abbrev pub invariant-loop-i : goal.invariant-loop-i
invariant-loop-i l = (l.many ≤ l.i) × (l.many ≤ 256) × Joined l.t (shown_by l.k l.initial.numbers l.initial.links ++ drop l.from (view_links l.t)) l.numbers l.links l.many l.i
