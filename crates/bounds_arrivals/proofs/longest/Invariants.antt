use mathlib.Core.Path.{◌≡◌}
use Prim.Native.Nat.{◌≤◌}
use lib.ListN.{take}
use Rattle.model.specs.Link.{greatest_over}
use Rattle.table.specs.View.{view_links}
use Rattle.bounds_arrivals.specs.Loads.{between}
use Rattle.bounds_arrivals.proofs.longest.Given as goal

abbrev pub invariant-loop-l : goal.invariant-loop-l
invariant-loop-l l = (l.top ≡ greatest_over (between l.of.low l.of.high) (λ v. v.greatest) (take l.l-index (view_links l.fn.t.table))) × (l.top ≤ 1_538)
