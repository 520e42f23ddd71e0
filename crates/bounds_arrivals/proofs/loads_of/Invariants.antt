use lib.ListN.{take}
use Rattle.table.specs.View.{view_links}
use Rattle.bounds_arrivals.specs.Loads.{between, less, Loaded}
use Rattle.bounds_arrivals.proofs.Loading.{loads_of}
use Rattle.bounds_arrivals.proofs.loads_of.Given as goal

abbrev pub invariant-loop-l : goal.invariant-loop-l
invariant-loop-l l = Loaded (less l.cut) (between l.of.low l.of.high) (take l.l-index (view_links l.fn.t.table)) l.w (loads_of l.sums l.tops)
