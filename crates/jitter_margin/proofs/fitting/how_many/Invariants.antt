use Prim.Native.Nat.{◌-◌}
use lib.ListN.{get_or}
use Rattle.table.specs.View.{view_table}
use Rattle.jitter_margin.proofs.Halving.{Halved}
use Rattle.jitter_margin.proofs.fitting.how_many.Given as goal

abbrev pub invariant-loop-low : goal.invariant-loop-low
invariant-loop-low l = Halved (view_table l.t.table) (get_or l.t.table.numbers l.i 0) l.low l.high

abbrev pub decreases-loop-low : goal.decreases-loop-low
decreases-loop-low l = l.high - l.low
