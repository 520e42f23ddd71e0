use Prim.Native.Nat.{◌-◌}
use Rattle.bounds_backlog.specs.Stretches.{backlog_in}
use Rattle.bounds_backlog.proofs.Bending.{Bracket}
use Rattle.bounds_backlog.proofs.crest.Given as goal

abbrev pub invariant-loop-low : goal.invariant-loop-low
invariant-loop-low l = Bracket (backlog_in l.s) l.s.start l.s.last l.low l.high

abbrev pub decreases-loop-low : goal.decreases-loop-low
decreases-loop-low l = l.high - l.low
