use mathlib.Core.Path.{◌≡◌}
use Rattle.model.specs.Basics.{entries}
use Rattle.model.specs.Counters.{link_sums, grand_total}
use Rattle.counters.specs.View.{view_counts}
use Rattle.counter_sums.proofs.sums_of_counts.Given as goal

abbrev pub invariant-loop-i : goal.invariant-loop-i
invariant-loop-i l = (l.sums ≡ entries 0 256 (link_sums l.i (view_counts l.n l.counts l.unknown))) × (l.total ≡ grand_total l.i (view_counts l.n l.counts l.unknown))
