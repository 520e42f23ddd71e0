use mathlib.Core.Path.{refl}
use native.Mathlib.Omega.{arith}
use Rattle.model.specs.Table.{all_at_most}
use Rattle.table.proofs.Ranges.{at_most_more, size_past, sizes_end}
use Rattle.table.proofs.checks.check_sizes.Goals as goal

pub loop-size-init : goal.loop-size-init
unfolding all_at_most
loop-size-init c = refl

pub returns-then-size-gt16384 : goal.returns-then-size-gt16384
returns-then-size-gt16384 c = size_past c.args.sizes c.loop-size.size-index (omega arith)

pub loop-size-preserved : goal.loop-size-preserved
loop-size-preserved c = at_most_more 16384 c.args.sizes c.loop-size.size-index c.loop-size.invariant (omega arith)

pub returns : goal.returns
returns c = sizes_end c.args.sizes c.loop-size.size-index c.well_formed.0.1.0.1 (omega arith) c.loop-size.invariant
