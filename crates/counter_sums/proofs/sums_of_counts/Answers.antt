use native.Mathlib.Omega.{arith}
use Rattle.model.specs.Counters.{none_full}
use Rattle.counters.specs.View.{view_counts}
use Rattle.counter_sums.proofs.Adding.{each_few, sums_none, total_none, total_fits, sums_more, total_more}
use Rattle.counter_sums.proofs.Answered.{of_counts}
use Rattle.counter_sums.proofs.sums_of_counts.Goals as goal

pub loop-i-init : goal.loop-i-init
loop-i-init c = (sums_none c.args.counts.now c.args.unknown c.args.n c.requires, total_none c.args.counts.now c.args.unknown c.args.n c.requires)

pub link_sum-sum-requires : goal.link_sum-sum-requires
link_sum-sum-requires c = (c.requires.sized, omega (arith, c.requires.links), each_few c.args.counts.now c.args.unknown c.args.n c.requires c.loop-i.i (omega arith))

pub overflow_add-total : goal.overflow_add-total
overflow_add-total c = omega (arith, c.loop-i.invariant.1, total_fits c.args.counts.now c.args.unknown c.args.n c.requires c.loop-i.i (omega arith) c.link_sum-sum.ensures)

pub loop-i-preserved : goal.loop-i-preserved
loop-i-preserved c = (
  rw c.loop-i.invariant.0 (sums_more c.args.counts.now c.args.unknown c.args.n c.requires c.loop-i.i (omega arith) c.link_sum-sum.ensures),
  rw c.loop-i.invariant.1 (total_more c.args.counts.now c.args.unknown c.args.n c.requires c.loop-i.i (omega arith) c.link_sum-sum.ensures),
)

pub returns : goal.returns
unfolding none_full
returns c =
    let a = c.args in
    of_counts a.n (view_counts a.n a.counts.now a.unknown) c.loop-i.i c.loop-i.invariant.0 c.loop-i.invariant.1 (omega arith) (omega arith) c.all_below-none_full.ensures c.then_some.ensures
