use native.Mathlib.Omega.{arith}
use Rattle.redundancy_bench.proofs.Summing.{recordings, begins, ends, taken_a, taken_b}
use Rattle.redundancy_bench.proofs.bench_redundancy.Goals as goal
use Rattle.redundancy_bench.proofs.bench_redundancy.Goals.{then-is_b, else-is_b}

pub loop-k-init : goal.loop-k-init
loop-k-init c = begins (recordings c.args.a.now c.args.ticks_a.now c.args.b.now c.args.ticks_b.now) c.args.skew c.args.calls c.fresh-state.ensures

pub overflow_add-j : goal.overflow_add-j
overflow_add-j c = omega (arith, c.loop-k-test.true, c.loop-k.invariant.at_a, c.loop-k.invariant.at_b, c.ranges)

pub overflow_add-i : goal.overflow_add-i
overflow_add-i c = omega (arith, c.loop-k-test.true, c.loop-k.invariant.at_a, c.loop-k.invariant.at_b, c.ranges)

pub loop-k-preserved : goal.loop-k-preserved
loop-k-preserved c =
    elim c.if-is_b.branch [
      | then-is_b w ↦ taken_b (recordings c.args.a.now c.args.ticks_a.now c.args.b.now c.args.ticks_b.now) c.args.skew c.args.calls c.loop-k.invariant c.loop-k-test.true c.frame_at.ensures c.tick_at.ensures c.frame_at-in-loop-k.ensures c.tick_at-in-loop-k.ensures c.measured-m.result.decision c.measured-m.result.measure c.measured-m.ensures.0 c.measured-m.ensures.1 c.with_part-total.ensures c.is_b.ensures w.if-is_b.true w.i-is w.j-is
      | else-is_b w ↦ taken_a (recordings c.args.a.now c.args.ticks_a.now c.args.b.now c.args.ticks_b.now) c.args.skew c.args.calls c.loop-k.invariant c.loop-k-test.true c.frame_at.ensures c.tick_at.ensures c.frame_at-in-loop-k.ensures c.tick_at-in-loop-k.ensures c.measured-m.result.decision c.measured-m.result.measure c.measured-m.ensures.0 c.measured-m.ensures.1 c.with_part-total.ensures c.is_b.ensures w.if-is_b.false w.i-is w.j-is
    ]

pub returns : goal.returns
returns c = ends (recordings c.args.a.now c.args.ticks_a.now c.args.b.now c.args.ticks_b.now) c.args.skew c.args.calls c.loop-k.invariant (omega arith)
