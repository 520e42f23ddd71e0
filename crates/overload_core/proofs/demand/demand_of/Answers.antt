use Prim.Native.Nat.{◌≤◌}
use native.Mathlib.Omega.{arith}
use Rattle.table.proofs.PassingRecord.{counts_pass, entry_fits}
use Rattle.bounds_arrivals.proofs.Fitting.{product_few}
use Rattle.overload_core.proofs.Lacking.{summed_none, summed_more, summed_all}
use Rattle.overload_core.proofs.demand.demand_of.Goals as goal

pub loop-l-init : goal.loop-l-init
loop-l-init c = summed_none c.args.t.now.table c.args.w

pub frames-requires : goal.frames-requires
frames-requires c =
    let i = c.loop-l.l-index in
    let f = entry_fits c.args.t.now.table c.args.t.now.passes i (omega arith) in
    rw (c.links-l-items.ensures.same i (omega arith)) (f.code_most, f.jitter_most, c.requires)

few : (c : goal.After-frames) → c.from.result ≤ 1_538
few c =
    let i = c.loop-l.l-index in
    let x = rw (c.links-l-items.ensures.same i (omega arith)) at c.from.ensures in
    omega (arith, (entry_fits c.args.t.now.table c.args.t.now.passes i (omega arith)).greatest_most)

pub overflow_mul-sum : goal.overflow_mul-sum
overflow_mul-sum c = omega (arith, product_few c.from.result c.frames.result (few c) c.frames.ensures.1)

pub overflow_add-sum : goal.overflow_add-sum
overflow_add-sum c = omega (arith, product_few c.from.result c.frames.result (few c) c.frames.ensures.1, c.loop-l.invariant.small, (counts_pass c.args.t.now.table c.args.t.now.passes).links_most)

pub loop-l-preserved : goal.loop-l-preserved
loop-l-preserved c =
    let i = c.loop-l.l-index in
    summed_more c.args.t.now.table c.args.w c.args.t.now.passes c.loop-l.invariant (omega arith) _ (c.links-l-items.ensures.same i (omega arith)) c.from.result c.frames.result c.from.ensures c.frames.ensures.0 c.frames.ensures.1

pub returns : goal.returns
returns c = summed_all c.args.t.now.table c.args.w c.args.t.now.passes c.loop-l.invariant (omega arith)
