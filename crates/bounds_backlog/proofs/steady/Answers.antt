use native.Mathlib.Omega.{arith}
use Rattle.table.proofs.PassingRecord.{entry_fits}
use Rattle.bounds_backlog.proofs.Steadiness.{steady_step}
use Rattle.bounds_backlog.proofs.steady.Goals as goal

pub loop-l-init : goal.loop-l-init
loop-l-init c = (omega (arith, c.requires), λ i h. absurd (omega arith))

pub link_steady-requires : goal.link_steady-requires
link_steady-requires c =
    let i = c.loop-l.l-index in
    let f = entry_fits c.args.t.table c.args.t.passes i (omega arith) in
    rw (c.links-l-items.ensures.same i (omega arith)) (f.code_most, f.jitter_most, c.requires)

pub loop-l-preserved : goal.loop-l-preserved
loop-l-preserved c =
    let t = c.args.t in
    let i = c.loop-l.l-index in
    let s = rw (c.links-l-items.ensures.same i (omega arith)) at c.link_steady.ensures in (
      omega (arith, s.past),
      steady_step t.table t.passes i (omega arith) c.args.w c.args.high c.link_steady.result s c.loop-l.last c.min-last.result c.loop-l.invariant.1 c.min-last.ensures,
    )

pub returns : goal.returns
returns c = (omega arith, λ i h. c.loop-l.invariant.1 i (omega arith))
