use native.Mathlib.Omega.{arith}
use Rattle.model.proofs.Bags.{bag_most}
use Rattle.bounds_backlog.proofs.Steadiness.{past_window, link_steady, link_out, product_fits}
use Rattle.bounds_backlog.proofs.link_steady.Goals as goal

pub returns-then-high-l : goal.returns-then-high-l
returns-then-high-l c = link_out c.args.l c.args.high c.args.w c.requires.2 c.if-high-l.true

pub overflow_mul-result : goal.overflow_mul-result
overflow_mul-result c = omega (arith, product_fits c.frames-n.result c.bag.result c.frames-n.ensures.1 (omega (arith, bag_most c.args.l.code)))

pub overflow_sub-result : goal.overflow_sub-result
overflow_sub-result c =
    let a = c.args in
    omega (arith, past_window a.l a.w c.frames-n.result c.bag.result c.from.result c.frames-n.ensures.0 c.bag.ensures c.from.ensures)

pub overflow_sub-result-2 : goal.overflow_sub-result-2
overflow_sub-result-2 c =
    let a = c.args in
    omega (arith, past_window a.l a.w c.frames-n.result c.bag.result c.from.result c.frames-n.ensures.0 c.bag.ensures c.from.ensures)

pub returns : goal.returns
returns c =
    let a = c.args in
    link_steady a.l a.w c.frames-n.result c.bag.result c.from.result c.frames-n.ensures.0 c.bag.ensures c.from.ensures a.high
