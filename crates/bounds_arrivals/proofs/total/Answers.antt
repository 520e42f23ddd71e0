use mathlib.Core.Path.{◌≡◌}
use native.Mathlib.Omega.{arith}
use Rattle.bounds_arrivals.proofs.Loading.{flow_none, flow_more}
use Rattle.bounds_arrivals.proofs.total.Goals as goal

pub loop-k-init : goal.loop-k-init
loop-k-init c = (flow_none c.args.l c.args.w, omega arith)

pub offset_bounds-l-k : goal.offset_bounds-l-k
offset_bounds-l-k c = omega arith

pub bounds-l-k : goal.bounds-l-k
bounds-l-k c = omega arith

pub offset_bounds-l-k-in-loop-k : goal.offset_bounds-l-k-in-loop-k
offset_bounds-l-k-in-loop-k c = omega arith

pub bounds-l-k-in-loop-k : goal.bounds-l-k-in-loop-k
bounds-l-k-in-loop-k c = omega arith

pub overflow_add-w : goal.overflow_add-w
overflow_add-w c = omega (arith, c.requires.2 c.loop-k.k (omega arith))

pub overflow_add-sum : goal.overflow_add-sum
overflow_add-sum c = omega (arith, c.requires.2 c.loop-k.k (omega arith))

pub loop-k-preserved : goal.loop-k-preserved
loop-k-preserved c =
    let k = c.loop-k.k in
    let m = flow_more c.args.l k c.args.w in
    (omega arith, omega (arith, c.requires.2 k (omega arith)))

pub returns : goal.returns
returns c =
    let e : c.loop-k.k ≡ c.args.lines = omega arith in
    (rw e at c.loop-k.invariant.0, omega arith)
