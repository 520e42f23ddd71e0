use native.Mathlib.Omega.{arith}
use lib.ListN.{get_or}
use Rattle.table.proofs.Shape.{sized}
use Rattle.table.proofs.Reservations.{summed_none, summed_more, summed_all}
use Rattle.table.proofs.checks.reserved.Goals as goal

pub loop-i-init : goal.loop-i-init
loop-i-init c = (omega arith, summed_none c.args.t (sized c.args.t _ c.well_formed.0))

pub offset_bounds-t-i : goal.offset_bounds-t-i
offset_bounds-t-i c = omega arith

pub bounds-t-i : goal.bounds-t-i
bounds-t-i c = omega arith

pub offset_bounds-sums-on : goal.offset_bounds-sums-on
offset_bounds-sums-on c = omega arith

pub bounds-sums-on : goal.bounds-sums-on
bounds-sums-on c = omega arith

pub overflow_add-sums : goal.overflow_add-sums
overflow_add-sums c = omega (arith, c.loop-i.invariant.1.most c.line_of-on.result)

pub bounds-sums-on-in-loop-i : goal.bounds-sums-on-in-loop-i
bounds-sums-on-in-loop-i c = omega arith

pub loop-i-preserved : goal.loop-i-preserved
loop-i-preserved c =
    let t = c.args.t in
    (omega arith, summed_more t (sized t _ c.well_formed.0) c.loop-i.invariant.1 (omega arith) c.line_of-on.result c.reservation_of-more.result c.line_of-on.ensures.0 c.line_of-on.ensures.1 (c.reservation_of-more.ensures.0 (get_or t.numbers c.loop-i.i 0)) c.reservation_of-more.ensures.1)

pub returns : goal.returns
returns c =
    let t = c.args.t in
    summed_all t (sized t _ c.well_formed.0) c.loop-i.invariant.1 (omega arith)
