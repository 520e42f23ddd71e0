use mathlib.Core.Path.{refl}
use native.Mathlib.Omega.{arith}
use lib.ListN.{get_or}
use Rattle.model.proofs.TableFacts.{counts_fit}
use Rattle.refusal.proofs.Numbers.{number_not_0, passed_on}
use Rattle.table.specs.View.{view_links}
use Rattle.table.proofs.Refusals.{previous_none}
use Rattle.table.proofs.Shape.{sized}
use Rattle.table.proofs.Reservations.{summed_none, summed_more, summed_all}
use Rattle.table.proofs.Links.{links_stop, links_go_on, links_end}
use Rattle.table.proofs.checks.check_links.Goals as goal

pub loop-i-init : goal.loop-i-init
loop-i-init c = (c.from-n.ensures, rw (previous_none 0), summed_none c.args.t (sized c.args.t _ c.well_formed.0))

pub offset_bounds-t-i : goal.offset_bounds-t-i
offset_bounds-t-i c = let k = counts_fit c.args.t.lines c.args.t.count c.requires in omega arith

pub bounds-t-i : goal.bounds-t-i
bounds-t-i c = let k = counts_fit c.args.t.lines c.args.t.count c.requires in omega arith

pub offset_bounds-t-i-in-loop-i : goal.offset_bounds-t-i-in-loop-i
offset_bounds-t-i-in-loop-i c = let k = counts_fit c.args.t.lines c.args.t.count c.requires in omega arith

pub bounds-t-i-in-loop-i : goal.bounds-t-i-in-loop-i
bounds-t-i-in-loop-i c = let k = counts_fit c.args.t.lines c.args.t.count c.requires in omega arith

pub returns-in_err-check_link : goal.returns-in_err-check_link
returns-in_err-check_link c = rw (passed_on _ _ c.from_residual.ensures.1) (links_stop c.args.t _ c.well_formed.0 c.requires c.loop-i.previous c.loop-i.i (omega arith) c.loop-i.invariant.1 _ c.in_err-check_link.ensures (number_not_0 _))

pub offset_bounds-sums-line : goal.offset_bounds-sums-line
offset_bounds-sums-line c = omega arith

pub bounds-sums-line : goal.bounds-sums-line
bounds-sums-line c = omega arith

pub overflow_add-sums : goal.overflow_add-sums
overflow_add-sums c =
    let k = counts_fit c.args.t.lines c.args.t.count c.requires in
    omega (arith, c.loop-i.invariant.2.most c.line_of-line.result)

pub bounds-sums-line-in-loop-i : goal.bounds-sums-line-in-loop-i
bounds-sums-line-in-loop-i c = omega arith

pub loop-i-preserved : goal.loop-i-preserved
loop-i-preserved c =
    let t = c.args.t in
    let k = counts_fit t.lines t.count c.requires in (
      c.loop-i.invariant.0,
      links_go_on t _ c.well_formed.0 c.requires c.loop-i.previous c.loop-i.i (omega arith) c.loop-i.invariant.1 _ c.in_ok-check_link.ensures refl,
      summed_more t (sized t _ c.well_formed.0) c.loop-i.invariant.2 (omega arith) c.line_of-line.result c.reservation_of-more.result c.line_of-line.ensures.0 c.line_of-line.ensures.1 (c.reservation_of-more.ensures.0 (get_or t.numbers c.loop-i.i 0)) c.reservation_of-more.ensures.1,
    )

pub returns : goal.returns
returns c =
    let t = c.args.t in
    let k = counts_fit t.lines t.count c.requires in
    links_end t c.loop-i.previous c.loop-i.i (omega arith) c.loop-i.invariant.1 _ (c.check_sums.ensures (view_links t) (summed_all t (sized t _ c.well_formed.0) c.loop-i.invariant.2 (omega arith)))
