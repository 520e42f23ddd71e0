use mathlib.Core.Path.{refl}
use native.Mathlib.Omega.{arith}
use Rattle.refusal.proofs.Numbers.{number_not_0, passed_on}
use Rattle.tandem.proofs.Filling.{few, rows_count, fits, hold_small, row_made, row_number, too_late, filled_none, filled_more, oversold, all_filled}
use Rattle.tandem.proofs.rows.next_rows.Goals as goal

pub loop-i-init : goal.loop-i-init
loop-i-init c = (c.from-n.ensures, filled_none _ _ c.blank_link-links.ensures)

pub bounds-t-i : goal.bounds-t-i
bounds-t-i c = omega (arith, few c.args.t c.args.holds c.requires c.args.line)

pub hold_of-requires : goal.hold_of-requires
hold_of-requires c = (fits c.args.t c.args.holds c.requires c.args.line c.loop-i.i (omega arith) _ refl).priority_most

pub next_link-link-requires : goal.next_link-link-requires
next_link-link-requires c =
    let f = fits c.args.t c.args.holds c.requires c.args.line c.loop-i.i (omega arith) _ refl in
    (hold_small c.args.t c.args.holds c.requires c.args.line _ _ (omega (arith, f.priority_most)) c.hold_of.ensures, f.jitter_most)

pub bounds-t-i-in-loop-i : goal.bounds-t-i-in-loop-i
bounds-t-i-in-loop-i c = omega (arith, few c.args.t c.args.holds c.requires c.args.line)

pub bounds-numbers-i : goal.bounds-numbers-i
bounds-numbers-i c = omega (arith, few c.args.t c.args.holds c.requires c.args.line)

pub bounds-links-i : goal.bounds-links-i
bounds-links-i c = omega (arith, few c.args.t c.args.holds c.requires c.args.line)

pub loop-i-preserved : goal.loop-i-preserved
loop-i-preserved c =
    let k = few c.args.t c.args.holds c.requires c.args.line in (
      omega arith,
      filled_more c.loop-i.invariant.1 (omega (arith, rows_count c.args.t c.args.holds c.requires c.args.line)) (omega arith) _ (row_number c.args.t c.args.holds c.requires c.args.line c.loop-i.i (omega arith) _ refl) _ (row_made c.args.t c.args.holds c.requires c.args.line c.loop-i.i (omega arith) _ refl _ _ c.hold_of.ensures c.next_link-link.ensures),
    )

pub returns-then-late : goal.returns-then-late
returns-then-late c = too_late c.args.t c.args.holds c.requires c.args.line c.args.lines c.loop-i.numbers c.loop-i.links c.loop-i.late c.loop-i.i c.loop-i.invariant.1 (omega arith) c.if-late.true _ refl

pub returns-in_err-check_lines : goal.returns-in_err-check_lines
returns-in_err-check_lines c =
    rw (passed_on _ _ c.from_residual.ensures.1)
    (oversold c.args.t c.args.holds c.requires c.args.line c.args.lines c.loop-i.numbers c.loop-i.links c.loop-i.late c.loop-i.i c.loop-i.invariant.1 (omega arith) c.if-late.false _ c.in_err-check_lines.ensures (number_not_0 _) _ refl)

pub returns : goal.returns
returns c = all_filled c.args.t c.args.holds c.requires c.args.line c.args.lines c.loop-i.numbers c.loop-i.links c.loop-i.late c.loop-i.i c.loop-i.invariant.1 (omega arith) c.if-late.false _ c.in_ok-check_lines.ensures refl
