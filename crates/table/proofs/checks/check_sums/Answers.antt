use mathlib.Core.Path.{◌≡◌}
use native.Mathlib.Omega.{arith}
use lib.ListN.{length}
use Rattle.table.proofs.Reservations.{carry_none, carry_more, line_over, lines_end}
use Rattle.table.proofs.checks.check_sums.Goals as goal

pub loop-line-init : goal.loop-line-init
loop-line-init c = carry_none c.args.sums

pub offset_bounds-sums-line : goal.offset_bounds-sums-line
offset_bounds-sums-line c = omega arith

pub bounds-sums-line : goal.bounds-sums-line
bounds-sums-line c = omega arith

pub returns-then-sums-line-gt-LINE_CAPACITY : goal.returns-then-sums-line-gt-LINE_CAPACITY
returns-then-sums-line-gt-LINE_CAPACITY c = λ links are. line_over c.args.lines links c.args.sums are c.loop-line.line (omega arith) (omega arith)

pub loop-line-preserved : goal.loop-line-preserved
loop-line-preserved c = carry_more c.args.sums c.loop-line.line c.loop-line.invariant (omega arith)

pub returns : goal.returns
returns c =
    let many : length c.args.sums ≡ 256 = c.well_formed.0.1.0.1 in
    λ links are. lines_end c.args.lines links c.args.sums are c.loop-line.line many (omega arith) c.loop-line.invariant
