use native.Mathlib.Omega.{arith}
use Rattle.refusal.proofs.Numbers.{passed_on}
use Rattle.tandem.proofs.Lines.{line_below}
use Rattle.tandem.proofs.Answering.{line_refused, bounds_refused, is_ready, rows_answer}
use Rattle.tandem.proofs.next_table.Goals as goal

pub returns-in_err-check_line : goal.returns-in_err-check_line
returns-in_err-check_line c = rw (passed_on _ _ c.from_residual.ensures.1) (line_refused c.args.t c.args.line c.args.lines _ c.in_err-check_line.ensures)

pub returns-in_err-sized : goal.returns-in_err-sized
returns-in_err-sized c =
    rw (passed_on _ _ c.from_residual-in_err-sized.ensures.1) (bounds_refused c.args.t c.args.line c.args.lines c.in_ok-check_line.ensures _ c.in_err-sized.ensures)

pub overflow_cast-line : goal.overflow_cast-line
overflow_cast-line c =
    let m = line_below c.args.line c.args.lines c.in_ok-check_line.ensures in
    omega (arith, m.0, m.1)

pub overflow_cast-lines : goal.overflow_cast-lines
overflow_cast-lines c =
    let m = line_below c.args.line c.args.lines c.in_ok-check_line.ensures in
    omega (arith, m.0, m.1)

pub next_rows-requires : goal.next_rows-requires
next_rows-requires c = is_ready c.args.t c.in_ok-sized.sized c.in_ok-sized.ensures

pub returns : goal.returns
returns c = rows_answer c.args.t c.args.line c.args.lines c.in_ok-check_line.ensures c.in_ok-sized.sized c.in_ok-sized.ensures _ c.next_rows.ensures
