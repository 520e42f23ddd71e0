use mathlib.Core.Path.{refl}
use Rattle.std.specs.Prelude.{Ok, Err}
use Rattle.refusal.proofs.Numbers.{number_not_0, passed_on}
use Rattle.table_file.specs.Answers.{reading_of}
use Rattle.tandem.specs.Answer.{next_of}
use Rattle.next_file.proofs.Answering.{line_refused, file_refused, rows_refused, writes}
use Rattle.next_file.proofs.next_file.Goals as goal

pub returns-in_err-check_line : goal.returns-in_err-check_line
returns-in_err-check_line c =
    let a = c.args in
    rw (passed_on _ _ c.from_residual.ensures.1) (line_refused a.file.now a.line a.lines a.sizes a.out.now _ c.in_err-check_line.ensures (number_not_0 _) _ refl)

pub returns-in_err-t : goal.returns-in_err-t
returns-in_err-t c =
    let a = c.args in
    rw (passed_on _ _ c.from_residual-in_err-t.ensures.1)
    (file_refused a.file.now a.line a.lines a.sizes a.out.now 0 c.in_ok-check_line.ensures refl (reading_of (Err _)) c.in_err-t.ensures (number_not_0 _) _ refl)

pub returns-in_err-next : goal.returns-in_err-next
returns-in_err-next c =
    let a = c.args in
    rw (passed_on _ _ c.from_residual-in_err-next.ensures.1)
    (rows_refused a.file.now a.line a.lines a.sizes a.out.now 0 c.in_ok-check_line.ensures refl (reading_of (Ok c.in_ok-t.t)) c.in_ok-t.ensures refl (next_of (Err _)) c.in_err-next.ensures (number_not_0 _) _ refl)

pub returns : goal.returns
returns c =
    let a = c.args in
    writes a.file.now a.line a.lines a.sizes a.out.now 0 c.in_ok-check_line.ensures refl (reading_of (Ok c.in_ok-t.t)) c.in_ok-t.ensures refl (next_of (Ok c.in_ok-next.next)) c.in_ok-next.ensures refl _ c.capped.ensures _ _ c.write.ensures
