use mathlib.Core.Path.{refl, sym}
use lib.ListN.{length}
use Rattle.refusal.proofs.Numbers.{number_not_0, passed_on}
use Rattle.report_bytes.proofs.Refusing.{enough_room}
use Rattle.fenuschia_c.proofs.Reporting.{file_refused, lists_refused, passes, batch_given}
use Rattle.fenuschia_c.proofs.batch.batch.Goals as goal

pub returns-in_err-t : goal.returns-in_err-t
returns-in_err-t c = rw (passed_on _ _ c.from_residual.ensures.1) (file_refused _ _ _ _ _ c.in_err-t.ensures (number_not_0 _))

pub returns-in_err-check : goal.returns-in_err-check
returns-in_err-check c = rw (passed_on _ _ c.from_residual-in_err-check.ensures.1) (lists_refused _ _ _ _ _ c.in_ok-t.ensures refl c.in_err-check.ensures (number_not_0 _))

pub run-requires : goal.run-requires
run-requires c = (passes c.args.file.now c.args.reports.now c.args.answers.now c.args.departures.now _ c.in_ok-t.ensures refl c.in_ok-check.ensures, enough_room c.args.reports.now (length c.args.answers.now) (sym c.in_ok-check.ensures))

pub returns : goal.returns
returns c = batch_given _ _ _ _ _ c.in_ok-t.ensures refl c.in_ok-check.ensures refl c.run.ensures
