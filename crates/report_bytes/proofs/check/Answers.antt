use native.Mathlib.Omega.{arith}
use Rattle.report_bytes.proofs.Refusing.{forms_refused, room_refused, not_refused}
use Rattle.report_bytes.proofs.check.Goals as goal

pub returns-then-not-are_reports : goal.returns-then-not-are_reports
returns-then-not-are_reports c = forms_refused c.args.reports.now c.args.room c.are_reports.ensures c.if-not-are_reports.true

pub returns-then-room-reports : goal.returns-then-room-reports
returns-then-room-reports c = room_refused c.args.reports.now c.args.room c.are_reports.ensures c.if-not-are_reports.false (omega arith)

pub returns : goal.returns
returns c = not_refused c.args.reports.now c.args.room c.are_reports.ensures c.if-not-are_reports.false (omega arith)
