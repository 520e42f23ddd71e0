use mathlib.Core.Path.{sym, ◌∙◌}
use native.Mathlib.Omega.{arith}
use Rattle.port_batch.proofs.Refusing.{no_reports, no_room, roomy}
use Rattle.port_batch.proofs.refusals.check.Goals as goal

pub returns-then-not-are_reports : goal.returns-then-not-are_reports
returns-then-not-are_reports c = no_reports c.args.reports.now c.args.room (sym c.are_reports.ensures ∙ c.if-not-are_reports.true)

pub returns-then-room-reports : goal.returns-then-room-reports
returns-then-room-reports c = no_room c.args.reports.now c.args.room (sym c.are_reports.ensures ∙ c.if-not-are_reports.false) (omega arith)

pub returns : goal.returns
returns c = roomy c.args.reports.now c.args.room (sym c.are_reports.ensures ∙ c.if-not-are_reports.false) (omega arith)
