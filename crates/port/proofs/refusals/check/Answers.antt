use mathlib.Core.Path.{refl}
use Rattle.refusal.proofs.Numbers.{number_not_0, passed_on}
use Rattle.port_refusals.specs.Reports.{view_report}
use Rattle.port.specs.View.{view_port}
use Rattle.port.proofs.Refused.{is_unfit, clocked, refused, last}
use Rattle.port.proofs.refusals.check.Goals as goal

pub returns-in_default : goal.returns-in_default
returns-in_default c = let a = c.args in is_unfit a.p.now c.in_default.ensures (view_report a.report) a.room

pub check-requires : goal.check-requires
check-requires c = rw c.from-lines.ensures (clocked c.args.p.now c.in-Some.ensures c.requires)

pub returns-in_err-check : goal.returns-in_err-check
unfolding view_port
returns-in_err-check c =
    let a = c.args in
    rw (passed_on _ _ c.from_residual.ensures.1) (refused a.p.now c.in-Some.ensures (view_report a.report) a.room (rw c.from-lines.ensures at c.in_err-check.ensures) (number_not_0 _))

pub returns : goal.returns
unfolding view_port
returns c =
    let a = c.args in
    last a.p.now c.in-Some.ensures (view_report a.report) a.room (rw c.from-lines.ensures at c.in_ok-check.ensures) refl c.check_room.ensures
