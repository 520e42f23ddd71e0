use Rattle.refusal.proofs.Numbers.{passed_on}
use Rattle.port_refusals.specs.Reports.{view_report}
use Rattle.port.proofs.Moved.{begun_refused, wait_accepted, begun_reached}
use Rattle.port.proofs.advancing.advance.Goals as goal

pub returns-in_err-check : goal.returns-in_err-check
returns-in_err-check c = let a = c.args in rw (passed_on _ _ c.from_residual.ensures.1) (begun_refused a.p.now (view_report a.r) _ c.in_err-check.ensures)

pub move_to-requires : goal.move_to-requires
move_to-requires c = let a = c.args in wait_accepted a.p.now (view_report a.r) a.list.now c.in_ok-check.ensures c.tick_of.ensures

pub returns : goal.returns
returns c = let a = c.args in begun_reached a.p.now (view_report a.r) a.list.now c.in_ok-check.ensures c.tick_of.ensures c.move_to.ensures
