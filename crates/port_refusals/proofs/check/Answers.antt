use native.Mathlib.Omega.{arith}
use Rattle.port_refusals.specs.Reports.{view_report}
use Rattle.port_refusals.proofs.Refused.{too_late, too_early, timely}
use Rattle.port_refusals.proofs.check.Goals as goal

pub returns-then-time-gt-LAST_TICK : goal.returns-then-time-gt-LAST_TICK
returns-then-time-gt-LAST_TICK c = let a = c.args in too_late a.clock a.lines a.ticks.now (view_report a.report) (omega arith)

pub returns-then-time-clock : goal.returns-then-time-clock
returns-then-time-clock c = let a = c.args in too_early a.clock a.lines a.ticks.now (view_report a.report) (omega arith) (omega arith)

pub returns : goal.returns
returns c = let a = c.args in timely a.clock a.lines a.ticks.now (view_report a.report) (omega arith) (omega arith) c.check_frame.ensures
