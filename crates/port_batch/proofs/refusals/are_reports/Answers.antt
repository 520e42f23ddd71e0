use mathlib.Core.Path.{refl}
use native.Mathlib.Omega.{arith}
use Rattle.port_batch.proofs.Refusing.{no_multiple, is_unknown, is_known, all_known}
use Rattle.port_batch.proofs.refusals.are_reports.Goals as goal

pub returns-then-reports-ne0 : goal.returns-then-reports-ne0
returns-then-reports-ne0 c = no_multiple c.args.reports.now c.if-reports-ne0.true

pub loop-i-init : goal.loop-i-init
loop-i-init c = refl

pub returns-then-reports-i-gt1 : goal.returns-then-reports-i-gt1
returns-then-reports-i-gt1 c = is_unknown c.args.reports.now c.loop-i.i c.loop-i.invariant (omega arith) (omega arith)

pub loop-i-preserved : goal.loop-i-preserved
loop-i-preserved c = is_known c.args.reports.now c.loop-i.i c.loop-i.invariant (omega arith) (omega arith)

pub returns : goal.returns
returns c = all_known c.args.reports.now c.loop-i.i c.loop-i.invariant (omega arith)
