use native.Mathlib.Omega.{arith}
use Rattle.report_bytes.proofs.Refusing.{odd_bytes, looks, unknown, looks_on, all_known}
use Rattle.report_bytes.proofs.are_reports.Goals as goal

pub returns-then-reports-ne0 : goal.returns-then-reports-ne0
returns-then-reports-ne0 c = odd_bytes c.args.reports.now (λ z. c.if-reports-ne0.true (omega (arith, z)))

pub loop-i-init : goal.loop-i-init
loop-i-init c = looks c.args.reports.now c.if-reports-ne0.false

pub returns-then-read_within-gt1 : goal.returns-then-read_within-gt1
returns-then-read_within-gt1 c = unknown c.loop-i.invariant (omega (arith, c.loop-i-test.true)) c.read_within.ensures c.if-read_within-gt1.true

pub loop-i-preserved : goal.loop-i-preserved
loop-i-preserved c = looks_on c.loop-i.invariant (omega (arith, c.loop-i-test.true)) c.read_within.ensures (omega (arith, c.if-read_within-gt1.false))

pub returns : goal.returns
returns c = all_known c.loop-i.invariant (omega (arith, c.loop-i-test.false))
