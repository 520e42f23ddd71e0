use Rattle.report_bytes.proofs.Refusing.{Looking}
use Rattle.report_bytes.proofs.are_reports.Given as goal

abbrev pub invariant-loop-i : goal.invariant-loop-i
invariant-loop-i l = Looking l.reports l.i
