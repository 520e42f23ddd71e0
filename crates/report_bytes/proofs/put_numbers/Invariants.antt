use Rattle.report_bytes.proofs.NumberBytes.{Laying}
use Rattle.report_bytes.proofs.put_numbers.Given as goal

abbrev pub invariant-loop-i : goal.invariant-loop-i
invariant-loop-i l = Laying l.numbers l.initial.out l.at l.out l.i
