use Rattle.report_bytes.proofs.NumberBytes.{Laying}
use Rattle.fenuschia_c.proofs.sizing.put_eight.Given as goal

abbrev pub invariant-loop-p : goal.invariant-loop-p
invariant-loop-p l = Laying l.numbers l.initial.out l.at l.out l.p
