-- Ring p has the first i frames of the queue; the heads stay.
use Rattle.flat_record.proofs.Filled.{FillingInPlace}
use Rattle.flat_record.proofs.put_queue.Given as goal

abbrev pub invariant-loop-i : goal.invariant-loop-i
invariant-loop-i l = FillingInPlace l.q l.p l.fn.rings l.rings l.i
