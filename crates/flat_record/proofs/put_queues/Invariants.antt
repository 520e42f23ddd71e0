-- The first p rings are the queues; the heads stay.
use mathlib.Core.Path.{◌≡◌}
use Rattle.flat_record.proofs.Filled.{Filled}
use Rattle.flat_record.proofs.put_queues.Given as goal

abbrev pub invariant-loop-p : goal.invariant-loop-p
invariant-loop-p l = Filled l.queues l.rings l.p × (l.rings.heads ≡ l.initial.rings.heads)
