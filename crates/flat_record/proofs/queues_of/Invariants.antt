-- The first p queues are the rings.
use mathlib.Core.Path.{◌≡◌}
use lib.ListN.{length}
use Rattle.flat_record.proofs.Reading.{Kept}
use Rattle.flat_record.proofs.queues_of.Given as goal

abbrev pub invariant-loop-p : goal.invariant-loop-p
invariant-loop-p l = (length l.queues ≡ 8) × Kept l.queues l.rings l.p
