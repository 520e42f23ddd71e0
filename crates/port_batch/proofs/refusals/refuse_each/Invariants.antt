use mathlib.Core.Path.{◌≡◌}
use lib.ListN.{length}
use Rattle.model.specs.Batch.{over}
use Rattle.port_batch.specs.Promised.{unfit}
use Rattle.port_batch.proofs.refusals.refuse_each.Given as goal

abbrev pub invariant-loop-i : goal.invariant-loop-i
invariant-loop-i l = (length l.answers ≡ length l.initial.answers) × (l.answers ≡ over (unfit l.i) l.initial.answers)
