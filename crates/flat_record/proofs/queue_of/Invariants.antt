-- The first i entries are the frames of the ring.
use mathlib.Core.Path.{◌≡◌}
use lib.ListN.{length, get_or}
use Rattle.model.specs.Units.{most_frames}
use Rattle.flat_record.proofs.Reading.{Taken}
use Rattle.flat_record.proofs.queue_of.Given as goal

abbrev pub invariant-loop-i : goal.invariant-loop-i
invariant-loop-i l = (l.q.count ≡ get_or l.rings.counts l.p 0) × (l.q.mark ≡ get_or l.rings.marks l.p 0) × (length l.q.frames ≡ most_frames) × Taken l.q.frames l.rings l.p l.i
