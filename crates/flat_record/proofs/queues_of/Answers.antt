use mathlib.Core.Path.{◌≡◌, refl}
use native.Mathlib.Omega.{arith}
use lib.ListN.{length-set}
use Rattle.flat_record.proofs.Reading.{ring_fits, one_kept, all_kept}
use Rattle.flat_record.proofs.queues_of.Goals as goal

pub loop-p-init : goal.loop-p-init
loop-p-init c = (refl, λ p h. absurd (omega arith))

pub queue_of-requires : goal.queue_of-requires
queue_of-requires c = ring_fits c.requires c.loop-p.p (omega arith)

pub loop-p-preserved : goal.loop-p-preserved
loop-p-preserved c = (rw length-set c.loop-p.invariant.0, one_kept c.loop-p.queues (omega arith) c.queue_of.ensures c.loop-p.invariant.1)

pub returns : goal.returns
returns c = all_kept c.loop-p.queues c.loop-p.invariant.0 (let e : c.loop-p.p ≡ 8 = omega arith in rw e at c.loop-p.invariant.1)
