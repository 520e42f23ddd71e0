use mathlib.Core.Path.{◌≡◌, refl, ◌∙◌}
use native.Mathlib.Omega.{arith}
use Rattle.port_scheduler.proofs.Shape.{queues_eight}
use Rattle.flat_record.proofs.Filled.{no_ring, ring_more, eight_rings}
use Rattle.flat_record.proofs.put_queues.Goals as goal

pub loop-p-init : goal.loop-p-init
loop-p-init c = (no_ring c.args.queues c.args.rings.now (omega arith) (omega arith) (omega arith), refl)

pub put_queue-requires : goal.put_queue-requires
put_queue-requires c = record { eight = omega arith; few = c.requires c.loop-p.p (omega arith) }

pub held-requires : goal.held-requires
held-requires c = c.requires c.loop-p.p (omega arith)

pub loop-p-preserved : goal.loop-p-preserved
loop-p-preserved c = (ring_more c.args.queues (omega arith) c.loop-p.invariant.0 c.put_queue.ensures.put c.held.ensures c.from.ensures, c.put_queue.ensures.heads ∙ c.loop-p.invariant.1)

pub returns : goal.returns
returns c = (eight_rings (queues_eight c.args.queues _ c.well_formed.0) (let e : c.loop-p.p ≡ 8 = omega arith in rw e at c.loop-p.invariant.0), c.loop-p.invariant.1)
