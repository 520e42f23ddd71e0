use native.Mathlib.Omega.{arith}
use Rattle.port_scheduler.proofs.Shape.{queue_whole}
use Rattle.flat_queues.proofs.Rounds.{length_rings}
use Rattle.flat_record.proofs.Filled.{none_filled_in_place, room_left, one_filled_in_place, all_filled_in_place}
use Rattle.flat_record.proofs.put_queue.Goals as goal

pub loop-i-init : goal.loop-i-init
loop-i-init c = none_filled_in_place c.args.q c.args.p c.args.rings.now (omega arith)

pub push-requires : goal.push-requires
push-requires c = room_left (rw length_rings (omega arith)) c.loop-i.invariant.filling c.requires.eight (queue_whole c.args.q _ c.well_formed.0) (omega arith)

pub loop-i-preserved : goal.loop-i-preserved
loop-i-preserved c =
    let w = queue_whole c.args.q _ c.well_formed.0 in
    one_filled_in_place (rw length_rings (omega arith)) c.loop-i.invariant (omega arith) c.from.ensures c.from-in-loop-i.ensures c.push.ensures.0 c.push.ensures.1 c.push.ensures.2

pub returns : goal.returns
returns c =
    let w = queue_whole c.args.q _ c.well_formed.0 in
    all_filled_in_place (rw length_rings (omega arith)) c.loop-i.invariant (omega arith) (omega arith)
