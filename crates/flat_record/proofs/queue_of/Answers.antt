use mathlib.Core.Path.{◌≡◌, refl}
use native.Mathlib.Omega.{arith}
use lib.ListN.{get_or, length-set, length-replicate}
use Rattle.port_scheduler.specs.View.{blank_entry}
use Rattle.flat_record.proofs.Reading.{narrow_there, one_taken, ring_read}
use Rattle.flat_record.proofs.queue_of.Goals as goal

pub loop-i-init : goal.loop-i-init
loop-i-init c = (refl, refl, length-replicate 256 blank_entry, λ j h. absurd (omega arith))

pub frame_of-requires : goal.frame_of-requires
frame_of-requires c = rw c.slot.ensures (omega arith, narrow_there c.requires c.loop-i.i (omega arith))

pub loop-i-preserved : goal.loop-i-preserved
loop-i-preserved c =
    let there = rw c.slot.ensures at c.frame_of.ensures in
    (c.loop-i.invariant.0, c.loop-i.invariant.1, rw length-set c.loop-i.invariant.2, one_taken c.loop-i.q.frames c.args.rings.now c.args.p (omega arith) there c.loop-i.invariant.3)

pub returns : goal.returns
returns c = ring_read c.loop-i.q c.args.rings.now c.args.p (omega arith) (omega arith) c.loop-i.invariant.0 c.loop-i.invariant.1 (let e : c.loop-i.i ≡ get_or c.args.rings.now.counts c.args.p 0 = omega arith in rw e at c.loop-i.invariant.3)
