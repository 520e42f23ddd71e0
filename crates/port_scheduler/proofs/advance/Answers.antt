use mathlib.Core.Path.{sym, ap, ◌∙◌}
use native.Mathlib.Omega.{arith}
use Rattle.model.specs.Machine.{Frame}
use Rattle.port_scheduler.proofs.Shape.{queues_eight}
use Rattle.port_scheduler.proofs.Shown.{queue_count, head_shown, gone_shown}
use Rattle.port_scheduler.proofs.Progress.{few_gone, is_sending, has_room, fewer}
use Rattle.port_scheduler.proofs.Moving.{starts_moving, sends_from, ends_idle, ends_sending, one_moved}
use Rattle.port_scheduler.proofs.advance.Goals as goal

pub loop-sender-init : goal.loop-sender-init
loop-sender-init c = starts_moving (queues_eight c.args.queues _ c.well_formed.0) c.requires

pub sender_from-sender-requires : goal.sender_from-sender-requires
sender_from-sender-requires c = let f = c.loop-sender.invariant.progress in (f.positive, f.sends, f.later)

pub offset_bounds-queues-i : goal.offset_bounds-queues-i
offset_bounds-queues-i c = let o = (is_sending c.sender_from-sender.ensures (sends_from c.in-Some.is c.from-i.ensures)) in omega arith

pub bounds-queues-i : goal.bounds-queues-i
bounds-queues-i c = ((is_sending c.sender_from-sender.ensures (sends_from c.in-Some.is c.from-i.ensures))).in_range

pub overflow_add-end : goal.overflow_add-end
overflow_add-end c = let o = (is_sending c.sender_from-sender.ensures (sends_from c.in-Some.is c.from-i.ensures)) in omega (arith, c.loop-sender.invariant.progress.later, c.loop-sender.invariant.early)

pub overflow_mul-frames : goal.overflow_mul-frames
overflow_mul-frames c = omega (arith, few_gone c.loop-sender.invariant.progress)

pub put-requires : goal.put-requires
put-requires c = has_room c.loop-sender.invariant.progress c.sender_from-sender.ensures (sends_from c.in-Some.is c.from-i.ensures)

pub without_head-rest-requires : goal.without_head-rest-requires
without_head-rest-requires c =
    let n = queue_count c.loop-sender.queues c.from-i.result in
    (omega (arith, ((is_sending c.sender_from-sender.ensures (sends_from c.in-Some.is c.from-i.ensures))).waits), omega (arith, c.loop-sender.invariant.progress.few c.from-i.result))

pub offset_bounds-queues-i-in-loop-sender : goal.offset_bounds-queues-i-in-loop-sender
offset_bounds-queues-i-in-loop-sender c = let o = (is_sending c.sender_from-sender.ensures (sends_from c.in-Some.is c.from-i.ensures)) in omega arith

pub bounds-queues-i-in-loop-sender : goal.bounds-queues-i-in-loop-sender
bounds-queues-i-in-loop-sender c = ((is_sending c.sender_from-sender.ensures (sends_from c.in-Some.is c.from-i.ensures))).in_range

pub overflow_add-frames : goal.overflow_add-frames
overflow_add-frames c = omega (arith, few_gone c.loop-sender.invariant.progress)

pub overflow_add-bytes : goal.overflow_add-bytes
overflow_add-bytes c = omega (arith, few_gone c.loop-sender.invariant.progress, c.loop-sender.invariant.small, c.occupancy-kept.ensures.1)

pub loop-sender-smaller : goal.loop-sender-smaller
loop-sender-smaller c = fewer c.sender_from-sender.ensures (sends_from c.in-Some.is c.from-i.ensures) (gone_shown _ _ c.without_head-rest.ensures)

pub loop-sender-preserved : goal.loop-sender-preserved
loop-sender-preserved c =
    let h = (head_shown c.loop-sender.queues c.from-i.result ((is_sending c.sender_from-sender.ensures (sends_from c.in-Some.is c.from-i.ensures))).waits) in
    let le = c.wire_of-wire.ensures.0 in
    one_moved c.loop-sender.invariant c.sender_from-sender.ensures c.in-Some.is c.from-i.ensures (le ∙ sym (ap (λ (f : Frame). f.length) h))
    (c.from.ensures ∙ sym (ap (λ (f : Frame). f.number) h)) c.occupancy-kept.ensures.0 (omega (arith, c.occupancy-kept.ensures.1, c.wire_of-wire.ensures.1))
    c.if-time-end.false c.without_head-rest.ensures c.put.ensures c.put.auto.list

pub shape_of-list-in_default : goal.shape_of-list-in_default
shape_of-list-in_default c = c.loop-sender.invariant.progress.same

pub returns-in_default : goal.returns-in_default
returns-in_default c = ends_idle c.loop-sender.invariant c.sender_from-sender.ensures c.in_default.is

pub shape_of-list-then-time-end : goal.shape_of-list-then-time-end
shape_of-list-then-time-end c = c.loop-sender.invariant.progress.same

pub returns-then-time-end : goal.returns-then-time-end
returns-then-time-end c =
    ends_sending c.loop-sender.invariant c.sender_from-sender.ensures c.in-Some.is c.from-i.ensures
    (c.wire_of-wire.ensures.0 ∙ sym (ap (λ (f : Frame). f.length) ((head_shown c.loop-sender.queues c.from-i.result ((is_sending c.sender_from-sender.ensures (sends_from c.in-Some.is c.from-i.ensures))).waits)))) c.if-time-end.true
