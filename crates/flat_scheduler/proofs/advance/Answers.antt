use mathlib.Core.Path.{◌≡◌, refl, ap, ◌∙◌}
use native.Mathlib.Omega.{arith}
use lib.ListN.{length}
use Rattle.port_scheduler.specs.View.{view_sender}
use Rattle.port_scheduler.proofs.Progress.{at_start, few_gone, is_sending, fewer, has_room, over_idle, over_sending, whole_is, one_more}
use Rattle.port_scheduler.proofs.Moving.{sends_from}
use Rattle.flat_queues.specs.View.{queues_in}
use Rattle.flat_queues.proofs.Rounds.{length_rings}
use Rattle.flat_scheduler.proofs.Rings.{ring_count, head_number, head_length, holds_less, ended}
use Rattle.flat_scheduler.proofs.advance.Goals as goal

pub loop-sender-init : goal.loop-sender-init
loop-sender-init c =
    let r = c.requires.0 in
    let eight : length (queues_in c.args.rings.now) ≡ 8 = rw length_rings (omega arith) in
    (at_start eight r.few r.positive r.sender r.later r.room, c.requires.1, refl, refl)

pub sender_from-sender-requires : goal.sender_from-sender-requires
sender_from-sender-requires c = c.loop-sender.invariant.0.later

pub offset_bounds-rings-i : goal.offset_bounds-rings-i
offset_bounds-rings-i c =
    let goes = c.sender_from-sender.ensures c.loop-sender.invariant.0.positive c.loop-sender.invariant.0.sends in
    let o = (is_sending goes (sends_from c.in-Some.is c.from-i.ensures)) in omega arith

pub bounds-rings-i : goal.bounds-rings-i
bounds-rings-i c =
    let goes = c.sender_from-sender.ensures c.loop-sender.invariant.0.positive c.loop-sender.invariant.0.sends in
    let o = (is_sending goes (sends_from c.in-Some.is c.from-i.ensures)) in omega arith

pub slot-from-requires : goal.slot-from-requires
slot-from-requires c =
    let goes = c.sender_from-sender.ensures c.loop-sender.invariant.0.positive c.loop-sender.invariant.0.sends in
    let o = (is_sending goes (sends_from c.in-Some.is c.from-i.ensures)) in omega arith

pub overflow_add-wire : goal.overflow_add-wire
overflow_add-wire c =
    let goes = c.sender_from-sender.ensures c.loop-sender.invariant.0.positive c.loop-sender.invariant.0.sends in
    let o = (is_sending goes (sends_from c.in-Some.is c.from-i.ensures)) in omega (arith, c.slot-from.ensures)

pub offset_bounds-rings-from : goal.offset_bounds-rings-from
offset_bounds-rings-from c =
    let goes = c.sender_from-sender.ensures c.loop-sender.invariant.0.positive c.loop-sender.invariant.0.sends in
    let o = (is_sending goes (sends_from c.in-Some.is c.from-i.ensures)) in omega (arith, c.slot-from.ensures)

pub bounds-rings-from : goal.bounds-rings-from
bounds-rings-from c =
    let goes = c.sender_from-sender.ensures c.loop-sender.invariant.0.positive c.loop-sender.invariant.0.sends in
    let o = (is_sending goes (sends_from c.in-Some.is c.from-i.ensures)) in omega (arith, c.slot-from.ensures)

pub overflow_sub-time : goal.overflow_sub-time
overflow_sub-time c =
    let goes = c.sender_from-sender.ensures c.loop-sender.invariant.0.positive c.loop-sender.invariant.0.sends in
    let o = (is_sending goes (sends_from c.in-Some.is c.from-i.ensures)) in omega (arith, c.loop-sender.invariant.0.later)

pub overflow_add-end : goal.overflow_add-end
overflow_add-end c =
    let goes = c.sender_from-sender.ensures c.loop-sender.invariant.0.positive c.loop-sender.invariant.0.sends in
    let o = (is_sending goes (sends_from c.in-Some.is c.from-i.ensures)) in omega (arith, c.loop-sender.invariant.0.later, c.requires.0.early)

pub overflow_mul-k : goal.overflow_mul-k
overflow_mul-k c = omega (arith, few_gone c.loop-sender.invariant.0)

pub depart-requires : goal.depart-requires
depart-requires c =
    let goes = c.sender_from-sender.ensures c.loop-sender.invariant.0.positive c.loop-sender.invariant.0.sends in
    let on = is_sending goes (sends_from c.in-Some.is c.from-i.ensures) in
    let i = c.loop-sender.invariant in
    record {
      ring = on.in_range;
      slot = let o = on in omega (arith, c.slot-from.ensures);
      waits = (rw (ring_count c.loop-sender.rings.frames c.loop-sender.rings.heads c.loop-sender.rings.counts c.from-i.result) at on.waits);
      room = has_room i.0 goes (sends_from c.in-Some.is c.from-i.ensures);
    }

pub overflow_add-k : goal.overflow_add-k
overflow_add-k c = omega (arith, few_gone c.loop-sender.invariant.0)

pub loop-sender-smaller : goal.loop-sender-smaller
loop-sender-smaller c = fewer ((c.sender_from-sender.ensures c.loop-sender.invariant.0.positive c.loop-sender.invariant.0.sends)) (sends_from c.in-Some.is c.from-i.ensures) c.depart.ensures.queues_are

pub loop-sender-preserved : goal.loop-sender-preserved
loop-sender-preserved c =
    let goes = c.sender_from-sender.ensures c.loop-sender.invariant.0.positive c.loop-sender.invariant.0.sends in
    let on = is_sending goes (sends_from c.in-Some.is c.from-i.ensures) in
    let wire_is = head_length c.loop-sender.rings.frames c.loop-sender.rings.heads c.loop-sender.rings.counts c.from-i.result c.slot-from.ensures on.waits in
    let o = on in
    let i = c.loop-sender.invariant in
    let d = c.depart.ensures in
    let gone = d.queues_are in
    let left = c.if-time-sending.false in (
      one_more i.0 goes (sends_from c.in-Some.is c.from-i.ensures) (wire_is) ((head_number c.loop-sender.rings.frames c.loop-sender.rings.heads c.loop-sender.rings.counts c.from-i.result c.slot-from.ensures on.waits)) (omega (arith, o.began, i.0.later)) gone d.list_is c.depart.auto.list,
      rw (gone, d.held_is) (holds_less i.1 c.from-i.result _ o.in_range o.waits (wire_is)),
      d.marks_stay ∙ i.2,
      d.frames_stay ∙ i.3,
    )

pub shape_of-list-in_default : goal.shape_of-list-in_default
shape_of-list-in_default c = c.loop-sender.invariant.0.same

pub returns-in_default : goal.returns-in_default
returns-in_default c =
    let g = c.sender_from-sender.ensures c.loop-sender.invariant.0.positive c.loop-sender.invariant.0.sends in
    (ended c.loop-sender.invariant.0 (whole_is c.loop-sender.invariant.0 g (over_idle c.loop-sender.invariant.0 g (ap view_sender c.in_default.is))), c.loop-sender.invariant.1, c.loop-sender.invariant.2, record { queues = rw length_rings (omega arith); marks = omega arith }, c.loop-sender.invariant.3)

pub shape_of-list-then-time-sending : goal.shape_of-list-then-time-sending
shape_of-list-then-time-sending c = c.loop-sender.invariant.0.same

pub returns-then-time-sending : goal.returns-then-time-sending
returns-then-time-sending c =
    let goes = c.sender_from-sender.ensures c.loop-sender.invariant.0.positive c.loop-sender.invariant.0.sends in
    let on = is_sending goes (sends_from c.in-Some.is c.from-i.ensures) in
    let o = on in
    let i = c.loop-sender.invariant in
    let e = sends_from c.in-Some.is c.from-i.ensures in
    let under = over_sending i.0 goes e ((head_length c.loop-sender.rings.frames c.loop-sender.rings.heads c.loop-sender.rings.counts c.from-i.result c.slot-from.ensures on.waits)) (omega (arith, c.if-time-sending.true, o.began, i.0.later)) in
    (rw c.in-Some.is at (ended i.0 (whole_is i.0 goes under)), i.1, i.2, record { queues = rw length_rings (omega arith); marks = omega arith }, i.3)
