-- Dropped, in two cases, or stored.
use mathlib.Core.Path.{ap}
use Prim.Native.Nat.{ℕ, ◌+◌, ◌≤◌}
use native.Mathlib.Omega.{arith}
use lib.ListN.{get_or}
use Rattle.model.specs.Units.{occupied}
use Rattle.model.specs.Report.{arrived}
use Rattle.flat_storing.proofs.Stores.{holds_more, drops, stores, nothing_in_place, one_frame_in_place}
use Rattle.flat_storing.proofs.settle.Goals as goal

pub returns-then-size-before : goal.returns-then-size-before
returns-then-size-before c =
    let a = c.args in
    let r = c.requires in
    (λ t s m. drops r.holds a.p a.size (arrived a.number a.length a.time) r.ring t s m (omega arith), r.holds, nothing_in_place a.rings.now)

pub returns-then-size-before-2 : goal.returns-then-size-before-2
returns-then-size-before-2 c =
    let a = c.args in
    let r = c.requires in
    (λ t s m. drops r.holds a.p a.size (arrived a.number a.length a.time) r.ring t s m (omega (arith, c.occupancy-more.ensures.0)), r.holds, nothing_in_place a.rings.now)

pub push-requires : goal.push-requires
push-requires c = record { ring = c.requires.ring; unfilled = c.requires.free (omega (arith, c.occupancy-more.ensures.0)) }

pub returns : goal.returns
returns c =
    let a = c.args in
    let r = c.requires in
    let f = arrived a.number a.length a.time in
    let kept = c.occupancy-more.ensures.0 in
    let fits : get_or a.rings.now.held a.p 0 + occupied a.length ≤ a.size = omega (arith, kept) in
    let sum = ap (λ (n : ℕ). get_or a.rings.now.held a.p 0 + n) kept in
    let push = c.push.ensures in
    let mark = c.max.ensures in
    rw (push.1.held, push.1.marks) (
      λ t s m. stores r.holds a.p a.size f r.ring t s m fits push.0 sum (rw push.1.marks at mark),
      holds_more r.holds a.p _ f r.ring sum push.0,
      one_frame_in_place a.p f (omega (arith, r.ring, r.holds.queues_eight)) push.0 push.2,
    )
