-- One sends; or nobody starts, since time is up; or whoever waits starts.
use mathlib.Core.Path.{refl, ap}
use native.Mathlib.Omega.{arith}
use Rattle.port_scheduler.specs.View.{view_sender}
use Rattle.port_scheduler.proofs.Starts.{stays, time_over, starts_if}
use Rattle.flat_queues.specs.View.{queues_in}
use Rattle.flat_scheduler.proofs.sender_from.Goals as goal

pub returns-in-Some : goal.returns-in-Some
returns-in-Some c =
    let e = ap view_sender c.in-Some.is in
    λ k x. rw e (stays (queues_in c.args.rings.now) c.args.tick c.args.time c.in-Some.field-0.priority c.in-Some.field-0.start refl (rw e at x))

pub returns-then-time-tick : goal.returns-then-time-tick
returns-then-time-tick c = λ k x. time_over (queues_in c.args.rings.now) c.args.tick c.args.time (ap view_sender c.in_default.is) (omega arith) (omega arith)

pub returns : goal.returns
returns c =
    λ k x. starts_if (queues_in c.args.rings.now) c.args.tick c.args.time c.args.sender (rw c.in_default.is) c.start_if_any.ensures.0
    c.start_if_any.ensures.1.queues k (omega arith)
