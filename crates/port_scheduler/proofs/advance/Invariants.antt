-- The loop of the advance: what has left so far, and the tick machine's advance from here. The measure is the frames held.
-- who sends
-- the frame that the code reads is the head of its queue
use Rattle.model.specs.Machine.{frames_held}
use Rattle.port_scheduler.specs.View.{view_queues, view_marks}
use Rattle.port_scheduler.specs.Promised.{advance_from}
use Rattle.port_scheduler.proofs.Moving.{Moving}
use Rattle.port_scheduler.proofs.advance.Given as goal

abbrev pub invariant-loop-sender : goal.invariant-loop-sender
invariant-loop-sender l = Moving l.time (advance_from l.time l.clock l.initial.queues l.initial.sender) (view_marks l.initial.queues) (frames_held (view_queues l.initial.queues)) l.initial.list l.queues l.sender l.tick l.frames l.bytes l.list

abbrev pub decreases-loop-sender : goal.decreases-loop-sender
decreases-loop-sender l = frames_held (view_queues l.queues)
