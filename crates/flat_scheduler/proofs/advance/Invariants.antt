-- The loop of the advance on rings: what has left so far, and the tick machine's advance from here. The measure is the frames held.
use mathlib.Core.Path.{◌≡◌}
use Rattle.model.specs.Machine.{at, advance as advanceOf, frames_held}
use Rattle.port_scheduler.specs.View.{view_sender}
use Rattle.port_scheduler.proofs.Progress.{Progress}
use Rattle.flat_queues.specs.View.{queues_in}
use Rattle.flat_scheduler.specs.Promised.{Holds}
use Rattle.flat_scheduler.proofs.advance.Given as goal

abbrev pub invariant-loop-sender : goal.invariant-loop-sender
invariant-loop-sender l =
    Progress l.time (advanceOf l.time (at l.clock (queues_in l.initial.rings) (view_sender l.initial.sender))) (frames_held (queues_in l.initial.rings)) l.initial.list (queues_in l.rings) (view_sender l.sender) l.tick l.k l.list
    × Holds l.rings.held (queues_in l.rings)
    × (l.rings.marks ≡ l.initial.rings.marks)
    × (l.rings.frames ≡ l.initial.rings.frames)

abbrev pub decreases-loop-sender : goal.decreases-loop-sender
decreases-loop-sender l = frames_held (queues_in l.rings)
