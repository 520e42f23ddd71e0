use mathlib.Core.Path.{◌≡◌}
use mathlib.Core.Bool.{true}
use Prim.Native.Nat.{◌*◌, ◌≤◌}
use lib.ListN.{take}
use Rattle.model.specs.Basics.{all_to}
use Rattle.model.specs.Machine.{frames_held}
use Rattle.port_scheduler.specs.View.{view_queues}
use Rattle.port_queue_fitness.specs.Queues.{queue_fits}
use Rattle.port_queue_fitness.proofs.queues_fit.Given as goal

abbrev pub invariant-loop-i : goal.invariant-loop-i
invariant-loop-i l = (all_to (queue_fits l.t l.clock l.queues) l.i ≡ true) × (l.frames ≤ 65535 * l.i) × (l.frames ≡ frames_held (take l.i (view_queues l.queues)))
