-- The frame stands at the count, and the count is one more.
use native.Mathlib.Omega.{arith}
use Rattle.port_scheduler.proofs.Shape.{queue_whole}
use Rattle.port_scheduler.proofs.Shown.{pushed_shown}
use Rattle.port_storing.proofs.pushed.Goals as goal

pub returns : goal.returns
returns c = let w = queue_whole c.args.q _ c.well_formed.0 in rw c.from-n.ensures (pushed_shown c.args.q c.args.f (omega arith))
