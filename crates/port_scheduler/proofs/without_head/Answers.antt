use native.Mathlib.Omega.{arith}
use Rattle.port_scheduler.proofs.Shape.{queue_whole}
use Rattle.port_scheduler.proofs.Shift.{head_gone}
use Rattle.port_scheduler.proofs.without_head.Goals as goal

pub returns : goal.returns
returns c =
    let w = queue_whole c.args.q _ c.well_formed.0 in
    head_gone c.args.q c.from-n.ensures c.copy_within.ensures.after c.copy_within.ensures.len c.requires.0 (omega arith)
