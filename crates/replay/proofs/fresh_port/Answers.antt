use Rattle.replay.proofs.Fresh.{not_refused}
use Rattle.replay.proofs.fresh_port.Goals as goal

pub unreachable-requires : goal.unreachable-requires
unreachable-requires c = not_refused _ _ c.requires c.in-Err.ensures
