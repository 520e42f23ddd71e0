use Rattle.port.proofs.Whole.{whole}
use Rattle.port.proofs.Port.frame.Goals as goal

pub frame-outcome-requires : goal.frame-outcome-requires
frame-outcome-requires c = whole c.args.self _ c.well_formed.0
