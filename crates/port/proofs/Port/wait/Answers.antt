use Rattle.port.proofs.Whole.{whole}
use Rattle.port.proofs.Port.wait.Goals as goal

pub wait-outcome-requires : goal.wait-outcome-requires
wait-outcome-requires c = whole c.args.self _ c.well_formed.0
