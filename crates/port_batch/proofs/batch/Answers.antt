use Rattle.port.proofs.Whole.{whole}
use Rattle.port_batch.proofs.batch.Goals as goal

pub outcome_of-outcome-requires : goal.outcome_of-outcome-requires
outcome_of-outcome-requires c = whole c.args.port _ c.well_formed.0

pub returns : goal.returns
returns c = c.outcome_of-outcome.ensures
