use Rattle.port_storing.proofs.Marked.{stored_shown}
use Rattle.port_storing.proofs.stored.Goals as goal

pub returns : goal.returns
returns c = stored_shown c.pushed-r.ensures c.max.ensures
