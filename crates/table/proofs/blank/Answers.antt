use Rattle.table.proofs.Shown.{blank_made}
use Rattle.table.proofs.blank.Goals as goal

pub returns : goal.returns
returns c = blank_made _ c.blank_link-blank.ensures
