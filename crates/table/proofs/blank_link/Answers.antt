use mathlib.Core.Path.{refl}
use Rattle.table.proofs.blank_link.Goals as goal

pub returns : goal.returns
returns c = refl
