use mathlib.Core.Path.{refl}
use Rattle.port_storing.proofs.arrived.Goals as goal

pub returns : goal.returns
returns c = refl
