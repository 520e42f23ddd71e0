use mathlib.Core.Path.{refl}
use Rattle.port.proofs.resting.resting_with.Goals as goal

pub returns : goal.returns
returns c = refl
