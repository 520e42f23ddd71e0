-- The fresh state, field by field.
use mathlib.Core.Path.{refl}
use Rattle.model.specs.Redundancy.{fresh}
use Rattle.redundancy.proofs.State.fresh.Goals as goal

pub returns : goal.returns
unfolding fresh
returns c = refl
