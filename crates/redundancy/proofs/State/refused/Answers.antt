-- The refusal, field by field.
use mathlib.Core.Path.{refl}
use Rattle.model.specs.Redundancy.{refused_by}
use Rattle.redundancy.proofs.State.refused.Goals as goal

pub returns : goal.returns
unfolding refused_by
returns c = rw c.kept.ensures refl
