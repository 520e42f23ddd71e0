-- The sum, number by number.
use mathlib.Core.Path.{refl}
use Rattle.redundancy_bench.specs.Sums.{added}
use Rattle.redundancy_bench.proofs.with_part.Goals as goal

pub returns : goal.returns
unfolding added
returns c = rw (c.from.ensures, c.from-2.ensures) refl
