-- Each case of the enums.
use mathlib.Core.Path.{refl}
use Rattle.redundancy_bench.specs.Sums.{is_b}
use Rattle.redundancy_bench.proofs.is_b.Goals as goal

pub returns-in-A : goal.returns-in-A
unfolding is_b
returns-in-A c = rw (c.in-Ok.is, c.in-A.is) refl

pub returns-in-B : goal.returns-in-B
unfolding is_b
returns-in-B c = rw (c.in-Ok.is, c.in-B.is) refl

pub returns-in-Err : goal.returns-in-Err
unfolding is_b
returns-in-Err c = rw c.in-Err.is refl
