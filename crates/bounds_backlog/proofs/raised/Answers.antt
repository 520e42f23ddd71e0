use mathlib.Core.Path.{refl}
use native.Mathlib.Omega.{arith}
use Rattle.bounds_backlog.proofs.raised.Goals as goal

pub returns-then-best-v : goal.returns-then-best-v
returns-then-best-v c = record { new = λ _. refl; old = λ h. absurd (omega arith) }

pub returns : goal.returns
returns c = record { new = λ h. absurd (omega arith); old = λ _. refl }
