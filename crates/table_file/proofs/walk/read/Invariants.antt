-- The reader's loop: the links read so far are the model's.
use mathlib.Core.Path.{◌≡◌}
use Prim.Native.Nat.{◌+◌}
use Rattle.table_file.proofs.ReadSteps.{SoFar}
use Rattle.table_file.proofs.walk.read.Given as goal

abbrev pub invariant-loop-i : goal.invariant-loop-i
invariant-loop-i l = (l.n ≡ l.count) × (l.w.read ≡ l.i + 1) × SoFar l.file l.lines l.count l.numbers l.links l.previous l.w.rest.now l.w.read
