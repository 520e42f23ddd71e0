-- `output::Out::bytes`: a write that failed stays known.
use mathlib.Core.Path.{◌≡◌}
use mathlib.Core.Bool.{true}
use Rattle.output.proofs.Out.bytes.Given as goal

abbrev pub invariant-loop-byte : goal.invariant-loop-byte
invariant-loop-byte l = l.initial.self.failed ≡ true → l.self.failed ≡ true
