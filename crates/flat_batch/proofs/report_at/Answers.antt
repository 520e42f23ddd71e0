use native.Mathlib.Omega.{arith}
use Rattle.model.specs.Batch.{report_of}
use Rattle.flat_batch.proofs.report_at.Goals as goal

pub returns-then-form-eq0 : goal.returns-then-form-eq0
unfolding report_of
returns-then-form-eq0 c = rw c.if-form-eq0.true
