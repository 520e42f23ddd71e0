use native.Mathlib.Omega.{arith}
use Rattle.model.specs.Batch.{report_of}
use Rattle.report_bytes.proofs.report_at.Goals as goal

pub returns-then-form-eq0 : goal.returns-then-form-eq0
unfolding report_of
returns-then-form-eq0 c = rw (← c.read_within-form.ensures, c.if-form-eq0.true, c.read_within-time.ensures)
