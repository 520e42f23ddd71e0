-- A copy is what the reader and the writer answer.
use mathlib.Core.Path.{refl}
use Rattle.refusal.proofs.Numbers.{number_not_0, passed_on}
use Rattle.fenuschia_c.proofs.Copies.{refused_copied, told_copied}
use Rattle.fenuschia_c.proofs.file.copy.Goals as goal

pub returns-in_err-t : goal.returns-in_err-t
returns-in_err-t c = rw (passed_on _ _ c.from_residual.ensures.1) (refused_copied _ _ _ c.in_err-t.ensures (number_not_0 _))

pub returns : goal.returns
returns c = told_copied _ _ _ c.in_ok-t.ensures refl _ c.write.result c.write.ensures
