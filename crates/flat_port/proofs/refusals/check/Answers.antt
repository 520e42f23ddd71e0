use Rattle.refusal.proofs.Numbers.{number_not_0, passed_on}
use Rattle.flat_port.proofs.Standing.{refused_first, refused_last}
use Rattle.flat_port.proofs.refusals.check.Goals as goal

pub returns-in_err-check : goal.returns-in_err-check
returns-in_err-check c = rw (passed_on _ _ c.from_residual.ensures.1) (refused_first _ _ (number_not_0 _) c.in_err-check.ensures)

pub returns : goal.returns
returns c = refused_last _ _ c.in_ok-check.ensures c.check_room.ensures
