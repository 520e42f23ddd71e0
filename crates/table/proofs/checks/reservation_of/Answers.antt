use native.Mathlib.Omega.{arith}
use Rattle.table.proofs.Reservations.{reservation_shifted}
use Rattle.table.proofs.checks.reservation_of.Goals as goal

pub returns : goal.returns
returns c =
    reservation_shifted c.args.link c.from.result c.saturating_sub.result c.from.ensures (omega (arith, c.from.ensures)) c.saturating_sub.ensures
