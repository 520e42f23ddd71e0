use native.Mathlib.Omega.{arith}
use Rattle.bounds_arrivals.proofs.Views.{blocking_is}
use Rattle.bounds.proofs.busy.blocking_of.Goals as goal

pub returns : goal.returns
returns c = (blocking_is c.args.t.table c.args.p c.args.t.passes c.longest.result c.saturating_sub.result c.longest.ensures.0 c.saturating_sub.ensures, omega arith)
