use mathlib.Core.Path.{◌∙◌}
use native.Mathlib.Omega.{arith}
use Rattle.table.proofs.Shape.{sized}
use Rattle.port_policing.proofs.Full.{none_yet, next_account, all_accounts}
use Rattle.port_policing.proofs.full_accounts.Goals as goal

pub loop-i-init : goal.loop-i-init
loop-i-init c = none_yet

pub loop-i-preserved : goal.loop-i-preserved
loop-i-preserved c = rw c.loop-i.invariant (next_account c.args.t (sized c.args.t _ c.well_formed.0) c.requires c.loop-i.i (omega arith) c.full_account.ensures)

pub returns : goal.returns
returns c = c.loop-i.invariant ∙ all_accounts c.args.t c.loop-i.i (omega arith)
