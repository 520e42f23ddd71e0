use mathlib.Core.Path.{sym, ◌∙◌}
use Rattle.refusal.proofs.Numbers.{number_not_0, passed_on}
use Rattle.table.proofs.PassingRecord.{counts_pass}
use Rattle.port.proofs.FreshPort.{fresh_refused, fresh_given}
use Rattle.port.proofs.resting.fresh.Goals as goal

pub returns-in_err-check : goal.returns-in_err-check
returns-in_err-check c = rw (passed_on _ _ c.from_residual.ensures.1) (fresh_refused c.args.table c.in_err-check.ensures (number_not_0 _))

pub full_accounts-requires : goal.full_accounts-requires
full_accounts-requires c = (counts_pass c.args.table (sym c.in_ok-check.ensures)).links_most

pub returns : goal.returns
returns c = fresh_given c.args.table (sym c.in_ok-check.ensures) (c.resting_with.ensures ∙ rw c.full_accounts.ensures)
