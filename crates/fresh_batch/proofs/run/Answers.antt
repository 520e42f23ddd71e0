use Rattle.model.specs.Batch.{reports_in, numbers_in}
use Rattle.table.proofs.PassingRecord.{counts_pass}
use Rattle.fresh_batch.proofs.FreshLists.{fresh_stands, from_fresh}
use Rattle.fresh_batch.proofs.run.Goals as goal

pub full_accounts-requires : goal.full_accounts-requires
full_accounts-requires c = (counts_pass c.args.t c.requires.0).links_most

pub run-requires : goal.run-requires
run-requires c = rw (c.empty.ensures, c.full_accounts.ensures) (fresh_stands c.args.t c.requires.0, c.requires.1)

pub returns : goal.returns
returns c = from_fresh c.args.t c.requires.0 (reports_in (numbers_in c.args.reports.now)) (numbers_in c.args.departures.now) (rw (c.empty.ensures, c.full_accounts.ensures) at c.run.ensures.1)
