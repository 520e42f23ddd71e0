use Rattle.table.specs.View.{view_links}
use Rattle.table.proofs.checks.check_lines.Goals as goal

pub returns : goal.returns
returns c = c.check_sums.ensures (view_links c.args.t) c.reserved-sums.ensures
