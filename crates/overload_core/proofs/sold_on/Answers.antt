use Rattle.overload_core.proofs.Selling.{sold}
use Rattle.overload_core.proofs.sold_on.Goals as goal

pub returns : goal.returns
returns c = sold c.args.t c.reserved-sums.result c.reserved-sums.ensures c.args.line c.from.result c.from.ensures c.from-reserved.result c.from-reserved.ensures c.from-capacity.result c.from-capacity.ensures
