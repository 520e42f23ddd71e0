-- the promise comes first: what is needed on the way hangs on the cap, too
use native.Mathlib.Omega.{arith}
use Rattle.model.proofs.Bags.{power_few}
use Rattle.table.proofs.Bags.{bag_shifted}
use Rattle.table.proofs.bag.Goals as goal

pub returns : goal.returns
returns c = bag_shifted c.args.code c.min-k.result c.min-k.ensures

pub overflow_mul-result : goal.overflow_mul-result
overflow_mul-result c = record { fits = omega (arith, power_few c.min-k.result (omega (arith, c.min-k.ensures))) }
