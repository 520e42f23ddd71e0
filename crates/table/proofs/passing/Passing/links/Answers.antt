use native.Mathlib.Omega.{arith}
use Rattle.table.proofs.PassingRecord.{counts_pass}
use Rattle.table.proofs.passing.Passing.links.Goals as goal

pub shared_ref_as_front-result : goal.shared_ref_as_front-result
shared_ref_as_front-result c = omega (arith, c.from.ensures, (counts_pass c.args.self.now.table c.args.self.now.passes).links_most)
