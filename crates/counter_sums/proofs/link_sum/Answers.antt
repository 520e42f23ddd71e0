use Rattle.std.proofs.Common.{◌∙◌, arith}
use Rattle.std.proofs.lemmas.Iterator.{YieldsList-from_slice}
use Rattle.std.proofs.lemmas.Iterator.Consumers.{sum_from_yields_List, fits_from_yields_list}
use Rattle.counter_sums.proofs.Adding.{of_link, sum_of_four, sum_fits}
use Rattle.counter_sums.proofs.link_sum.Goals as goal

pub returns : goal.returns
returns c =
    let a = c.args in
    sum_from_yields_List c.iter.result c.sum.result c.sum.ensures.ran (YieldsList-from_slice (of_link a.counts.now a.i) c.iter.ensures.rest) ∙ sum_of_four a.counts.now a.i (omega arith)

pub sum-requires-clause-fits : goal.sum-requires-clause-fits
sum-requires-clause-fits c =
    let a = c.args in
    fits_from_yields_list c.iter.result _ (YieldsList-from_slice (of_link a.counts.now a.i) c.iter.ensures.rest) (sum_fits a.counts.now a.i (omega arith) c.requires.2)
