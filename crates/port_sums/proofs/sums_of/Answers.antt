use mathlib.Core.Path.{◌∙◌}
use Rattle.port.proofs.Whole.{whole}
use Rattle.port_sums.proofs.Whole.{of_unfit, of_fit, few}
use Rattle.port_sums.proofs.sums_of.Goals as goal

pub returns-then-is_none : goal.returns-then-is_none
returns-then-is_none c = of_unfit c.args.port _ c.frames_if_fit.ensures c.if-is_none.ensures

pub sums_of_counts-requires : goal.sums_of_counts-requires
sums_of_counts-requires c = few c.args.port _ c.frames_if_fit.ensures c.if-is_none.ensures (whole c.args.port _ c.well_formed.0)

pub returns : goal.returns
returns c = c.sums_of_counts.ensures ∙ of_fit c.args.port _ c.frames_if_fit.ensures c.if-is_none.ensures
