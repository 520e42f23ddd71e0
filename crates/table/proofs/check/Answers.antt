use mathlib.Core.Path.{refl, sym, ◌∙◌}
use Rattle.refusal.proofs.Numbers.{number_not_0, passed_on}
use Rattle.table.proofs.Links.{counts_refused, links_refused, sizes_decide}
use Rattle.table.proofs.check.Goals as goal

pub returns-then-not-counts_in_range : goal.returns-then-not-counts_in_range
returns-then-not-counts_in_range c = counts_refused c.args.t (sym c.counts_in_range.ensures ∙ c.if-not-counts_in_range.true)

pub check_links-requires : goal.check_links-requires
check_links-requires c = sym c.counts_in_range.ensures ∙ c.if-not-counts_in_range.false

pub returns-in_err-check_links : goal.returns-in_err-check_links
returns-in_err-check_links c = rw (passed_on _ _ c.from_residual.ensures.1) (links_refused c.args.t (sym c.counts_in_range.ensures ∙ c.if-not-counts_in_range.false) _ c.in_err-check_links.ensures (number_not_0 _))

pub returns : goal.returns
returns c = sizes_decide c.args.t (sym c.counts_in_range.ensures ∙ c.if-not-counts_in_range.false) _ c.in_ok-check_links.ensures refl _ c.check_sizes.ensures
