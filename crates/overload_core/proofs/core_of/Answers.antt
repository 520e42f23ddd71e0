use mathlib.Core.Path.{refl, sym, ◌∙◌}
use Rattle.refusal.proofs.Numbers.{number_not_0, passed_on}
use Rattle.overload_core.proofs.Answering.{table_refused, bounds_there, links_remain}
use Rattle.overload_core.proofs.core_of.Goals as goal

pub returns-in_err-passing : goal.returns-in_err-passing
returns-in_err-passing c = rw (passed_on _ _ c.from_residual.ensures.1) (table_refused c.args.t _ c.in_err-passing.ensures.refusal (number_not_0 _) _ refl)

pub returns-then-not-lacks : goal.returns-then-not-lacks
returns-then-not-lacks c = bounds_there c.args.t (sym c.in_ok-passing.ensures.refusal) (sym c.if-not-lacks.true ∙ c.lacks.ensures) _ refl

pub returns : goal.returns
returns c = links_remain c.args.t (sym c.in_ok-passing.ensures.refusal) (sym c.if-not-lacks.false ∙ c.lacks.ensures) _ (rw c.in_ok-passing.ensures.same at c.reduced.ensures)
