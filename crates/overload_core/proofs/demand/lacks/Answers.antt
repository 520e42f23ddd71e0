use mathlib.Core.Path.{◌∙◌}
use native.Mathlib.Omega.{arith}
use Rattle.model.proofs.LastHold.{overloaded_start}
use Rattle.refusal.proofs.Numbers.{number_not_0}
use Rattle.table.specs.View.{view_links}
use Rattle.overload_core.proofs.Lacking.{refused_table, few_sent, more_sent, all_past}
use Rattle.overload_core.proofs.demand.lacks.Goals as goal

pub returns-in_default : goal.returns-in_default
returns-in_default c = refused_table c.args.t (λ z. number_not_0 c.in_default.field-0 (c.in_default.ensures.refusal ∙ z))

pub loop-w-init : goal.loop-w-init
loop-w-init c = (omega arith, overloaded_start (view_links c.in-Ok.passing.table))

pub overflow_sub-w : goal.overflow_sub-w
overflow_sub-w c = c.loop-w.invariant.0

pub demand_of-sent-requires : goal.demand_of-sent-requires
demand_of-sent-requires c = omega arith

pub returns-then-sent-w : goal.returns-then-sent-w
returns-then-sent-w c = rw (← c.in-Ok.ensures.same) (few_sent c.in-Ok.passing.table c.in-Ok.passing.passes c.loop-w.w c.demand_of-sent.result c.loop-w.invariant.0 (omega arith) c.demand_of-sent.ensures.0 (omega arith))

pub loop-w-smaller : goal.loop-w-smaller
loop-w-smaller c = omega arith

pub loop-w-preserved : goal.loop-w-preserved
loop-w-preserved c = (omega arith, more_sent c.in-Ok.passing.table c.in-Ok.passing.passes c.loop-w.w c.loop-w.invariant.1 c.demand_of-sent.result c.demand_of-sent.ensures.0 (omega arith))

pub returns : goal.returns
returns c = rw (← c.in-Ok.ensures.same) (all_past c.in-Ok.passing.table c.in-Ok.passing.passes c.loop-w.w c.loop-w.invariant.1 (omega arith))
