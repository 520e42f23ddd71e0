use native.Mathlib.Omega.{arith}
use mathlib.Core.Path.{◌≡◌}
use Rattle.refusal.proofs.Numbers.{passed_on}
use Rattle.table.specs.View.{view_table}
use Rattle.bounds.proofs.Answering.{known_more, table_refused, hold_refused, all_known}
use Rattle.bounds.proofs.bounds_of.Goals as goal

pub returns-in_err-passing : goal.returns-in_err-passing
returns-in_err-passing c = rw (passed_on _ _ c.from_residual.ensures.1) (table_refused (view_table c.args.t) _ c.in_err-passing.ensures.refusal)

pub returns-in_default : goal.returns-in_default
returns-in_default c =
    let passing = c.in_ok-passing.passing in
    rw (← c.in_ok-passing.ensures.same) (hold_refused (view_table passing.table) passing.passes c.loop-p.p (omega arith) c.in_default.ensures)

pub loop-p-preserved : goal.loop-p-preserved
loop-p-preserved c =
    rw c.from-k.ensures
    (known_more (view_table c.in_ok-passing.passing.table) c.loop-p.bounds c.loop-p.holds c.loop-p.windows c.loop-p.p c.loop-p.invariant (omega arith) c.in-Some.l c.in-Some.ensures)

pub returns : goal.returns
returns c =
    let passing = c.in_ok-passing.passing in
    let e : c.loop-p.p ≡ 8 = omega arith in
    rw (← c.in_ok-passing.ensures.same) (all_known (view_table passing.table) c.loop-p.bounds c.loop-p.holds c.loop-p.windows (rw e at c.loop-p.invariant) passing.passes)
