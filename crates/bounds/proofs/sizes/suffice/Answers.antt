use mathlib.Core.Path.{◌≡◌}
use native.Mathlib.Omega.{arith}
use Rattle.bounds.proofs.Sufficing.{sufficing_more, refused_lacks, unheld_lacks, over_breaks, all_suffice, size_shown}
use Rattle.bounds.proofs.sizes.suffice.Goals as goal

pub returns-in_default : goal.returns-in_default
returns-in_default c = refused_lacks _ c.in_default.field-0 c.in_default.ensures.refusal

pub returns-in_default-limits_of : goal.returns-in_default-limits_of
returns-in_default-limits_of c = rw (← c.in-Ok.ensures.same) (unheld_lacks _ c.loop-p.p (omega arith) c.in_default-limits_of.ensures)

pub returns-then-passing-from : goal.returns-then-passing-from
returns-then-passing-from c =
    let size = rw c.from.ensures at c.if-passing-from.true in
    rw (← c.in-Ok.ensures.same) (over_breaks _ c.loop-p.p (omega arith) c.in-Some.l c.in-Some.ensures (omega (arith, size_shown c.in-Ok.passing.table c.loop-p.p)))

pub loop-p-preserved : goal.loop-p-preserved
loop-p-preserved c =
    let size = rw c.from.ensures at c.if-passing-from.false in
    sufficing_more _ c.loop-p.p (omega arith) c.in-Some.l c.in-Some.ensures c.loop-p.invariant (omega (arith, size_shown c.in-Ok.passing.table c.loop-p.p))

pub returns : goal.returns
returns c =
    let e : c.loop-p.p ≡ 8 = omega arith in
    rw (← c.in-Ok.ensures.same) (all_suffice _ c.in-Ok.passing.passes (rw e at c.loop-p.invariant))
