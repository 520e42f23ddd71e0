use native.Mathlib.Omega.{arith}
use Rattle.next_file.proofs.Capping.{capped_none, capped_more, capped_all}
use Rattle.next_file.proofs.capped.Goals as goal

pub loop-p-init : goal.loop-p-init
loop-p-init c = capped_none c.args.sizes

pub overflow_cast-fields : goal.overflow_cast-fields
overflow_cast-fields c = omega (arith, c.min.ensures)

pub loop-p-preserved : goal.loop-p-preserved
loop-p-preserved c = capped_more c.args.sizes c.loop-p.fields c.loop-p.p c.well_formed.0.1.0.1 (omega arith) c.loop-p.invariant _ c.min.ensures

pub returns : goal.returns
returns c = capped_all c.args.sizes c.loop-p.fields c.loop-p.p c.well_formed.0.1.0.1 (omega arith) c.loop-p.invariant
