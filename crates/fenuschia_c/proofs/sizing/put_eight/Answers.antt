use native.Mathlib.Omega.{arith}
use Rattle.report_bytes.proofs.NumberBytes.{none_laying, lays, all_laid}
use Rattle.fenuschia_c.proofs.sizing.put_eight.Goals as goal

pub loop-p-init : goal.loop-p-init
loop-p-init c = none_laying c.args.numbers c.args.out.now c.args.at

pub write-requires : goal.write-requires
write-requires c = omega (arith, c.loop-p.invariant.long, c.loop-p-test.true, c.requires)

pub loop-p-preserved : goal.loop-p-preserved
loop-p-preserved c = lays c.loop-p.invariant (omega arith) (omega arith) (rw c.from.ensures at c.write.ensures) (omega arith)

pub shape_of-out : goal.shape_of-out
shape_of-out c = c.loop-p.invariant.long

pub returns : goal.returns
returns c = all_laid c.loop-p.invariant (omega arith)
