use native.Mathlib.Omega.{arith}
use Rattle.report_bytes.proofs.NumberBytes.{none_laying, lays, all_laid}
use Rattle.report_bytes.proofs.put_numbers.Goals as goal

pub loop-i-init : goal.loop-i-init
loop-i-init c = none_laying c.args.numbers.now c.args.out.now c.args.at

pub write-requires : goal.write-requires
write-requires c = omega (arith, c.loop-i.invariant.long, c.loop-i-test.true, c.requires)

pub loop-i-preserved : goal.loop-i-preserved
loop-i-preserved c = lays c.loop-i.invariant c.requires c.loop-i-test.true c.write.ensures (omega arith)

pub shape_of-out : goal.shape_of-out
shape_of-out c = c.loop-i.invariant.long

pub returns : goal.returns
returns c = all_laid c.loop-i.invariant (omega (arith, c.loop-i-test.false))
