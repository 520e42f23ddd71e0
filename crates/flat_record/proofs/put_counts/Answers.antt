use native.Mathlib.Omega.{arith}
use lib.ListN.{length-set}
use Rattle.flat_record.proofs.Rows.{one_laid, all_laid}
use Rattle.flat_record.proofs.put_counts.Goals as goal

pub loop-i-init : goal.loop-i-init
loop-i-init c = (omega arith, λ j v h. absurd (omega arith))

pub loop-i-preserved : goal.loop-i-preserved
loop-i-preserved c = (
  simp length-set c.loop-i.invariant.0,
  one_laid c.loop-i.tallies c.args.counts c.loop-i.i (omega arith) c.loop-i.invariant.0 c.loop-i.invariant.1,
)

pub returns : goal.returns
returns c = all_laid c.loop-i.tallies c.args.counts c.args.unknown c.loop-i.i (omega arith) c.loop-i.invariant.0 c.loop-i.invariant.1
