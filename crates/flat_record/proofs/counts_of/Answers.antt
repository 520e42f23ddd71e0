use Prim.Native.Nat.{ℕ}
use native.Mathlib.Omega.{arith}
use lib.ListN.{length-set, length-replicate}
use Rattle.flat_record.proofs.Rows.{one_taken, all_taken}
use Rattle.flat_record.proofs.counts_of.Goals as goal

pub loop-i-init : goal.loop-i-init
loop-i-init c = (length-replicate {A = ℕ} 1024 0, λ j v h. absurd (omega arith))

pub loop-i-preserved : goal.loop-i-preserved
loop-i-preserved c = (
  simp length-set c.loop-i.invariant.0,
  one_taken c.loop-i.counts c.args.tallies.now c.loop-i.i (omega arith) c.loop-i.invariant.0 c.loop-i.invariant.1,
)

pub returns : goal.returns
returns c = all_taken c.loop-i.counts c.args.tallies.now c.loop-i.i (omega arith) c.loop-i.invariant.0 c.loop-i.invariant.1
