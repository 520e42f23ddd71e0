use native.Mathlib.Omega.{arith}
use Rattle.flat_queues.proofs.Rounds.{popped}
use Rattle.flat_queues.proofs.pop.Goals as goal

pub returns : goal.returns
returns c = popped c.args.heads.now c.args.counts.now c.args.p (omega arith) (omega arith) (omega arith)
