use Prim.Native.Nat.{ℕ}
use lib.ListN.{length-set, length-replicate}
use Rattle.port_queue_fitness.proofs.guesses_of.Goals as goal

pub loop-i-init : goal.loop-i-init
loop-i-init c = length-replicate {A = ℕ} 1024 0

pub loop-i-preserved : goal.loop-i-preserved
loop-i-preserved c = simp length-set c.loop-i.invariant
