use mathlib.Core.Path.{◌≡◌}
use lib.ListN.{length}
use Rattle.port_queue_fitness.proofs.guesses_of.Given as goal

abbrev pub invariant-loop-i : goal.invariant-loop-i
invariant-loop-i l = length l.guesses ≡ 1024
