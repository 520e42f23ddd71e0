use native.Mathlib.Omega.{arith}
use Rattle.table_lookup.proofs.Finding.{found_guess}
use Rattle.port_queue_fitness.proofs.place_near.Goals as goal

pub returns-then-numbers-i : goal.returns-then-numbers-i
returns-then-numbers-i c = found_guess c.requires.1 (omega arith) (omega arith)

pub returns : goal.returns
returns c = rw (← c.from-2.ensures) c.place_of.ensures
