use mathlib.Core.Path.{◌≡◌}
use mathlib.Core.Bool.{true}
use Rattle.model.specs.Basics.{all_to}
use Rattle.port_fitness.specs.Conditions.{tick_fits, credit_fits}
use Rattle.port_fitness.proofs.accounts_fit.Given as goal

abbrev pub invariant-loop-i : goal.invariant-loop-i
invariant-loop-i l = (all_to (tick_fits l.accounts l.t.count l.clock) l.i ≡ true) × (all_to (credit_fits l.accounts l.t) l.i ≡ true)
