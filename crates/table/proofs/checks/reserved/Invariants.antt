use mathlib.Core.Path.{◌≡◌}
use Prim.Native.Nat.{min}
use Rattle.table.proofs.Reservations.{Summed}
use Rattle.table.proofs.checks.reserved.Given as goal

abbrev pub invariant-loop-i : goal.invariant-loop-i
invariant-loop-i l = (l.n ≡ min l.t.count 256) × Summed l.t l.sums l.i
