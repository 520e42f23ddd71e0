use mathlib.Core.Path.{◌≡◌}
use Prim.Native.Nat.{◌*◌, ◌≤◌}
use Rattle.bounds_arrivals.specs.Loads.{flow}
use Rattle.bounds_arrivals.proofs.total.Given as goal

abbrev pub invariant-loop-k : goal.invariant-loop-k
invariant-loop-k l = (l.sum ≡ flow l.l l.k l.w) × (l.sum ≤ 67_074 * l.k)
