use mathlib.Core.Path.{◌≡◌}
use mathlib.Core.List.{map}
use lib.ListN.{take}
use Rattle.model.specs.Basics.{entries}
use Rattle.next_file.proofs.Capping.{cap}
use Rattle.next_file.proofs.capped.Given as goal

abbrev pub invariant-loop-p : goal.invariant-loop-p
invariant-loop-p l = l.fields ≡ entries 0 8 (map cap (take l.p l.sizes))
