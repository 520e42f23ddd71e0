use mathlib.Core.Path.{◌≡◌}
use mathlib.Core.Bool.{true}
use lib.ListN.{take}
use Rattle.model.specs.Table.{all_at_most}
use Rattle.table.proofs.checks.check_sizes.Given as goal

abbrev pub invariant-loop-size : goal.invariant-loop-size
invariant-loop-size l = all_at_most 16384 (take l.size-index l.fn.sizes) ≡ true
