use mathlib.Core.Path.{◌≡◌}
use mathlib.Core.Option.{none}
use lib.ListN.{drop}
use Rattle.model.specs.Basics.{first_met}
use Rattle.model.specs.Table.{links_checks}
use Rattle.table.specs.Checks.{previous_of}
use Rattle.table.specs.View.{view_links}
use Rattle.table.proofs.Reservations.{Summed}
use Rattle.table.proofs.checks.check_links.Given as goal

abbrev pub invariant-loop-i : goal.invariant-loop-i
invariant-loop-i l = (l.n ≡ l.t.count) × (first_met (links_checks l.t.lines none (view_links l.t)) ≡ first_met (links_checks l.t.lines (previous_of l.i l.previous) (drop l.i (view_links l.t)))) × Summed l.t l.sums l.i
