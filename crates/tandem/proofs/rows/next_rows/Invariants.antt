use mathlib.Core.Path.{◌≡◌}
use Rattle.model.specs.NextTable.{next_links}
use Rattle.table.specs.View.{view_table}
use Rattle.tandem.proofs.Filling.{Filled}
use Rattle.tandem.proofs.rows.next_rows.Given as goal

abbrev pub invariant-loop-i : goal.invariant-loop-i
invariant-loop-i l = (l.n ≡ l.t.count) × Filled (next_links (view_table l.t) l.line) l.numbers l.links l.late l.i
