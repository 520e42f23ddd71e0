-- What the filter gives: the model's place, which is one of the table's.
use Rattle.std.specs.Prelude.{◌≡◌, Option, Some, ℕ, ◌<◌}
use Rattle.model.specs.Link.{place_of}
use Rattle.model.specs.Report.{admitted}
use Rattle.table.specs.declared.Table.{Table as TableRecord}
use Rattle.table.specs.View.{view_links, view_table}
use Rattle.table_lookup.specs.Places.{view_place}

pub record Admits (t : TableRecord) (line number len : ℕ) (r : Option ℕ) : Type 0 where
  pub place : view_place r ≡ admitted (view_table t) line len (place_of number (view_links t))
  pub below : (i : ℕ) → r ≡ Some i → i < t.count
