-- What is sold of a line, from the sums of what its links reserve.
use mathlib.Core.Path.{◌≡◌}
use mathlib.Core.List.{List}
use Prim.Native.Nat.{ℕ, ◌+◌, ◌-◌, ◌*◌, ◌/◌}
use lib.ListN.{get_or}
use Rattle.model.specs.Units.{line_capacity}
use Rattle.model.specs.OverloadCore.{sold_on}
use Rattle.table.specs.declared.Table.{Table as TableRecord}
use Rattle.table.specs.View.{view_links, view_table}
use Rattle.table.specs.Checks.{SumsOf}

module _ (t : TableRecord) (sums : List ℕ) (are : SumsOf sums (view_links t)) (line : ℕ) where
  pub sold : (on : ℕ) → on ≡ line → (x : ℕ) → x ≡ get_or sums on 0 → (capacity : ℕ) → capacity ≡ line_capacity
      → (1_000 * x + capacity - 1) / capacity ≡ sold_on (view_table t) line
  unfolding sold_on view_table
  sold on eo x ex capacity ec = rw (ec, ex, eo, are line)
