-- A jitter in a table record, and how many jitters fit.
use Rattle.std.specs.Prelude.{◌≡◌, ℕ, zero, suc, ◌≤◌, get_or, set}
use Rattle.std.proofs.Math.Option.{Option, none, some}
use Rattle.model.specs.JitterMargin.{greatest_fitting}
use Rattle.table.specs.declared.VirtualLink.{VirtualLink as LinkFields}
use Rattle.table.specs.declared.Table.{Table as TableRecord}
use Rattle.table.specs.View.{blank_fields, view_table}

-- the fields of a link with that jitter, and the record with it at a place
abbrev pub fields_with : ℕ → LinkFields → LinkFields
fields_with jitter v = record { line = v.line; priority = v.priority; code = v.code; least = v.least; greatest = v.greatest; jitter = jitter }

abbrev pub record_with : TableRecord → ℕ → ℕ → TableRecord
record_with t i jitter =
    record {
      lines = t.lines;
      count = t.count;
      numbers = t.numbers;
      links = set t.links i (fields_with jitter (get_or t.links i blank_fields));
      sizes = t.sizes;
    }

-- of n jitters from 0 on, the last
unfoldable pub last_of : ℕ → Option ℕ
last_of zero = none
last_of (suc n) = some n

-- r jitters fit, the greatest of them last
pub record Counted (t : TableRecord) (number r : ℕ) : Type 0 where
  pub last : greatest_fitting (view_table t) number ≡ last_of r
  pub most : r ≤ 125_001
