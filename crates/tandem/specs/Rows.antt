-- The rows by themselves, once line and table have passed their checks.
use Rattle.std.specs.Prelude.{◌≡◌, List, ℕ, ◌+◌, ◌-◌, ◌<◌, get_or}
use Rattle.model.specs.Bounds.{bounds_refusal, hold}
use Rattle.model.specs.NextTable.{next_links, rows_refusal, next_or}
use Rattle.table.specs.declared.VirtualLink.{VirtualLink as LinkFields}
use Rattle.table.specs.declared.Table.{Table as TableRecord}
use Rattle.table.specs.View.{view_table}
use Rattle.tandem.specs.Answer.{Next as NextRecord, record_next}

-- the fields of a link on that line, by its priority's hold
abbrev pub moved_link : LinkFields → ℕ → ℕ → LinkFields
moved_link v hold line =
    record { line = line; priority = v.priority; code = v.code; least = v.least; greatest = v.greatest; jitter = v.jitter + hold - v.least }

-- the table has bounds, and these are its holds
pub record Ready (t : TableRecord) (holds : List ℕ) : Type 0 where
  pub passes : bounds_refusal (view_table t) ≡ 0
  pub are_holds : (p : ℕ) → p < 8 → get_or holds p 0 ≡ hold (view_table t) p

-- 21, 23, or the rows
abbrev pub rows_of : TableRecord → ℕ → ℕ → NextRecord
rows_of t line lines = record_next (next_or (rows_refusal lines (next_links (view_table t) line)) (view_table t) line lines)
