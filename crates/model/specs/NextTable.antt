-- The next switch on the way: the table rows for its port, and the file of a whole table for it.
use Rattle.std.specs.Prelude.{Bool, true, ◌&&◌, not, List, [], ◌∷◌, map, ℕ, zero, suc, ◌+◌, ◌-◌, leb, replicate}
use Rattle.model.specs.Basics.{all_hold, check, first_met, first_refusal}
use Rattle.model.specs.Units.{greatest_jitter}
use Rattle.model.specs.Link.{VirtualLink}
use Rattle.model.specs.Table.{Table, blank_table, line_checks}
use Rattle.model.specs.TableFile.{read_table, Writing, write_table}
use Rattle.model.specs.Bounds.{bounds_refusal, hold}

-- "every link of this table, now put on the chosen line, with jitter J + hold − least length, hold being that of its priority". That the
-- difference is never truncated is the theorem HoldCovers
unfoldable pub next_link : Table → ℕ → VirtualLink → VirtualLink
next_link t line v =
    record {
      number = v.number;
      line = line;
      priority = v.priority;
      code = v.code;
      least = v.least;
      greatest = v.greatest;
      jitter = v.jitter + hold t v.priority - v.least;
    }

unfoldable pub next_links : Table → ℕ → List VirtualLink
next_links t line = map (next_link t line) t.links

-- the new line count, and sizes: "The caller adds sizes afterwards"
abbrev pub next_table : Table → ℕ → ℕ → List ℕ → Table
next_table t line lines sizes = record { lines = lines; links = next_links t line; sizes = sizes }

-- ---- the call

-- "22, the chosen line is not below the new line count, checked first, and then 3 for a new line count outside 1 to 24"
unfoldable pub line_refusal : ℕ → ℕ → ℕ
line_refusal line lines = first_met (check 22 (leb lines line) ∷ check 3 (not (all_hold (leb 1 lines ∷ leb lines 24 ∷ []))) ∷ [])

-- not 21: "a jitter would exceed 125,000"
unfoldable pub jitters_in_range : List VirtualLink → Bool
jitters_in_range [] = true
jitters_in_range (v ∷ links) = leb v.jitter greatest_jitter && jitters_in_range links

-- "The chain call of M-105 refuses such rows too": 21, then 23. That 23 never comes here is the theorem RowsCarried
unfoldable pub rows_refusal : ℕ → List VirtualLink → ℕ
rows_refusal lines rows = first_met (check 21 (not (jitters_in_range rows)) ∷ line_checks lines rows)

-- ".. before the table's own checks; 21 .. after 8"; 23 "in the chain, after 21"
unfoldable pub next_refusal : Table → ℕ → ℕ → ℕ
next_refusal t line lines = first_refusal (line_refusal line lines) (first_refusal (bounds_refusal t) (rows_refusal lines (next_links t line)))

-- a refusal and no table, or 0 and the table with sizes 0
pub record Next : Type 0 where
  pub refused : ℕ
  pub table : Table

unfoldable pub next_or : ℕ → Table → ℕ → ℕ → Next
next_or zero t line lines = record { refused = 0; table = next_table t line lines (replicate 8 0) }
next_or (suc n) t line lines = record { refused = suc n; table = blank_table }

unfoldable pub next : Table → ℕ → ℕ → Next
next t line lines = next_or (next_refusal t line lines) t line lines

-- ---- the same from a table file to a table file, with sizes

-- those of the line and the line count come "before every number of the file"
unfoldable pub next_file_refusal : List ℕ → ℕ → ℕ → ℕ
next_file_refusal file line lines =
    first_refusal (line_refusal line lines) (first_refusal (read_table file).refused (next_refusal (read_table file).table line lines))

-- then the writer's: its 6 is that of the sizes
unfoldable pub next_file_or : ℕ → Table → ℕ → ℕ → List ℕ → List ℕ → Writing
next_file_or zero t line lines sizes output = write_table (next_table t line lines sizes) output
next_file_or (suc n) t line lines sizes output = record { refused = suc n; written = 0; output = output }

unfoldable pub next_file : List ℕ → ℕ → ℕ → List ℕ → List ℕ → Writing
next_file file line lines sizes output = next_file_or (next_file_refusal file line lines) (read_table file).table line lines sizes output
