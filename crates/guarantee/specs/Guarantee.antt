-- Demand 3 and the counts in the numbers that a user holds: those of the records that `bounds_of` and `sums_of` gave.
use Rattle.std.specs.Prelude.{◌≡◌, true, List, Result, Ok, IsOkAnd, Some, get_or}
use Rattle.model.specs.Bounds.{sizing}
use Rattle.model.specs.Sums.{sums}
use Rattle.model.specs.Run.{Entry, DemandBy, frames_reported}
use Rattle.table.specs.declared.Table.{Table as TableRecord}
use Rattle.table.specs.View.{view_table}
use Rattle.bounds.specs.declared.Bounds.{Bounds as BoundsRecord}
use Rattle.bounds.specs.Answer.{sizing_of}
use Rattle.port.specs.declared.Port.{Port as PortRecord}
use Rattle.port.specs.View.{view_port_table, view_port}
use Rattle.port_batch.specs.Calls.{Chain}
use Rattle.refusal.specs.declared.Refusal.{Refusal}
use Rattle.counter_sums.specs.declared.Sums.{Sums as SumsRecord}
use Rattle.counter_sums.specs.View.{answered, padded}

-- `bounds_of` answered Ok b of a table, as its contract says: then every chain of calls on that table meets demand 3 with the very bounds
-- and holds of the answer
abbrev pub SizingHolds : Type 0
SizingHolds = (t : TableRecord) (b : BoundsRecord) → sizing_of (Ok b) ≡ sizing (view_table t)
    → (p : PortRecord) (log : List Entry) → Chain t p log
    → DemandBy (λ q. get_or b.bounds q 0) (λ q. get_or b.holds q 0) (view_table t) (record { port = view_port p; log = log })

-- `sums_of` answered of the port that a chain of calls handed back last, as its contract says: then it answered sums with a grand total,
-- which is the number of all accepted frame reports of the chain
abbrev pub TotalHolds : Type 0
TotalHolds = (t : TableRecord) (p : PortRecord) (log : List Entry) → Chain t p log → (r : Result SumsRecord Refusal) → answered r ≡ padded (sums (view_port_table p) (view_port p))
    → IsOkAnd r (λ (s : SumsRecord). s.total ≡ Some (frames_reported (λ number given. true) log))
