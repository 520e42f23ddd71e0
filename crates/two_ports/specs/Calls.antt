-- The same for the real calls: two chains of calls, on the table and on that which `next_table` gave of it.
use Rattle.std.specs.Prelude.{◌≡◌, Ok, List, map, ℕ}
use Rattle.model.specs.Bounds.{bounds_refusal}
use Rattle.model.specs.Run.{Entry, Always}
use Rattle.model.specs.NextTable.{next}
use Rattle.model.specs.Promises.{all_departures}
use Rattle.table.specs.declared.Table.{Table as TableRecord}
use Rattle.table.specs.View.{view_table}
use Rattle.tandem.specs.Answer.{next_of, record_next}
use Rattle.port.specs.declared.Port.{Port as PortRecord}
use Rattle.port_batch.specs.Calls.{Chain}
use Rattle.two_ports.specs.Handed.{reported, report_on, IsOn, handed_on, InOrder}
use Rattle.two_ports.specs.Promises.{Fares, RowsAmong}

-- "The caller adds sizes afterwards"
abbrev pub with_sizes : TableRecord → List ℕ → TableRecord
with_sizes t sizes = record { lines = t.lines; count = t.count; numbers = t.numbers; links = t.links; sizes = sizes }

-- `next_table` answered of a table with a table, as its contract says; then for every chain of calls on that table, and every chain on the answer's with
-- sizes added that reports the departures of the first: each fares as in TwoPorts
abbrev pub TwoPortsOfCalls : Type 0
TwoPortsOfCalls = (t : TableRecord) (line lines : ℕ) (n : TableRecord) → next_of (Ok n) ≡ record_next (next (view_table t) line lines)
    → (sizes : List ℕ) (p q : PortRecord) (log onward : List Entry) → Chain t p log → Chain (with_sizes n sizes) q onward
    → reported onward ≡ map (report_on line) (all_departures log) → Always (λ e before. Fares (view_table (with_sizes n sizes)) e) onward

-- and among reports of other lines
abbrev pub TwoPortsAmongOthersOfCalls : Type 0
TwoPortsAmongOthersOfCalls = (t u : TableRecord) (line : ℕ) → bounds_refusal (view_table t) ≡ 0 → RowsAmong (view_table t) line (view_table u).links
    → (p q : PortRecord) (log onward : List Entry) → Chain t p log → Chain u q onward
    → InOrder onward → handed_on line onward ≡ all_departures log → Always (λ e before. IsOn line e.report → Fares (view_table u) e) onward
