-- The theorems on two ports over definitions. proofs/Theorems.antt proves each under the same name in lower case.
use Rattle.std.specs.Prelude.{◌≡◌, ◌⊎◌, true, List, map, ℕ, ◌*◌, ◌≤◌, ◌<◌, length}
use Rattle.model.specs.Basics.{first_met}
use Rattle.model.specs.Units.{most_frames}
use Rattle.model.specs.Link.{VirtualLink, link_at}
use Rattle.model.specs.Table.{Table, size_of, size_checks, table_refusal}
use Rattle.model.specs.Bounds.{bounds_refusal, bound}
use Rattle.model.specs.Report.{Call}
use Rattle.model.specs.Run.{Entry, accepted, run, Always}
use Rattle.model.specs.NextTable.{next_link, next_table, next_refusal}
use Rattle.model.specs.Promises.{all_departures}
use Rattle.two_ports.specs.Handed.{reported, report_on, IsOn, handed_on, InOrder}

-- with sizes in range the rows make a table that passes its own checks
abbrev pub NextPasses : Type 0
NextPasses = (t : Table) (line lines : ℕ) (sizes : List ℕ) → next_refusal t line lines ≡ 0 → first_met (size_checks sizes) ≡ 0
    → table_refusal (next_table t line lines sizes) ≡ 0

-- how a frame fares at the next port, whose table is u
pub record Fares (u : Table) (e : Entry) : Type 0 where
  -- "none of them refused for line timing": refused for nothing but a lent list that is too short (16), which one with room for all that a
  -- port may hold never is
  pub refused : (e.answer.refused ≡ 0) ⊎ ((e.answer.refused ≡ 16) × (length e.list < 3 * (8 * most_frames)))
  -- "filtered or policed": stored or dropped
  pub verdict : (e.answer.verdict ≡ 0) ⊎ (e.answer.verdict ≡ 3)
  -- and stored, where the next table has bounds and its sizes are at least these
  pub stored : bounds_refusal u ≡ 0 → ((p : ℕ) → p < 8 → bound u p ≤ size_of u p) → accepted e.answer ≡ true → e.answer.verdict ≡ 0

-- "For every list of reports to a fresh first port, its departures, reported in order at their ticks to a fresh second port with the new
-- table", whatever sizes in range the caller adds and whatever lists are lent
abbrev pub TwoPorts : Type 0
TwoPorts = (t : Table) (line lines : ℕ) → next_refusal t line lines ≡ 0 → (sizes : List ℕ) → first_met (size_checks sizes) ≡ 0
    → (calls onward : List Call)
    → reported (run (next_table t line lines sizes) onward).log ≡ map (report_on line) (all_departures (run t calls).log)
    → Always (λ e log. Fares (next_table t line lines sizes) e) (run (next_table t line lines sizes) onward).log

-- the rows of a table are among the links of another
abbrev pub RowsAmong : Table → ℕ → List VirtualLink → Type 0
RowsAmong t line links = (i : ℕ) → i < length t.links → (j : ℕ) × (j < length links) × (link_at links j ≡ next_link t line (link_at t.links i))

-- the same where the next table has further links, and the departures are reported among waits and frames of other lines, all in order of
-- their ticks
abbrev pub TwoPortsAmongOthers : Type 0
TwoPortsAmongOthers = (t : Table) → bounds_refusal t ≡ 0 → (line : ℕ) (u : Table) → RowsAmong t line u.links → table_refusal u ≡ 0
    → (calls onward : List Call) → InOrder (run u onward).log → handed_on line (run u onward).log ≡ all_departures (run t calls).log
    → Always (λ e log. IsOn line e.report → Fares u e) (run u onward).log
