-- What is reported to the next port: the departures of the port that feeds one of its lines. A log has the latest first.
use Rattle.std.specs.Prelude.{◌≡◌, cond, List, [], ◌∷◌, ◌++◌, ℕ, ◌≤◌, eqb}
use Rattle.model.specs.Machine.{Departure}
use Rattle.model.specs.Report.{Report, wait, frame, tick_of}
use Rattle.model.specs.Run.{Entry}

-- the reports of a log, in order
unfoldable pub reported : List Entry → List Report
reported [] = []
reported (e ∷ log) = reported log ++ (e.report ∷ [])

-- a departure, reported "at its tick" on the chosen line
abbrev pub report_on : ℕ → Departure → Report
report_on line d = frame d.freed line d.number d.length

-- a report is of a frame on the line
unfoldable pub IsOn : ℕ → Report → Type 0
IsOn line (wait time) = ⊥
IsOn line (frame time on number len) = on ≡ line

-- the frames that a log reports on a line, in order, as departures of the port that feeds the line
unfoldable pub handed_by : ℕ → Report → List Departure
handed_by line (wait time) = []
handed_by line (frame time on number len) = cond (eqb on line) (record { number = number; length = len; freed = time } ∷ []) []

unfoldable pub handed_on : ℕ → List Entry → List Departure
handed_on line [] = []
handed_on line (e ∷ log) = handed_on line log ++ handed_by line e.report

-- "in order of ticks": of a log, refused reports among them, no tick is below the one before
unfoldable pub latest : List Entry → ℕ
latest [] = 0
latest (e ∷ log) = tick_of e.report

unfoldable pub InOrder : List Entry → Type 0
InOrder [] = Unit {0}
InOrder (e ∷ log) = (latest log ≤ tick_of e.report) × InOrder log
