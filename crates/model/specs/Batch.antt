-- A batch: reports in numbers, answered one after the other; and the same through the C interface, in bytes.
use Rattle.std.specs.Prelude.{Bool, true, false, ◌&&◌, not, ℕ, zero, suc, ◌+◌, ◌*◌, ◌/◌, ◌%◌, eqb, leb, ltb, length, take, drop}
use mathlib.Core.List.{List, [], ◌∷◌, ◌++◌, flat_map}
use Rattle.model.specs.Basics.{Check, check, first_met}
use Rattle.model.specs.Table.{Table}
use Rattle.model.specs.TableFile.{to_bytes, number_at, read_table}
use Rattle.model.specs.Port.{Port, fresh}
use Rattle.model.specs.Report.{Report, wait, frame, Call, step}
use Rattle.model.specs.Run.{Entry, History}

-- ---- reports in numbers

-- "a list of reports, each five 64-bit numbers: form (0 wait, 1 frame), tick, line, number, length; for a wait the last three are not read"
unfoldable pub report_of : ℕ → ℕ → ℕ → ℕ → ℕ → Report
report_of zero time line number len = wait time
report_of (suc form) time line number len = frame time line number len

unfoldable pub reports_in : List ℕ → List Report
reports_in [] = []
reports_in (form ∷ []) = []
reports_in (form ∷ time ∷ []) = []
reports_in (form ∷ time ∷ line ∷ []) = []
reports_in (form ∷ time ∷ line ∷ number ∷ []) = []
reports_in (form ∷ time ∷ line ∷ number ∷ len ∷ more) = report_of form time line number len ∷ reports_in more

-- not 19: "list length not a multiple of 5 or an unknown form"
unfoldable pub are_reports : List ℕ → Bool
are_reports [] = true
are_reports (form ∷ []) = false
are_reports (form ∷ time ∷ []) = false
are_reports (form ∷ time ∷ line ∷ []) = false
are_reports (form ∷ time ∷ line ∷ number ∷ []) = false
are_reports (form ∷ time ∷ line ∷ number ∷ len ∷ more) = leb form 1 && are_reports more

-- 20: "answer list too short for three numbers a report", by the numbers that it has room for and the reports
abbrev pub answers_check : ℕ → ℕ → Check
answers_check room reports = check 20 (ltb room (3 * reports))

-- "both before the first report, in that order": reports, and the room for answers
unfoldable pub batch_refusal : List ℕ → ℕ → ℕ
batch_refusal reports room = first_met (check 19 (not (are_reports reports)) ∷ answers_check room (length reports / 5) ∷ [])

-- ---- the reports, one after the other

-- the port handed back last; and each report with its answer and the list as it left it, in order
pub record Batched : Type 0 where
  pub port : Port
  pub entries : List Entry

-- "The departures of all reports follow one another in the departure list. Port, answers and departures equal those of the single calls in
-- that order, each lent the rest of the list"
unfoldable pub batch : Table → Port → List Report → List ℕ → Batched
batch t s [] list = record { port = s; entries = [] }
batch t s (r ∷ reports) list =
    let a = step t s (record { report = r; list = list }) in
    let rest = batch t a.port reports (drop (3 * a.answer.frames) a.list) in
    record { port = rest.port; entries = record { report = r; answer = a.answer; list = a.list } ∷ rest.entries }

-- "It writes three numbers per report: refusal number or 0, verdict, frames freed; the last two are 0 for a refusal"
abbrev pub answer_numbers : Entry → List ℕ
answer_numbers e = e.answer.refused ∷ e.answer.verdict ∷ e.answer.frames ∷ []

-- the departures of a report: the first 3 × frames numbers of its list
abbrev pub departure_numbers : Entry → List ℕ
departure_numbers e = take (3 * e.answer.frames) e.list

unfoldable pub frames_freed : List Entry → ℕ
frames_freed [] = 0
frames_freed (e ∷ entries) = e.answer.frames + frames_freed entries

-- a lent list with numbers, or bytes, put at its start; what is behind them is as found
abbrev pub over : List ℕ → List ℕ → List ℕ
over new old = new ++ drop (length new) old

-- ---- the call on a port

-- 0 or the refusal, the port, the two lists afterwards, and how many departures were written
pub record BatchOutcome : Type 0 where
  pub refused : ℕ
  pub port : Port
  pub answers : List ℕ
  pub list : List ℕ
  pub departures : ℕ

unfoldable pub batch_or : ℕ → Table → Port → List ℕ → List ℕ → List ℕ → BatchOutcome
batch_or zero t s reports answers list =
    let b = batch t s (reports_in reports) list in
    record {
      refused = 0;
      port = b.port;
      answers = over (flat_map answer_numbers b.entries) answers;
      list = over (flat_map departure_numbers b.entries) list;
      departures = frames_freed b.entries;
    }
batch_or (suc n) t s reports answers list = record { refused = suc n; port = s; answers = answers; list = list; departures = 0 }

unfoldable pub answer_batch : Table → Port → List ℕ → List ℕ → List ℕ → BatchOutcome
answer_batch t s reports answers list = batch_or (batch_refusal reports (length answers)) t s reports answers list

-- ---- through the C interface: "on byte slices with each number in 8 little-endian bytes"

-- the first n numbers of a run of bytes; "only whole numbers count"
unfoldable pub numbers_of : ℕ → List ℕ → List ℕ
numbers_of zero bytes = []
numbers_of (suc n) bytes = number_at 0 8 bytes ∷ numbers_of n (drop 8 bytes)

abbrev pub numbers_in : List ℕ → List ℕ
numbers_in bytes = numbers_of (length bytes / 8) bytes

abbrev pub bytes_of : List ℕ → List ℕ
bytes_of numbers = flat_map (to_bytes 8) numbers

-- 19: "A report list that is no multiple of 40 bytes", or an unknown form; then 20
unfoldable pub bytes_refusal : List ℕ → ℕ → ℕ
bytes_refusal reports room =
    first_met (
    check 19 (not (eqb (length reports % 40) 0 && are_reports (numbers_in reports)))
    ∷ answers_check (room / 8) (length reports / 40)
    ∷ []
    )

-- a refusal or 0, and the two runs of bytes afterwards
pub record BytesOutcome : Type 0 where
  pub refused : ℕ
  pub answers : List ℕ
  pub list : List ℕ

unfoldable pub bytes_or : ℕ → Table → List ℕ → List ℕ → List ℕ → BytesOutcome
bytes_or zero t reports answers list =
    let b = batch t (fresh t) (reports_in (numbers_in reports)) (numbers_in list) in
    record {
      refused = 0;
      answers = over (bytes_of (flat_map answer_numbers b.entries)) answers;
      list = over (bytes_of (flat_map departure_numbers b.entries)) list;
    }
bytes_or (suc n) t reports answers list = record { refused = suc n; answers = answers; list = list }

-- the file's refusal, or that of the lists
unfoldable pub file_or : ℕ → Table → List ℕ → List ℕ → List ℕ → BytesOutcome
file_or zero t reports answers list = bytes_or (bytes_refusal reports (length answers)) t reports answers list
file_or (suc n) t reports answers list = record { refused = suc n; answers = answers; list = list }

-- "the call takes a table file, starts from its fresh port and returns a refusal or 0; refusals of the file come before all others"
unfoldable pub batch_file : List ℕ → List ℕ → List ℕ → List ℕ → BytesOutcome
batch_file file reports answers list = file_or (read_table file).refused (read_table file).table reports answers list

-- ---- batches among single calls

pub data Turn : Type 0 where
  single : Call → Turn
  -- reports, and the list that they are lent
  several : List Report → List ℕ → Turn

-- a log, the latest first, with entries in order put before it
unfoldable pub logged : List Entry → List Entry → List Entry
logged [] log = log
logged (e ∷ entries) log = logged entries (e ∷ log)

unfoldable pub turn : Table → History → Turn → History
turn t h (single c) =
    let s = step t h.port c in
    record { port = s.port; log = record { report = c.report; answer = s.answer; list = s.list } ∷ h.log }
turn t h (several reports list) = let b = batch t h.port reports list in record { port = b.port; log = logged b.entries h.log }

-- a list of turns, the latest first, from a fresh port: as `run`, with batches among the single calls
unfoldable pub run_turns : Table → List Turn → History
run_turns t [] = record { port = fresh t; log = [] }
run_turns t (u ∷ turns) = turn t (run_turns t turns) u
