-- Lists of reports with their answers; the words of demand 3, by the reports and answers alone; demand 3.
use Rattle.std.specs.Prelude.{◌≡◌, Bool, true, false, cond, ◌&&◌, not, List, [], ◌∷◌, ◌++◌, ℕ, zero, suc, ◌+◌, ◌*◌, ◌≤◌, ◌<◌, max, eqb, length, get_or, drop}
use Rattle.std.proofs.Math.Option.{Option, none, some}
use Rattle.model.specs.Basics.{provided, Each}
use Rattle.model.specs.Link.{VirtualLink, bag, link_at, place_of}
use Rattle.model.specs.Table.{Table, size_of}
use Rattle.model.specs.Bounds.{hold, bound}
use Rattle.model.specs.Machine.{Frame, Departure, queue_of, held}
use Rattle.model.specs.Port.{Port, mark_of, fresh}
use Rattle.model.specs.Report.{Report, wait, frame, tick_of, arrived, Answer, Call, step}

-- a report, its answer, and the departure list as the call left it
pub record Entry : Type 0 where
  pub report : Report
  pub answer : Answer
  pub list : List ℕ

-- the port that the last report handed back, and what was reported and answered, the latest first
pub record History : Type 0 where
  pub port : Port
  pub log : List Entry

-- a list of calls, the latest first, from a fresh port; in demand 3's words "each report given the port that the one before handed back"
unfoldable pub run : Table → List Call → History
run t [] = record { port = fresh t; log = [] }
run t (c ∷ calls) =
    let before = run t calls in
    let s = step t before.port c in
    record { port = s.port; log = record { report = c.report; answer = s.answer; list = s.list } ∷ before.log }

-- ---- the words of demand 3

-- "A report is accepted if it is not refused"
unfoldable pub accepted : Answer → Bool
accepted a = eqb a.refused 0

-- the frame of an accepted frame report, "at its tick T", if its verdict is one of those meant
unfoldable pub frame_if : (ℕ → Bool) → Report → Answer → Option Frame
frame_if meant (wait time) a = none
frame_if meant (frame time line number len) a = cond (accepted a && meant a.verdict) (some (arrived number len time)) none

-- "Stored, policed and dropped are verdicts 0, 2 and 3 of an accepted frame report"
unfoldable pub stored_by : Entry → Option Frame
stored_by e = frame_if (eqb 0) e.report e.answer

unfoldable pub policed_by : Entry → Option Frame
policed_by e = frame_if (eqb 2) e.report e.answer

unfoldable pub dropped_by : Entry → Option Frame
dropped_by e = frame_if (eqb 3) e.report e.answer

-- "A frame passed the police check if its report was accepted with a verdict other than 1 and 2"
unfoldable pub passed_by : Entry → Option Frame
passed_by e = frame_if (λ verdict. not (eqb verdict 1) && not (eqb verdict 2)) e.report e.answer

-- a frame "that the filter lets through": a verdict other than 1
unfoldable pub through_by : Entry → Option Frame
through_by e = frame_if (λ verdict. not (eqb verdict 1)) e.report e.answer

-- the departures of an accepted report: the first 3 × frames numbers of its list, "three each: number, length, tick freed"
unfoldable pub departures_in : ℕ → List ℕ → List Departure
departures_in zero list = []
departures_in (suc k) list = record { number = get_or list 0 0; length = get_or list 1 0; freed = get_or list 2 0 } ∷ departures_in k (drop 3 list)

unfoldable pub departures_by : Entry → List Departure
departures_by e = cond (accepted e.answer) (departures_in e.answer.frames e.list) []

-- "each takes away the oldest held frame of its number"
unfoldable pub without : ℕ → List Frame → List Frame
without n [] = []
without n (f ∷ frames) = cond (eqb f.number n) frames (f ∷ without n frames)

unfoldable pub without_all : List Departure → List Frame → List Frame
without_all [] frames = frames
without_all (d ∷ departures) frames = without_all departures (without d.number frames)

unfoldable pub and_last : Option Frame → List Frame → List Frame
and_last none frames = frames
and_last (some f) frames = frames ++ (f ∷ [])

-- "With each accepted report, its departures come first .. Then its frame, if stored, is held". Oldest first
unfoldable pub held_frames : List Entry → List Frame
held_frames [] = []
held_frames (e ∷ log) = and_last (stored_by e) (without_all (departures_by e) (held_frames log))

-- "the held frames of its priority"
unfoldable pub is_priority : Table → ℕ → Option ℕ → Bool
is_priority t p none = false
is_priority t p (some i) = eqb (link_at t.links i).priority p

unfoldable pub has_priority : Table → ℕ → Frame → Bool
has_priority t p f = is_priority t p (place_of f.number t.links)

unfoldable pub only : (Frame → Bool) → List Frame → List Frame
only test [] = []
only test (f ∷ frames) = cond (test f) (f ∷ only test frames) (only test frames)

unfoldable pub held_of : Table → ℕ → List Entry → List Frame
held_of t p log = only (has_priority t p) (held_frames log)

-- "What it has held are these sums at the start, where they are 0, and after each report": the greatest of them
unfoldable pub most_held : Table → ℕ → List Entry → ℕ
most_held t p [] = 0
most_held t p (e ∷ log) = max (most_held t p log) (held (held_of t p (e ∷ log)))

-- the ticks of the frames of a number among those that the entries give, in order
unfoldable pub and_tick : ℕ → Option Frame → List ℕ → List ℕ
and_tick n none ticks = ticks
and_tick n (some f) ticks = cond (eqb f.number n) (ticks ++ (f.arrival ∷ [])) ticks

unfoldable pub ticks_of : (Entry → Option Frame) → ℕ → List Entry → List ℕ
ticks_of given n [] = []
ticks_of given n (e ∷ log) = and_tick n (given e) (ticks_of given n log)

-- "the i-th and (i + j)-th at least j × B − J ticks apart, for all i and j from 1"; here i counts from 0
unfoldable pub KeepBagAndJitter : VirtualLink → List ℕ → Type 0
KeepBagAndJitter v ticks = (i j : ℕ) → 1 ≤ j → i + j < length ticks → get_or ticks i 0 + j * bag v ≤ get_or ticks (i + j) 0 + v.jitter

-- "A link keeps BAG and jitter if its frames in accepted reports that the filter lets through" do
abbrev pub LinkKeeps : VirtualLink → List Entry → Type 0
LinkKeeps v log = KeepBagAndJitter v (ticks_of through_by v.number log)

-- an accepted frame report whose number and verdict are meant
unfoldable pub reports_frame : (ℕ → ℕ → Bool) → Report → Answer → Bool
reports_frame meant (wait time) a = false
reports_frame meant (frame time line number len) a = accepted a && meant number a.verdict

-- how many there are
unfoldable pub frames_reported : (ℕ → ℕ → Bool) → List Entry → ℕ
frames_reported meant [] = 0
frames_reported meant (e ∷ log) = provided (reports_frame meant e.report e.answer) 1 + frames_reported meant log

-- so it is of every entry, with the log before it
pub data Always (P : Entry → List Entry → Type 0) : List Entry → Type 0 where
  start : Always P []
  then : {e : Entry} {log : List Entry} → P e log → Always P log → Always P (e ∷ log)

-- ---- demand 3, of a history h on table t; the words in quotes are the demand's. The log is the latest first, and a frame that the filter
-- lets through has a link of the table, so the clauses on priorities and links leave none out. The bound and the hold of each priority are given
pub record DemandBy (boundOf hold_of : ℕ → ℕ) (t : Table) (h : History) : Type 0 where
  -- "each priority's queue is its held frames, oldest first"
  pub queue : (p : ℕ) → p < 8 → queue_of h.port.scheduler.queues p ≡ held_of t p h.log
  -- "each buffer holds, and has held, at most its bound": most_held has what it holds now among the sums
  pub within : (p : ℕ) → p < 8 → most_held t p h.log ≤ boundOf p
  -- "and its mark is the most it has held"
  pub mark : (p : ℕ) → p < 8 → mark_of h.port p ≡ most_held t p h.log
  -- "no frame stored at t is still held after an accepted report at t + its priority's hold or later"
  pub in_time : (p : ℕ) → p < 8 → Always (λ e log. accepted e.answer ≡ true → Each (λ f. tick_of e.report < f.arrival + hold_of p) (held_of t p (e ∷ log))) h.log
  -- "no frame that passed the police check is dropped where the size is at least the bound"
  pub no_drop : (p : ℕ) → p < 8 → boundOf p ≤ size_of t p → Always (λ e log. (f : Frame) → dropped_by e ≡ some f → has_priority t p f ≡ true → ⊥) h.log
  -- "a link that keeps BAG and jitter has none of its frames policed"
  pub not_policed : (i : ℕ) → i < length t.links → LinkKeeps (link_at t.links i) h.log
      → Always (λ e log. (f : Frame) → policed_by e ≡ some f → f.number ≡ (link_at t.links i).number → ⊥) h.log

-- with those that the paper defines
abbrev pub Demand3 : Table → History → Type 0
Demand3 t h = DemandBy (bound t) (hold t) t h
