-- What a report does: refusals in order, advance, filter, police check, store.
use Rattle.std.specs.Prelude.{Bool, true, false, cond, not, ℕ, zero, suc, ◌+◌, ◌-◌, ◌*◌, min, max, eqb, leb, ltb, length, set, drop}
use Rattle.std.proofs.Math.Option.{Option, none, some}
use mathlib.Core.List.{List, [], ◌∷◌, ◌++◌, flat_map}
use Rattle.model.specs.Basics.{all_hold, Check, check, first_met}
use Rattle.model.specs.Units.{last_tick, least_length, greatest_length, occupied}
use Rattle.model.specs.Link.{VirtualLink, bag, link_at, place_of}
use Rattle.model.specs.Table.{Table, size_of}
use Rattle.model.specs.Machine.{Frame, Departure, queue_of, advance, queued_last, stored, held, frames_held}
use Rattle.model.specs.Counters.{Counters, counted}
use Rattle.model.specs.Port.{Account, Gate, Port, account_at, line_tick, mark_of, with_scheduler, with_gate, with_counters, with_line_tick, with_account}
use Rattle.model.specs.Fitness.{fit}

-- ---- reports and their refusals

pub data Report : Type 0 where
  -- tick
  wait : ℕ → Report
  -- "A frame report (tick T, line, number, length)"
  frame : ℕ → ℕ → ℕ → ℕ → Report

unfoldable pub tick_of : Report → ℕ
tick_of (wait time) = time
tick_of (frame time line number len) = time

-- 10: "port not fit"
abbrev pub fit_check : Table → Port → Check
fit_check t s = check 10 (not (fit t s))

-- 13 to 15, of a frame report alone, by the line count and the line ticks
unfoldable pub frame_checks : ℕ → List ℕ → Report → List Check
frame_checks lines ticks (wait time) = []
frame_checks lines ticks (frame time line number len) =
    check 13 (leb lines line)
    ∷ check 14 (not (all_hold (leb least_length len ∷ leb len greatest_length ∷ [])))
    ∷ check 15 (ltb time (line_tick ticks line + len))
    ∷ []

-- 11 to 15, of a port that is fit, by its clock too: "then T above 2^48 − 1", "then T below clock", then those of a frame
unfoldable pub report_checks : ℕ → ℕ → List ℕ → Report → List Check
report_checks clock lines ticks r = check 11 (ltb last_tick (tick_of r)) ∷ check 12 (ltb (tick_of r) clock) ∷ frame_checks lines ticks r

-- 16: "last: list shorter than 3 × frames held before the report"
abbrev pub room_check : ℕ → ℕ → Check
room_check frames room = check 16 (ltb room (3 * frames))

-- 10 to 16, of a report that is lent a list of that length
unfoldable pub all_checks : Table → Port → Report → ℕ → List Check
all_checks t s r room =
    fit_check t s
    ∷ report_checks s.scheduler.clock t.lines s.gate.line_ticks r
    ++ (room_check (frames_held s.scheduler.queues) room ∷ [])

-- 0, or the first of them that it meets
unfoldable pub report_refusal : Table → Port → Report → ℕ → ℕ
report_refusal t s r room = first_met (all_checks t s r room)

-- ---- the verdict of a frame that arrived

-- the port after it, and the verdict
pub record Judged : Type 0 where
  pub port : Port
  pub verdict : ℕ

abbrev pub judged : Port → ℕ → Judged
judged s verdict = record { port = s; verdict = verdict }

-- "filtered (1): no such number, another line, or a length outside its limits"
unfoldable pub admits : VirtualLink → ℕ → ℕ → Bool
admits v line len = all_hold (eqb v.line line ∷ leb v.least len ∷ leb len v.greatest ∷ [])

-- the place of the link, if the filter lets the frame through
unfoldable pub admitted : Table → ℕ → ℕ → Option ℕ → Option ℕ
admitted t line len none = none
admitted t line len (some i) = cond (admits (link_at t.links i) line len) (some i) none

-- ---- the police check: it changes the gate alone

-- "credit becomes the smaller of B + J and credit + T − its tick, its tick becomes T"; B and J first
unfoldable pub replenished : ℕ → ℕ → Account → ℕ → Account
replenished B J a time = record { credit = min (B + J) (a.credit + (time - a.tick)); tick = time }

-- "otherwise B is taken off"
unfoldable pub charged : ℕ → Account → Account
charged B a = record { credit = a.credit - B; tick = a.tick }

-- whether a frame passes, and the account after it
pub record Checked : Type 0 where
  pub passed : Bool
  pub account : Account

-- "policed (2): .. and credit is below B"
unfoldable pub checked_if : Bool → ℕ → Account → Checked
checked_if false B a = record { passed = false; account = a }
checked_if true B a = record { passed = true; account = charged B a }

unfoldable pub police : ℕ → ℕ → Account → ℕ → Checked
police B J a time = let r = replenished B J a time in checked_if (leb B r.credit) B r

-- the check of the account at place i, where it stands: whether a frame passes, and the gate after it
pub record Policed : Type 0 where
  pub passed : Bool
  pub gate : Gate

unfoldable pub police_at : ℕ → ℕ → Gate → ℕ → ℕ → Policed
police_at B J g i time =
    let c = police B J (account_at g.accounts i) time in
    record { passed = c.passed; gate = with_account g i c.account }

-- ---- the store: it changes the scheduler and the marks alone

-- not "held bytes + length exceed the size", the length being what the frame occupies: size, queue, frame
unfoldable pub has_room : ℕ → List Frame → Frame → Bool
has_room size queue f = leb (held queue + occupied f.length) size

-- "dropped (3)"; "stored (0): otherwise; queued last, and the mark rises to the held bytes if they are more"
unfoldable pub stored_if : Bool → Port → ℕ → Frame → Judged
stored_if false s p f = judged s 3
stored_if true s p f =
    judged
    (record {
      scheduler = stored s.scheduler p f;
      marks = set s.marks p (max (mark_of s p) (held (queue_of (queued_last s.scheduler.queues p f) p)));
      gate = s.gate;
      counters = s.counters;
    })
    0

unfoldable pub store : Table → Port → ℕ → Frame → Judged
store t s p f = stored_if (has_room (size_of t p) (queue_of s.scheduler.queues p) f) s p f

-- ---- filter, police check, store

-- of a port after the police check: policed (2), or stored or dropped
unfoldable pub passed_if : Bool → Table → Port → ℕ → Frame → Judged
passed_if false t s p f = judged s 2
passed_if true t s p f = store t s p f

unfoldable pub judge : Table → Port → Frame → Option ℕ → Judged
judge t s f none = judged s 1
judge t s f (some i) =
    let v = link_at t.links i in
    let c = police_at (bag v) v.jitter s.gate i f.arrival in
    passed_if c.passed t (with_gate s c.gate) v.priority f

-- ---- a report

-- "the answer of each report: verdict (0 for a wait), frames freed, bytes freed"
pub record Answer : Type 0 where
  -- 0, or the number of the refusal
  pub refused : ℕ
  pub verdict : ℕ
  pub frames : ℕ
  pub bytes : ℕ

-- a report, and the departure list that it is lent
pub record Call : Type 0 where
  pub report : Report
  pub list : List ℕ

-- the port and the list handed back, and the answer
pub record Stepped : Type 0 where
  pub port : Port
  pub answer : Answer
  pub list : List ℕ

abbrev pub arrived : ℕ → ℕ → ℕ → Frame
arrived number len time = record { number = number; length = len; arrival = time }

-- of a report to a port that has advanced to its tick: "A frame report .. sets the line's tick to T, then gives a verdict"; "0 for a wait"
unfoldable pub judge_report : Table → Port → Report → Judged
judge_report t s (wait time) = judged s 0
judge_report t s (frame time line number len) =
    judge t (with_gate s (with_line_tick s.gate line time)) (arrived number len time) (admitted t line len (place_of number t.links))

-- "A frame of a known number on another line counts as filtered under that number": it counts by its number alone. A wait counts nothing
unfoldable pub counted_by : Table → Report → ℕ → Counters → Counters
counted_by t (wait time) verdict c = c
counted_by t (frame time line number len) verdict c = counted (place_of number t.links) verdict c

-- "Departures go to a lent list .. three each: number, length, tick freed; the rest of the list stays"
abbrev pub three_numbers : Departure → List ℕ
three_numbers d = d.number ∷ d.length ∷ d.freed ∷ []

abbrev pub listed : List Departure → List ℕ → List ℕ
listed departures list = flat_map three_numbers departures ++ drop (3 * length departures) list

-- "bytes freed": what the frames occupied
unfoldable pub bytes_freed : List Departure → ℕ
bytes_freed [] = 0
bytes_freed (d ∷ departures) = occupied d.length + bytes_freed departures

abbrev pub answered : ℕ → List Departure → Answer
answered verdict departures = record { refused = 0; verdict = verdict; frames = length departures; bytes = bytes_freed departures }

abbrev pub refusal : ℕ → Answer
refusal n = record { refused = n; verdict = 0; frames = 0; bytes = 0 }

-- a report "advances", then is judged, and counts. "A refusal returns its number, .. for a report the same port and no verdict or counts, and writes to no lent buffer"
unfoldable pub accepted_or : ℕ → Table → Port → Call → Stepped
accepted_or zero t s c =
    let a = advance (tick_of c.report) s.scheduler in
    let j = judge_report t (with_scheduler s a.scheduler) c.report in
    let port = with_counters j.port (counted_by t c.report j.verdict j.port.counters) in
    record { port = port; answer = answered j.verdict a.departures; list = listed a.departures c.list }
accepted_or (suc n) t s c = record { port = s; answer = refusal (suc n); list = c.list }

unfoldable pub step : Table → Port → Call → Stepped
step t s c = accepted_or (report_refusal t s c.report (length c.list)) t s c
