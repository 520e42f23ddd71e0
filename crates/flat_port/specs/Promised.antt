-- What a report to a port asks and promises.
use Rattle.std.specs.Prelude.{◌≡◌, List, [], ◌∷◌, map, ℕ, zero, suc, ◌+◌, ◌*◌, ◌≤◌, ◌<◌, length, get_or, drop, Result, Ok, Err}
use Rattle.model.specs.Basics.{entries, first_met, first_refusal}
use Rattle.model.specs.Units.{occupied, most_frames}
use Rattle.model.specs.Table.{Table, size_of, table_refusal}
use Rattle.model.specs.Machine.{Sender, frames_held}
use Rattle.model.specs.Port.{Port, with_counters}
use Rattle.model.specs.Report.{Report, report_checks, room_check, Judged, judged, judge_report, counted_by, Stepped, step}
use Rattle.refusal.specs.declared.Refusal.{Refusal}
use Rattle.refusal.specs.Numbers.{number_of}
use Rattle.port_refusals.specs.Verdicts.{verdict_or_0}
use Rattle.port_policing.specs.Check.{view_account}
use Rattle.flat_port.specs.declared.State.{State}
use Rattle.flat_port.specs.declared.Lists.{Lists}
use Rattle.flat_port.specs.declared.FlatPort.{FlatPort}
use Rattle.flat_port.specs.declared.Accepted.{Accepted}
use Rattle.flat_port.specs.Lists.{queues_in, view_lists, view_flat, Held, Stands}

abbrev pub refusal_by : State → ℕ → List ℕ → Report → ℕ → ℕ
refusal_by s lines ticks r room =
    first_refusal (first_met (report_checks s.clock lines (entries 0 lines ticks) r)) (first_met (room_check s.frames room ∷ []))

-- what the refusals leave: a table that passes, a line of it, queues in which a frame of that length has a place if it has room
pub record Arrived (t : Table) (l : Lists) (line len : ℕ) : Type 0 where
  pub table : table_refusal t ≡ 0
  pub holds : Held l
  pub line_in : line < t.lines
  pub room : (p : ℕ) → p < 8 → get_or l.rings.held p 0 + occupied len ≤ size_of t p → get_or l.rings.counts p 0 < most_frames

-- one frame more, if it was stored
unfoldable pub stored_by : ℕ → ℕ
stored_by zero = 1
stored_by (suc n) = 0

-- the model's verdict on a report to a port that has advanced to its tick, and the frame counted by it
abbrev pub judge_counted : Table → Report → Port → Judged
judge_counted t r s = let j = judge_report t s r in judged (with_counters j.port (counted_by t r j.verdict j.port.counters)) j.verdict

-- what stands behind the table's counts stays
pub record Behind (t : Table) (l l' : Lists) : Type 0 where
  pub lines : drop t.lines l'.ticks ≡ drop t.lines l.ticks
  pub accounts : drop (length t.links) (map view_account l'.accounts) ≡ drop (length t.links) (map view_account l.accounts)
  pub tallies : (k : ℕ) → 5 * length t.links ≤ k → k < 1280 → get_or l'.tallies k 0 ≡ get_or l.tallies k 0

-- verdict and port are those that the model gives, whatever the clock and whoever sends
pub record Gives (t : Table) (l : Lists) (judge : Port → Judged) (verdict : ℕ) (l' : Lists) : Type 0 where
  pub verdict_is : (clock : ℕ) (sender : Sender) → verdict ≡ (judge (view_lists t clock sender l)).verdict
  pub port : (clock : ℕ) (sender : Sender) → view_lists t clock sender l' ≡ (judge (view_lists t clock sender l)).port
  pub holds : Held l'
  pub frames : frames_held (queues_in l') ≡ frames_held (queues_in l) + stored_by verdict
  pub behind : Behind t l l'

-- and the heads of the rings stay
pub record GivesInPlace (t : Table) (l : Lists) (judge : Port → Judged) (verdict : ℕ) (l' : Lists) : Type 0 where
  pub gives : Gives t l judge verdict l'
  pub heads : l'.rings.heads ≡ l.rings.heads

-- the numbers of an answer: "refusal number or 0, verdict, frames freed; the last two are 0 for a refusal"
pub record Reported : Type 0 where
  pub refused : ℕ
  pub verdict : ℕ
  pub frames : ℕ

abbrev pub answered : Result Accepted Refusal → Reported
answered (Ok a) = record { refused = 0; verdict = verdict_or_0 a.verdict; frames = a.frames }
answered (Err r) = record { refused = number_of r; verdict = 0; frames = 0 }

abbrev pub answer_numbers : Result Accepted Refusal → List ℕ
answer_numbers outcome = let a = answered outcome in a.refused ∷ a.verdict ∷ a.frames ∷ []

-- the answer, the port and the whole list afterwards are those of the model's step
abbrev pub step_of : Table → FlatPort → Report → List ℕ → Stepped
step_of t p r list = step t (view_flat t p) (record { report = r; list = list })

pub record Reports (t : Table) (p : FlatPort) (r : Report) (before after : List ℕ) (a : Reported) (p' : FlatPort) : Type 0 where
  pub refused : a.refused ≡ (step_of t p r before).answer.refused
  pub verdict : a.verdict ≡ (step_of t p r before).answer.verdict
  pub frames : a.frames ≡ (step_of t p r before).answer.frames
  pub list : after ≡ (step_of t p r before).list
  pub port : view_flat t p' ≡ (step_of t p r before).port
  pub stands : Stands t p'
  pub behind : Behind t p.lists p'.lists
