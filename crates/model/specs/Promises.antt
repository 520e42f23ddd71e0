-- The theorems, each as a statement. proofs/Theorems.antt proves each under the same name in lower case.
use Rattle.std.specs.Prelude.{◌≡◌, ◌⊎◌, Bool, true, false, cond, ◌&&◌, not, List, [], ◌∷◌, ◌++◌, ℕ, ◌+◌, ◌-◌, ◌*◌, ◌%◌, ◌^◌, ◌≤◌, ◌<◌, eqb, leb, length, get_or}
use Rattle.std.proofs.Math.Option.{Option, none, some}
use Rattle.model.specs.Basics.{eight, all_to, Check, check, first_met}
use Rattle.model.specs.Units.{line_capacity, full_count}
use Rattle.model.specs.Link.{VirtualLink, bag_of, standard_bags, link_at, place_of, members_of, any_of, sum_over, greatest_over}
use Rattle.model.specs.Table.{Table, size_of, count_checks, links_checks, reservation, none_oversold, line_checks, size_checks, table_refusal}
use Rattle.model.specs.Digits.{digits_of, from_digits, AllDigits}
use Rattle.model.specs.TableFile.{table_bytes, read_table, file_length}
use Rattle.model.specs.Arrival.{frame_curve, arrival_curve}
use Rattle.model.specs.Bounds.{of_priority, up_to, beyond, up_arrivals, blocking, hold_by, hold_of, backlog, is_there, bounds_refusal, hold, bound, window}
use Rattle.model.specs.NextTable.{next_links}
use Rattle.model.specs.JitterMargin.{with_jitter, jitter_fits, margin}
use Rattle.model.specs.OverloadCore.{with_links, core}
use Rattle.model.specs.Machine.{Frame, Departure, advance, frames_held}
use Rattle.model.specs.Counters.{verdicts, count_at, link_sums}
use Rattle.model.specs.Port.{Port}
use Rattle.model.specs.Fitness.{fit}
use Rattle.model.specs.Sums.{sums}
use Rattle.model.specs.Report.{Call, step}
use Rattle.model.specs.Run.{Entry, History, run, frames_reported, passed_by, departures_by, without, held_frames, has_priority, ticks_of, KeepBagAndJitter, Always, Demand3}
use Rattle.model.specs.Batch.{Turn, run_turns}
use Rattle.model.specs.Redundancy.{State, Presented, among, select, entry_of, hands_on, how_many, Refused, Copies, Selected}
use Rattle.model.specs.Redundancy as redundancy

-- Demand 2: "The table file reads and writes by the layout, each undoing the other"
abbrev pub ReadsWritten : Type 0
ReadsWritten = (t : Table) → table_refusal t ≡ 0 → read_table (table_bytes t) ≡ record { refused = 0; table = t }

abbrev pub WritesRead : Type 0
WritesRead = (file : List ℕ) → ((i : ℕ) → i < length file → get_or file i 0 < 256) → (read_table file).refused ≡ 0 → table_bytes (read_table file).table ≡ file

-- "A file has 44 + 18 × n bytes"
abbrev pub FileLength : Type 0
FileLength = (t : Table) → table_refusal t ≡ 0 → length (table_bytes t) ≡ file_length t

-- "That this gives the eight constants of document 01 for codes 0 to 7 is proved": the formula beside the standard's table
abbrev pub BagConstants : Type 0
BagConstants = eight bag_of ≡ standard_bags

-- ".. and no answer of any function changes": a code above 7 has the last of the eight, as before
abbrev pub LastBag : Type 0
LastBag = (code : ℕ) → 7 < code → bag_of code ≡ bag_of 7

-- Demand 3, "for every list of frame and wait reports, refused ones among them, from a fresh port whose table has bounds"
abbrev pub DemandThree : Type 0
DemandThree = (t : Table) → bounds_refusal t ≡ 0 → (calls : List Call) → Demand3 t (run t calls)

-- from a fresh port no report is refused with 10, whatever the list
abbrev pub NeverUnfit : Type 0
NeverUnfit = (t : Table) → table_refusal t ≡ 0 → (calls : List Call) → (fit t (run t calls).port ≡ true) × Always (λ e log. e.answer.refused ≡ 10 → ⊥) (run t calls).log

-- a report keeps fitness, from every fit port with eight queues and eight marks, as every port record has; and it keeps those eight
abbrev pub FitnessKept : Type 0
FitnessKept = (t : Table) (s : Port) (c : Call) → length s.scheduler.queues ≡ 8 → length s.marks ≡ 8 → fit t s ≡ true
    → (fit t (step t s c).port ≡ true) × (length (step t s c).port.scheduler.queues ≡ 8) × (length (step t s c).port.marks ≡ 8)

-- whatever the port, a report keeps the number of marks, line ticks and accounts
abbrev pub LengthsKept : Type 0
LengthsKept = (t : Table) (s : Port) (c : Call)
    → (length (step t s c).port.marks ≡ length s.marks)
    × (length (step t s c).port.gate.line_ticks ≡ length s.gate.line_ticks)
    × (length (step t s c).port.gate.accounts ≡ length s.gate.accounts)

-- ---- counts

-- of a history: "each count is the number of accepted frame reports it stands for", by reports and answers alone; "none reaches 2^52, and
-- the grand total is the number of all of them"
pub record CountsStand (t : Table) (h : History) : Type 0 where
  -- of the link's number, with that verdict
  pub each : (i verdict : ℕ) → i < length t.links → verdict < verdicts
      → count_at h.port.counters i verdict ≡ frames_reported (λ number given. eqb number (link_at t.links i).number && eqb given verdict) h.log
  -- of a number that no link has
  pub unknown : h.port.counters.unknown ≡ frames_reported (λ number given. not (is_there (place_of number t.links))) h.log
  pub below : (i verdict : ℕ) → i < length t.links → verdict < verdicts → count_at h.port.counters i verdict < full_count
  pub unknown_below : h.port.counters.unknown < full_count
  pub adds_up : sums t h.port
      ≡ record { refused = 0; sums = link_sums (length t.links) h.port.counters; has_total = true; total = frames_reported (λ number given. true) h.log }

-- "For every list of reports from a fresh port"
abbrev pub CountsAddUp : Type 0
CountsAddUp = (t : Table) → table_refusal t ≡ 0 → (calls : List Call) → CountsStand t (run t calls)

-- ---- batches

-- a list of single calls and batches is a list of single calls, with the same port and the same log
abbrev pub TurnsAreRuns : Type 0
TurnsAreRuns = (t : Table) (turns : List Turn) → (calls : List Call) × (run_turns t turns ≡ run t calls)

-- demand 3 of every mix of batches and single calls
abbrev pub DemandThreeOfTurns : Type 0
DemandThreeOfTurns = (t : Table) → bounds_refusal t ≡ 0 → (turns : List Turn) → Demand3 t (run_turns t turns)

-- ---- curves, holds and bounds

-- a weight on lengths: it grows with the length and is never more
pub record Weight (weight : ℕ → ℕ) : Type 0 where
  pub grows : (a b : ℕ) → a ≤ b → weight a ≤ weight b
  pub below : (a : ℕ) → weight a ≤ a

-- A is monotone in w, for any set of links and any weight
abbrev pub CurveGrows : Type 0
CurveGrows = (weight : ℕ → ℕ) (set : VirtualLink → Bool) (lines : ℕ) (links : List VirtualLink) (w w' : ℕ) → w ≤ w'
    → arrival_curve weight set lines links w ≤ arrival_curve weight set lines links w'

-- w is "the smallest w from 1 to 65,536 with b + A_up(w − 1) ≤ w"
pub record IsHold (t : Table) (p w : ℕ) : Type 0 where
  pub least_is : 1 ≤ w
  pub most_is : w ≤ 65_536
  pub holds : blocking t p + up_arrivals t p (w - 1) ≤ w
  pub smallest : (k : ℕ) → 1 ≤ k → k < w → k < blocking t p + up_arrivals t p (k - 1)

-- hold_of gives it, or there is none
abbrev pub HoldIsSmallest : Type 0
HoldIsSmallest = (t : Table) (p : ℕ) → ((w : ℕ) → hold_of t p ≡ some w → IsHold t p w) × (hold_of t p ≡ none → (w : ℕ) → 1 ≤ w → w ≤ 65_536 → w < blocking t p + up_arrivals t p (w - 1))

-- the hold grows with b and A, as of two tables: where the greater have a hold, the smaller have one that is no later; where the smaller
-- have none, the greater have none
abbrev pub HoldGrows : Type 0
HoldGrows = (b b' : ℕ) (up up' : ℕ → ℕ) → b ≤ b' → ((w : ℕ) → up w ≤ up' w)
    → ((h' : ℕ) → hold_by b' up' ≡ some h' → (h : ℕ) × (hold_by b up ≡ some h) × (h ≤ h')) × (hold_by b up ≡ none → hold_by b' up' ≡ none)

-- of a table that has bounds: the bound is the greatest amount, it is first attained at the window, and the difference in it is never
-- truncated
pub record BoundFacts (t : Table) (p : ℕ) : Type 0 where
  pub is_hold : IsHold t p (hold t p)
  pub greatest : (w : ℕ) → w < hold t p → backlog t p w ≤ bound t p
  pub within : window t p < hold t p
  pub attained : backlog t p (window t p) ≡ bound t p
  pub earlier : (w : ℕ) → w < window t p → backlog t p w < bound t p
  pub unused : any_of (of_priority p) t.links ≡ false → (bound t p ≡ 0) × (window t p ≡ 0)
  pub untruncated : (w : ℕ) → w < hold t p → w - blocking t p ≤ up_arrivals t p w
  pub small : (w : ℕ) → w < hold t p → up_arrivals t p w ≤ 65_536

abbrev pub BoundIsGreatest : Type 0
BoundIsGreatest = (t : Table) → bounds_refusal t ≡ 0 → (p : ℕ) → p < 8 → BoundFacts t p

-- of a table that has bounds, the hold of a link's priority is at least its greatest length, and so its least: the difference in the jitter
-- for the next switch is never truncated
abbrev pub HoldCovers : Type 0
HoldCovers = (t : Table) → bounds_refusal t ≡ 0 → (i : ℕ) → i < length t.links → (link_at t.links i).greatest ≤ hold t (link_at t.links i).priority

-- ---- edits of a table

-- two tables "agree .. on all links of priority 0 to p, and on the greatest L below them in priority", or have none below in both, for which 0
-- stands. That they agree "on line count" is not asked: links that pass stand on lines below both counts, and a line without members adds 0
pub record AgreeTo (p : ℕ) (t u : Table) : Type 0 where
  pub links_same : members_of (up_to p) t.links ≡ members_of (up_to p) u.links
  pub longest_below : greatest_over (beyond p) (λ v. v.greatest) t.links ≡ greatest_over (beyond p) (λ v. v.greatest) u.links

-- a table that passes has 0 there only if it has no link below
abbrev pub ZeroIfNone : Type 0
ZeroIfNone = (t : Table) → table_refusal t ≡ 0 → (p : ℕ) → greatest_over (beyond p) (λ v. v.greatest) t.links ≡ 0 → any_of (beyond p) t.links ≡ false

-- of "two tables that pass their own checks": "bounds and holds of 0 to p agree", and windows. Nor is it asked that both have bounds: where one
-- has no such hold, neither has the other
abbrev pub EditsBelowUnseen : Type 0
EditsBelowUnseen = (t u : Table) → table_refusal t ≡ 0 → table_refusal u ≡ 0 → (p : ℕ) → AgreeTo p t u → (q : ℕ) → q ≤ p
    → (bound t q ≡ bound u q) × (hold t q ≡ hold u q) × (window t q ≡ window u q) × (hold_of t q ≡ hold_of u q)

-- a link, and what an edit made of it: "only .. some larger L or larger jitter". Number and least length, which bounds and holds do not take,
-- may be any
pub record NoSmaller (v u : VirtualLink) : Type 0 where
  pub line_same : v.line ≡ u.line
  pub priority_same : v.priority ≡ u.priority
  pub code_same : v.code ≡ u.code
  pub greatest_kept : v.greatest ≤ u.greatest
  pub jitter_kept : v.jitter ≤ u.jitter

-- the second list has, in order, what became of each link of the first; links may have been added anywhere
pub data Grown : List VirtualLink → List VirtualLink → Type 0 where
  over : Grown [] []
  edited : {v u : VirtualLink} {links grown : List VirtualLink} → NoSmaller v u → Grown links grown → Grown (v ∷ links) (u ∷ grown)
  added : {u : VirtualLink} {links grown : List VirtualLink} → Grown links grown → Grown links (u ∷ grown)

-- "if the second differs from the first only by some larger L or larger jitter, no bound and no hold is smaller in it", nor where links were
-- added. Windows may fall: that of table O does, from 499 to 480, where its jitter rises from 12,001 to 12,500
abbrev pub NoneSmaller : Type 0
NoneSmaller = (t u : Table) → Grown t.links u.links → bounds_refusal u ≡ 0 → (p : ℕ) → p < 8 → (bound t p ≤ bound u p) × (hold t p ≤ hold u p)

-- "If the first of such a pair has no bounds, neither has the second"
abbrev pub NoneRegained : Type 0
NoneRegained = (t u : Table) → Grown t.links u.links → table_refusal u ≡ 0 → bounds_refusal t ≡ 8 → bounds_refusal u ≡ 8

-- and the other way round: if the second has bounds, so has the first
abbrev pub BoundsKept : Type 0
BoundsKept = (t u : Table) → Grown t.links u.links → table_refusal t ≡ 0 → bounds_refusal u ≡ 0 → bounds_refusal t ≡ 0

-- ---- how much jitter is left

-- with a jitter the table "has bounds and each is at most the table's size for it"
pub record Fits (t : Table) (number jitter : ℕ) : Type 0 where
  pub has_bounds : bounds_refusal (with_jitter t number jitter) ≡ 0
  pub within : (p : ℕ) → p < 8 → bound (with_jitter t number jitter) p ≤ size_of t p

-- what the test of a jitter says
abbrev pub FitsExactly : Type 0
FitsExactly = (t : Table) (number jitter : ℕ) → (jitter_fits t number jitter ≡ true → Fits t number jitter) × (Fits t number jitter → jitter_fits t number jitter ≡ true)

-- with it the table "lacks bounds or breaks some size"
abbrev pub LacksOrBreaks : Table → ℕ → ℕ → Type 0
LacksOrBreaks t number jitter =
    (bounds_refusal (with_jitter t number jitter) ≡ 8) ⊎ ((p : ℕ) × (p < 8) × (size_of t p < bound (with_jitter t number jitter) p))

-- "the greatest jitter from 0 to 125,000": "Every larger jitter in the range lacks bounds or breaks some size"
pub record GreatestThatFits (t : Table) (number jitter : ℕ) : Type 0 where
  pub in_range : jitter ≤ 125_000
  pub fits : Fits t number jitter
  pub larger : (k : ℕ) → jitter < k → k ≤ 125_000 → LacksOrBreaks t number k

abbrev pub MarginIsGreatest : Type 0
MarginIsGreatest = (t : Table) (number : ℕ) → (margin t number).refused ≡ 0 → GreatestThatFits t number (margin t number).jitter

-- "25, exactly if no jitter in the range fits", of a table that passes and a number that is there
abbrev pub RefusedIfNoneFits : Type 0
RefusedIfNoneFits = (t : Table) (number i : ℕ) → table_refusal t ≡ 0 → place_of number t.links ≡ some i
    → ((margin t number).refused ≡ 25 → (k : ℕ) → k ≤ 125_000 → LacksOrBreaks t number k)
    × (((k : ℕ) → k ≤ 125_000 → Fits t number k → ⊥) → (margin t number).refused ≡ 25)

-- what halving rests on: where a jitter fits, every smaller one does
abbrev pub SmallerFits : Type 0
SmallerFits = (t : Table) (number j k : ℕ) → j ≤ k → k ≤ 125_000 → jitter_fits t number k ≡ true → jitter_fits t number j ≡ true

-- a table without bounds as it stands is not refused for that: "Never 8"
abbrev pub NeverUnbounded : Type 0
NeverUnbounded = (t : Table) (number : ℕ) → (margin t number).refused ≡ 8 → ⊥

-- "the link's present jitter plays no part"
abbrev pub PresentJitterUnseen : Type 0
PresentJitterUnseen = (t : Table) (number k : ℕ) → table_refusal t ≡ 0 → k ≤ 125_000 → margin (with_jitter t number k) number ≡ margin t number

-- ---- whether a table has bounds

-- what links may send in w ticks, on whatever lines: the sum of L × N_v(w), which the field calls demand
unfoldable pub demand : List VirtualLink → ℕ → ℕ
demand links w = sum_over (λ v. true) (λ v. v.greatest * frame_curve v w) links

-- of a table that passes, by all its links together: it has bounds exactly if for some w from 1 to 65,536 they send no more than w in w − 1
-- ticks. Neither lines nor priorities play a part
abbrev pub BoundsByDemand : Type 0
BoundsByDemand = (t : Table) → table_refusal t ≡ 0
    → (bounds_refusal t ≡ 0 → (w : ℕ) × (1 ≤ w) × (w ≤ 65_536) × (demand t.links (w - 1) ≤ w))
    × ((w : ℕ) → 1 ≤ w → w ≤ 65_536 → demand t.links (w - 1) ≤ w → bounds_refusal t ≡ 0)

-- it has them if its last priority has a hold
abbrev pub LastHoldDecides : Type 0
LastHoldDecides = (t : Table) → table_refusal t ≡ 0 → is_there (hold_of t 7) ≡ true → bounds_refusal t ≡ 0

-- "A single link always has bounds, .. and so has every pair"
abbrev pub FewHaveBounds : Type 0
FewHaveBounds = (t : Table) → table_refusal t ≡ 0 → length t.links ≤ 2 → bounds_refusal t ≡ 0

-- ---- the handful that breaks a table

-- "a selection of its links", in their order
pub data Selection : List VirtualLink → List VirtualLink → Type 0 where
  over : Selection [] []
  taken : {v : VirtualLink} {part whole : List VirtualLink} → Selection part whole → Selection (v ∷ part) (v ∷ whole)
  left : {v : VirtualLink} {part whole : List VirtualLink} → Selection part whole → Selection part (v ∷ whole)

-- "a selection of its links whose table still has no bounds, while leaving out any one of them gives a table that has. Line count and sizes
-- are kept"
pub record Handful (t c : Table) : Type 0 where
  pub lines_kept : c.lines ≡ t.lines
  pub sizes_kept : c.sizes ≡ t.sizes
  pub selected : Selection c.links t.links
  pub lacks : bounds_refusal c ≡ 8
  pub needed : (before after : List VirtualLink) (v : VirtualLink) → c.links ≡ before ++ (v ∷ after) → bounds_refusal (with_links c (before ++ after)) ≡ 0
  -- "the answer has three links at least"
  pub three : 3 ≤ length c.links

abbrev pub CoreBreaks : Type 0
CoreBreaks = (t : Table) → (core t).refused ≡ 0 → Handful t (core t).table

-- a table is answered exactly if it has no bounds; "26, the table has bounds, after its own checks"
abbrev pub CoreAnswered : Type 0
CoreAnswered = (t : Table)
    → (bounds_refusal t ≡ 8 → (core t).refused ≡ 0) × (bounds_refusal t ≡ 0 → (core t).refused ≡ 26) × ((table_refusal t ≡ 0 → ⊥) → (core t).refused ≡ table_refusal t)

-- ---- lines oversold

-- the checks of a table before 23 was among them, and those of its bounds
unfoldable pub former_checks : Table → List Check
former_checks t = count_checks t.lines (length t.links) ++ links_checks t.lines none t.links ++ size_checks t.sizes

unfoldable pub former_bounds_refusal : Table → ℕ
former_bounds_refusal t = first_met (former_checks t ++ (check 8 (not (all_to (λ p. is_there (hold_of t p)) 8)) ∷ []))

-- where the last priority has a hold, all links together, of whatever line, reserve no more than one line carries
abbrev pub HoldCarries : Type 0
HoldCarries = (t : Table) → first_met (former_checks t) ≡ 0 → (w : ℕ) → hold_of t 7 ≡ some w → sum_over (λ v. true) reservation t.links ≤ line_capacity

-- "a table that has bounds is oversold on no line": each that had bounds before has them now
abbrev pub NoneRefusedNow : Type 0
NoneRefusedNow = (t : Table) → former_bounds_refusal t ≡ 0 → (none_oversold t.lines t.links ≡ true) × (bounds_refusal t ≡ 0)

-- "an oversold table that passes the rest has no bounds": "23 names the line where 8 only said no"
abbrev pub OversoldUnbounded : Type 0
OversoldUnbounded = (t : Table) → first_met (former_checks t) ≡ 0 → none_oversold t.lines t.links ≡ false → (former_bounds_refusal t ≡ 8) × (bounds_refusal t ≡ 23)

-- "the chain's 23 for rows can never come": those of a table that has bounds pass it, whatever line and line count
abbrev pub RowsCarried : Type 0
RowsCarried = (t : Table) → bounds_refusal t ≡ 0 → (line lines : ℕ) → first_met (line_checks lines (next_links t line)) ≡ 0

-- "a port with such a table is not fit"
abbrev pub OversoldUnfit : Type 0
OversoldUnfit = (t : Table) (s : Port) → none_oversold t.lines t.links ≡ false → fit t s ≡ false

-- the frames freed and those left are the frames held before: an advance frees no more than are held
abbrev pub NoneAppears : Type 0
NoneAppears = (t : Table) (s : Port) → fit t s ≡ true → length s.scheduler.queues ≡ 8 → (time : ℕ)
    → length (advance time s.scheduler).departures + frames_held (advance time s.scheduler).scheduler.queues ≡ frames_held s.scheduler.queues

-- ---- for the next switch on the way

-- the oldest held frame of a number
unfoldable pub oldest : ℕ → List Frame → Option Frame
oldest n [] = none
oldest n (f ∷ frames) = cond (eqb f.number n) (some f) (oldest n frames)

-- departures in order from the held frames: each is of the oldest of its number, stored at t, with t + length ≤ freed ≤ t + hold
pub data Leaving (t : Table) : List Frame → List Departure → Type 0 where
  over : {frames : List Frame} → Leaving t frames []
  next : {frames : List Frame} {d : Departure} {ds : List Departure} (p : ℕ) (f : Frame) → has_priority t p f ≡ true → oldest d.number frames ≡ some f → d.length ≡ f.length
      → f.arrival + f.length ≤ d.freed → d.freed ≤ f.arrival + hold t p → Leaving t (without d.number frames) ds → Leaving t frames (d ∷ ds)

abbrev pub DeparturesInTime : Type 0
DeparturesInTime = (t : Table) → bounds_refusal t ≡ 0 → (calls : List Call) → Always (λ e log. Leaving t (held_frames log) (departures_by e)) (run t calls).log

-- all departures of a log, in order of leaving
unfoldable pub all_departures : List Entry → List Departure
all_departures [] = []
all_departures (e ∷ log) = all_departures log ++ departures_by e

-- consecutive departures are a length apart; last is the tick of the one before
pub data Spaced : ℕ → List Departure → Type 0 where
  over : {last : ℕ} → Spaced last []
  next : {last : ℕ} {d : Departure} {ds : List Departure} → last + d.length ≤ d.freed → Spaced d.freed ds → Spaced last (d ∷ ds)

abbrev pub DeparturesSpaced : Type 0
DeparturesSpaced = (t : Table) → table_refusal t ≡ 0 → (calls : List Call) → Spaced 0 (all_departures (run t calls).log)

-- the passed frames of a link keep BAG and jitter, whatever the link did
abbrev pub PassedKeep : Type 0
PassedKeep = (t : Table) → table_refusal t ≡ 0 → (calls : List Call) → (i : ℕ) → i < length t.links
    → KeepBagAndJitter (link_at t.links i) (ticks_of passed_by (link_at t.links i).number (run t calls).log)

-- ---- numbers as digits, in any base

-- a number that fits a width has as many digits, and is read from them
abbrev pub DigitsRead : Type 0
DigitsRead = (base width n : ℕ) → n < base ^ width
    → (length (digits_of base width n) ≡ width) × AllDigits base (digits_of base width n) × (from_digits base (digits_of base width n) ≡ n)

-- digits are those of the number that they are, which fits their width
abbrev pub DigitsWritten : Type 0
DigitsWritten = (base : ℕ) (digits : List ℕ) → AllDigits base digits
    → (from_digits base digits < base ^ length digits) × (digits_of base (length digits) (from_digits base digits) ≡ digits)

-- ---- networks A and B

-- n is one of the k numbers after m exactly if it is not 0 and 1 to k ahead of m, round a cycle of 255, for all sequence numbers
abbrev pub AmongByDistance : Type 0
AmongByDistance = (k m n : ℕ) → k < 255 → m < 256 → n < 256
    → among k m n ≡ (not (eqb n 0) && leb 1 ((n + 255 - m) % 255) && leb ((n + 255 - m) % 255) k)

-- "with nothing between, yields at most one frame, and exactly one if the first copy was handed on", from any state
abbrev pub OneOfTwo : Type 0
OneOfTwo = (s s' : State) (c c' : Presented) → Refused (select s c).decision.state s' → Copies s.skew (entry_of s c) (entry_of s' c')
    → (how_many (entry_of s c) (entry_of s' c') ≤ 1) × (hands_on (entry_of s c) ≡ true → how_many (entry_of s c) (entry_of s' c') ≡ 1)

-- for every list of calls from a fresh state: parts are frames without their last byte, in order of their ticks; no refusal changes the state
abbrev pub SelectedAlways : Type 0
SelectedAlways = (skew : ℕ) (calls : List Presented) → Selected skew (redundancy.run skew calls)
