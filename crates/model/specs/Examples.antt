-- The ten marked examples of the paper, a to j, and ours: k to y, windows, a full buffer (table C), whole answers and sheets, the words of
-- demand 3, networks A and B, batches, the next switch on the way, lines oversold, counts, edits of a table, the jitter that is left, and the
-- handful that breaks a table, as one list.
use Rattle.std.specs.Prelude.{◌≡◌, true, false, List, [], ◌∷◌, ◌++◌, map, reverse, ℕ, zero, suc, ◌+◌, ◌-◌, ◌*◌, length, take, set, replicate}
use Prim.Native.String.{String}
use Rattle.model.specs.Basics.{eight, Each}
use Rattle.model.specs.Units.{full_count}
use Rattle.model.specs.Link.{VirtualLink, bag_of, standard_bags, link_at}
use Rattle.model.specs.Table.{Table, blank_table, table_refusal}
use Rattle.model.specs.TableFile.{table_bytes, read_table, write_table}
use Rattle.model.specs.Bounds.{bounds_refusal, hold, bound, window, Sizing, sizing}
use Rattle.model.specs.Machine.{Frame, queue_of}
use Rattle.model.specs.Counters.{Counters, none_counted}
use Rattle.model.specs.Port.{Port, mark_of, fresh, with_counters}
use Rattle.model.specs.Fitness.{fit}
use Rattle.model.specs.Sums.{Sums, sums}
use Rattle.model.specs.Report.{Report, wait, frame, Answer, Call, arrived, step}
use Rattle.model.specs.Sheet.{text, sheet}
use Rattle.model.specs.NextTable.{Next, next}
use Rattle.model.specs.JitterMargin.{Margin, margin}
use Rattle.model.specs.OverloadCore.{with_links, Core, core, sold_on}
use Rattle.model.specs.Run.{Entry, run, stored_by, policed_by, dropped_by, passed_by, through_by, held_of, most_held, ticks_of, LinkKeeps}
use Rattle.model.specs.Batch.{answer_batch, bytes_of, batch_file}
use Rattle.model.specs.RedundancyExamples.{Recording, replies_to, recordings}

-- the answer of a call, and the list as it left it
pub record Outcome : Type 0 where
  pub answer : Answer
  pub list : List ℕ

-- after a report: the held frames of a priority, and the most that its buffer has held
pub record Holding : Type 0 where
  pub frames : List Frame
  pub most : ℕ

-- the ticks of a link's frames that are stored, policed and dropped, that passed the police check, that the filter let through
pub record Fates : Type 0 where
  pub stored : List ℕ
  pub policed : List ℕ
  pub dropped : List ℕ
  pub passed : List ℕ
  pub through : List ℕ

pub data Example : Type 0 where
  -- a table with its bound, hold and window of a priority; or its hold alone; or all that the bound calculation answers
  gives_bound : Table → ℕ → ℕ → ℕ → ℕ → Example
  gives_hold : Table → ℕ → ℕ → Example
  gives_sizing : Table → Sizing → Example
  -- a table with the number under which its bounds are refused
  lacks_bounds : Table → ℕ → Example
  -- a table and calls in order, with what comes of each
  gives_answers : Table → List Call → List Outcome → Example
  -- of a table and calls in order: what a priority's buffer holds after each; what becomes of a number's frames
  gives_held : Table → List Call → ℕ → List Holding → Example
  gives_fates : Table → List Call → ℕ → Fates → Example
  -- of a table and calls in order: the link at a place keeps BAG and jitter, or does not
  keeps : Table → List Call → ℕ → Example
  breaks : Table → List Call → ℕ → Example
  -- of a table and calls in order: every frame is stored and none leaves; at the clock a priority has so many frames and that mark, and the
  -- record is fit
  fills : Table → List Call → ℕ → ℕ → ℕ → ℕ → Example
  -- the BAG of codes 0 to 7
  gives_bags : List ℕ → Example
  -- a table with its printed sheet
  gives_sheet : Table → String → Example
  -- calls with what waits on A and B, with what comes of each
  selects : Recording → Example
  -- a table, to whose fresh port a batch goes: reports in numbers, the answers and the departure list before it; then 0 or the refusal, both
  -- lists after it, and how many departures were written
  gives_batch : Table → List ℕ → List ℕ → List ℕ → ℕ → List ℕ → List ℕ → ℕ → Example
  -- the same through the C interface, in bytes: a table file, reports, answers, departure list; then 0 or the refusal, and both lists
  gives_bytes : List ℕ → List ℕ → List ℕ → List ℕ → ℕ → List ℕ → List ℕ → Example
  -- a table, a line and a line count, with what the next port's call gives
  gives_next : Table → ℕ → ℕ → Next → Example
  -- a table with the first check that it meets by itself, 0 if none; a file with that of its reader; a table and the length of an output with
  -- that of the writer
  meets : Table → ℕ → Example
  reading_meets : List ℕ → ℕ → Example
  writing_meets : Table → ℕ → ℕ → Example
  -- a table whose port, fresh but for the check of the table, is not fit
  unfit : Table → Example
  -- a table, to whose port, fresh but for those counters, calls go in order: the refusal, or 0, and the verdict of each; the counters after
  -- them, and what the call for their sums gives
  gives_counts : Table → Counters → List Call → List (List ℕ) → Counters → Sums → Example
  -- a table and a link number, with what the call for the jitter that is left gives
  gives_margin : Table → ℕ → Margin → Example
  -- a table, with what the call for the handful that breaks it gives
  gives_core : Table → Core → Example
  -- a table and a line, with the thousandths of it that are sold
  gives_sold : Table → ℕ → ℕ → Example

-- the log of calls in order, the latest first
abbrev pub log_of : Table → List Call → List Entry
log_of t calls = (run t (reverse calls)).log

abbrev pub outcome_of : Entry → Outcome
outcome_of e = record { answer = e.answer; list = e.list }

unfoldable pub outcomes : Table → List Call → List Outcome
outcomes t calls = reverse (map outcome_of (log_of t calls))

unfoldable pub holdings : Table → ℕ → List Entry → List Holding
holdings t p [] = []
holdings t p (e ∷ log) = holdings t p log ++ (record { frames = held_of t p (e ∷ log); most = most_held t p (e ∷ log) } ∷ [])

abbrev pub fates : ℕ → List Entry → Fates
fates n log =
    record {
      stored = ticks_of stored_by n log;
      policed = ticks_of policed_by n log;
      dropped = ticks_of dropped_by n log;
      passed = ticks_of passed_by n log;
      through = ticks_of through_by n log;
    }

-- the port after calls in order; and the refusal, or 0, and the verdict of each
unfoldable pub port_after : Table → Port → List Call → Port
port_after t s [] = s
port_after t s (c ∷ calls) = port_after t (step t s c).port calls

unfoldable pub rulings : Table → Port → List Call → List (List ℕ)
rulings t s [] = []
rulings t s (c ∷ calls) = let x = step t s c in (x.answer.refused ∷ x.answer.verdict ∷ []) ∷ rulings t x.port calls

unfoldable pub Correct : Example → Type 0
Correct (gives_bound t p b h w) = (hold t p ≡ h) × (bound t p ≡ b) × (window t p ≡ w)
Correct (gives_hold t p h) = hold t p ≡ h
Correct (gives_sizing t expected) = sizing t ≡ expected
Correct (lacks_bounds t n) = bounds_refusal t ≡ n
Correct (gives_answers t calls expected) = outcomes t calls ≡ expected
Correct (gives_held t calls p expected) = holdings t p (log_of t calls) ≡ expected
Correct (gives_fates t calls n expected) = fates n (log_of t calls) ≡ expected
Correct (keeps t calls i) = LinkKeeps (link_at t.links i) (log_of t calls)
Correct (breaks t calls i) = LinkKeeps (link_at t.links i) (log_of t calls) → ⊥
Correct (fills t calls clock p frames mark) =
    let h = run t (reverse calls) in
    (map (λ e. e.answer) h.log ≡ replicate (length calls) (record { refused = 0; verdict = 0; frames = 0; bytes = 0 }))
    × (h.port.scheduler.clock ≡ clock)
    × (length (queue_of h.port.scheduler.queues p) ≡ frames)
    × (mark_of h.port p ≡ mark)
    × (fit t h.port ≡ true)
Correct (gives_bags bags) = eight bag_of ≡ bags
Correct (gives_sheet t printed) = sheet (table_bytes t) ≡ text printed
Correct (selects r) = replies_to r.skew r.calls ≡ r.replies
Correct (gives_batch t reports answers list refused answersAfter listAfter departures) =
    let o = answer_batch t (fresh t) reports answers list in
    (o.refused ≡ refused) × (o.answers ≡ answersAfter) × (o.list ≡ listAfter) × (o.departures ≡ departures)
Correct (gives_bytes file reports answers list refused answersAfter listAfter) =
    let o = batch_file file reports answers list in
    (o.refused ≡ refused) × (o.answers ≡ answersAfter) × (o.list ≡ listAfter)
Correct (gives_next t line lines expected) = next t line lines ≡ expected
Correct (meets t n) = table_refusal t ≡ n
Correct (reading_meets file n) = (read_table file).refused ≡ n
Correct (writing_meets t room n) = (write_table t (replicate room 0)).refused ≡ n
Correct (unfit t) = fit t (fresh t) ≡ false
Correct (gives_counts t before calls ruled after expected) =
    let s = with_counters (fresh t) before in
    (rulings t s calls ≡ ruled) × ((port_after t s calls).counters ≡ after) × (sums t (port_after t s calls) ≡ expected)
Correct (gives_margin t number expected) = margin t number ≡ expected
Correct (gives_core t expected) = core t ≡ expected
Correct (gives_sold t ℓ n) = sold_on t ℓ ≡ n

-- ---- shorthand: number, line, priority, greatest length; "All codes and jitter 0 unless named"
abbrev pub plain : ℕ → ℕ → ℕ → ℕ → VirtualLink
plain number line priority greatest = record { number = number; line = line; priority = priority; code = 0; least = 84; greatest = greatest; jitter = 0 }

abbrev pub table_of : ℕ → List VirtualLink → List ℕ → Table
table_of lines links sizes = record { lines = lines; links = links; sizes = sizes ++ replicate (8 - length sizes) 0 }

-- a report that is lent nine numbers, all 7, and what becomes of them: the departures' numbers first
abbrev pub lent : Report → Call
lent r = record { report = r; list = replicate 9 7 }

abbrev pub gives : ℕ → ℕ → ℕ → List ℕ → Outcome
gives verdict frames bytes numbers =
    record { answer = record { refused = 0; verdict = verdict; frames = frames; bytes = bytes }; list = numbers ++ replicate (9 - length numbers) 7 }

abbrev pub refuses : ℕ → Outcome
refuses n = record { answer = record { refused = n; verdict = 0; frames = 0; bytes = 0 }; list = replicate 9 7 }

-- "table E (two lines; link 1: line 0, priority 0, lengths 84 to 500; link 2: line 1, priority 1, lengths 84 to 1,000; ..)"
abbrev pub sized_e : ℕ → Table
sized_e size = table_of 2 (plain 1 0 0 500 ∷ plain 2 1 1 1_000 ∷ []) (size ∷ 2_000 ∷ [])

abbrev pub table_e : Table
table_e = sized_e 2_000

-- "a, b. E: .. holds 1,499 and 1,500". "Table E then has bounds 480 and 980". "For table E the windows are all 0"
abbrev pub a : Example
a = gives_bound table_e 0 480 1_499 0

abbrev pub b : Example
b = gives_bound table_e 1 980 1_500 0

abbrev pub sizing_e : Example
sizing_e =
    gives_sizing table_e
    (record {
      refused = 0;
      bounds = 480 ∷ 980 ∷ replicate 6 0;
      holds = 1_499 ∷ replicate 7 1_500;
      windows = replicate 8 0;
    })

-- "c. E: link 2 arrives at 1,000 and link 1 at 1,001, at greatest length; link 2 is freed at 2,000, link 1 at 2,500".
-- Bytes freed are what they occupied, 1,460 in all
abbrev pub c : Example
c =
    gives_answers table_e (lent (frame 1_000 1 2 1_000) ∷ lent (frame 1_001 0 1 500) ∷ lent (wait 2_000) ∷ lent (wait 2_500) ∷ [])
    (gives 0 0 0 [] ∷ gives 0 0 0 [] ∷ gives 0 1 980 (2 ∷ 1_000 ∷ 2_000 ∷ []) ∷ gives 0 1 480 (1 ∷ 500 ∷ 2_500 ∷ []) ∷ [])

-- "d. Both at 1,000: link 2 is freed at 2,500, link 1 at 1,500"
abbrev pub calls_d : List Call
calls_d = lent (frame 1_000 1 2 1_000) ∷ lent (frame 1_000 0 1 500) ∷ lent (wait 1_500) ∷ lent (wait 2_500) ∷ []

abbrev pub d : Example
d =
    gives_answers table_e calls_d
    (gives 0 0 0 [] ∷ gives 0 0 0 [] ∷ gives 0 1 480 (1 ∷ 500 ∷ 1_500 ∷ []) ∷ gives 0 1 980 (2 ∷ 1_000 ∷ 2_500 ∷ []) ∷ [])

-- "e, f. E: link 1 stored at 1,001; its next at 13,500 is policed, at 13,501 instead it passes"
abbrev pub calls_e : List Call
calls_e = lent (frame 1_001 0 1 500) ∷ lent (frame 13_500 0 1 500) ∷ []

abbrev pub e : Example
e =
    gives_answers table_e calls_e
    (gives 0 0 0 [] ∷ gives 2 1 480 (1 ∷ 500 ∷ 1_501 ∷ []) ∷ [])

abbrev pub calls_f : List Call
calls_f = lent (frame 1_001 0 1 500) ∷ lent (frame 13_501 0 1 500) ∷ []

abbrev pub f : Example
f =
    gives_answers table_e calls_f
    (gives 0 0 0 [] ∷ gives 0 1 480 (1 ∷ 500 ∷ 1_501 ∷ []) ∷ [])

-- "g. Three links of 200, priority 0, one line: bound 399, hold 600. h. On three lines": "example h has 540, and g keeps 399". In g the line
-- fills the buffer until 219
abbrev pub g : Example
g = gives_bound (table_of 1 (plain 0 0 0 200 ∷ plain 1 0 0 200 ∷ plain 2 0 0 200 ∷ []) []) 0 399 600 219

abbrev pub three_lines : List ℕ → Table
three_lines sizes = table_of 3 (plain 0 0 0 200 ∷ plain 1 1 0 200 ∷ plain 2 2 0 200 ∷ []) sizes

abbrev pub h : Example
h = gives_bound (three_lines []) 0 540 600 0

-- "i, j. One line, priority 0, code 7: 42 links of 1,538 and one of 940 give hold 65,536; 941 instead gives 8"
abbrev pub coded : ℕ → ℕ → ℕ → VirtualLink
coded code number greatest = record { number = number; line = 0; priority = 0; code = code; least = 84; greatest = greatest; jitter = 0 }

-- n links of 1,538 with a code, numbered from the number given
unfoldable pub alike : ℕ → ℕ → ℕ → List VirtualLink
alike code number zero = []
alike code number (suc n) = coded code number 1_538 ∷ alike code (suc number) n

abbrev pub one_busy_line : ℕ → Table
one_busy_line greatest = table_of 1 (alike 7 0 42 ++ (coded 7 42 greatest ∷ [])) []

abbrev pub i : Example
i = gives_hold (one_busy_line 940) 0 65_536

abbrev pub j : Example
j = lacks_bounds (one_busy_line 941) 8

-- k. one link of lengths 84 to 100 with jitter 12,400: a second frame may follow 100 ticks after the first
abbrev pub k : Example
k =
    gives_bound
    (table_of 1 (record { number = 0; line = 0; priority = 0; code = 0; least = 84; greatest = 100; jitter = 12_400 } ∷ []) [])
    0 80 100 0

-- l. one line: one link of 1,000 at priority 0, eight of 200 at priority 1
abbrev pub l : Example
l =
    gives_bound
    (table_of 1
    (plain 0 0 0 1_000
    ∷ plain 1 0 1 200
    ∷ plain 2 0 1 200
    ∷ plain 3 0 1 200
    ∷ plain 4 0 1 200
    ∷ plain 5 0 1 200
    ∷ plain 6 0 1 200
    ∷ plain 7 0 1 200
    ∷ plain 8 0 1 200
    ∷ [])
    [])
    1 1_199 2_600 1_019

-- m. size 500: the third of three frames of 200, which would make 540, is dropped while the first is leaving. n. Its link, charged for it, is then policed
abbrev pub table_n : Table
table_n = three_lines (500 ∷ [])

abbrev pub m : Example
m =
    gives_answers table_n (lent (frame 1_000 0 0 200) ∷ lent (frame 1_100 1 1 200) ∷ lent (frame 1_150 2 2 200) ∷ [])
    (gives 0 0 0 [] ∷ gives 0 0 0 [] ∷ gives 3 0 0 [] ∷ [])

abbrev pub calls_n : List Call
calls_n = lent (frame 1_000 0 0 200) ∷ lent (frame 1_100 1 1 200) ∷ lent (frame 1_150 2 2 200) ∷ lent (frame 2_000 2 2 200) ∷ []

abbrev pub n : Example
n =
    gives_answers table_n calls_n
    (gives 0 0 0 [] ∷ gives 0 0 0 [] ∷ gives 3 0 0 [] ∷ gives 2 2 360 (0 ∷ 200 ∷ 1_200 ∷ 1 ∷ 200 ∷ 1_400 ∷ []) ∷ [])

-- o. link 1 stored at 1,001, policed at 13,500 and not charged for it, so stored at 14,000
abbrev pub o : Example
o =
    gives_answers table_e (lent (frame 1_001 0 1 500) ∷ lent (frame 13_500 0 1 500) ∷ lent (frame 14_000 0 1 500) ∷ [])
    (gives 0 0 0 [] ∷ gives 2 1 480 (1 ∷ 500 ∷ 1_501 ∷ []) ∷ gives 0 0 0 [] ∷ [])

-- p. a filtered frame of 500 on line 0 at 1,000 takes its line until then: link 1 with 500 at 1,499 is refused
abbrev pub calls_p : List Call
calls_p = lent (frame 1_000 0 9 500) ∷ lent (frame 1_499 0 1 500) ∷ []

abbrev pub p : Example
p =
    gives_answers table_e calls_p
    (gives 1 0 0 [] ∷ refuses 15 ∷ [])

-- q. a frame below its link's least, one above its greatest, one on another line, one of an unknown number
abbrev pub table_q : Table
table_q = table_of 2 (record { number = 1; line = 0; priority = 0; code = 0; least = 100; greatest = 500; jitter = 0 } ∷ []) (2_000 ∷ [])

abbrev pub calls_q : List Call
calls_q = lent (frame 1_000 0 1 99) ∷ lent (frame 2_000 0 1 501) ∷ lent (frame 3_000 1 1 200) ∷ lent (frame 4_000 0 9 200) ∷ lent (frame 5_000 0 1 100) ∷ []

abbrev pub q : Example
q =
    gives_answers table_q calls_q
    (gives 1 0 0 [] ∷ gives 1 0 0 [] ∷ gives 1 0 0 [] ∷ gives 1 0 0 [] ∷ gives 0 0 0 [] ∷ [])

-- r. example d, then a wait at 3,000: 2 frames, 1,460 bytes
abbrev pub calls_r : List Call
calls_r = lent (frame 1_000 1 2 1_000) ∷ lent (frame 1_000 0 1 500) ∷ lent (wait 3_000) ∷ []

abbrev pub r : Example
r =
    gives_answers table_e calls_r
    (gives 0 0 0 [] ∷ gives 0 0 0 [] ∷ gives 0 2 1_460 (1 ∷ 500 ∷ 1_500 ∷ 2 ∷ 1_000 ∷ 2_500 ∷ []) ∷ [])

-- s. a report that meets 13, 14 and 15, and one that meets 15 and 16
abbrev pub s : Example
s =
    gives_answers table_e
    (lent (frame 1_000 0 1 500) ∷ lent (frame 1_000 2 1 83) ∷ record { report = frame 1_001 0 1 500; list = [] } ∷ [])
    (gives 0 0 0 [] ∷ refuses 13 ∷ record { answer = (refuses 15).answer; list = [] } ∷ [])

-- t. the eight BAGs: the theorem BagConstants
abbrev pub t : Example
t = gives_bags standard_bags

-- u. links 2 and 3 (priority 1) at 1,000, link 1 (priority 0) at 1,500, as link 2 is freed: link 1 goes first
abbrev pub u : Example
u =
    gives_answers (table_of 3 (plain 1 0 0 500 ∷ plain 2 1 1 500 ∷ plain 3 2 1 500 ∷ []) (2_000 ∷ 2_000 ∷ []))
    (lent (frame 1_000 1 2 500) ∷ lent (frame 1_000 2 3 500) ∷ lent (frame 1_500 0 1 500) ∷ lent (wait 3_000) ∷ [])
    (gives 0 0 0 [] ∷ gives 0 0 0 [] ∷ gives 0 1 480 (2 ∷ 500 ∷ 1_500 ∷ []) ∷ gives 0 2 960 (1 ∷ 500 ∷ 2_000 ∷ 3 ∷ 500 ∷ 2_500 ∷ []) ∷ [])

-- v. a link with jitter 12,416, which is B less 84: a frame of 500 at 1,000, and one of 84 at 1,084, while the first is leaving
abbrev pub table_v : Table
table_v = table_of 1 (record { number = 1; line = 0; priority = 0; code = 0; least = 84; greatest = 500; jitter = 12_416 } ∷ []) (2_000 ∷ [])

abbrev pub calls_v : List Call
calls_v = lent (frame 1_000 0 1 500) ∷ lent (frame 1_084 0 1 84) ∷ lent (wait 1_500) ∷ []

abbrev pub v : Example
v = gives_answers table_v calls_v (gives 0 0 0 [] ∷ gives 0 0 0 [] ∷ gives 0 1 480 (1 ∷ 500 ∷ 1_500 ∷ []) ∷ [])

-- w. a third frame at 1,168 instead of the wait is policed
abbrev pub calls_w : List Call
calls_w = lent (frame 1_000 0 1 500) ∷ lent (frame 1_084 0 1 84) ∷ lent (frame 1_168 0 1 84) ∷ []

abbrev pub w : Example
w = gives_answers table_v calls_w (gives 0 0 0 [] ∷ gives 0 0 0 [] ∷ gives 2 0 0 [] ∷ [])

-- x. E with size 480 for priority 0: link 1 with 500 is stored, and the record stays fit, so that the next report is accepted. y. With size
-- 479 it is dropped
abbrev pub x : Example
x =
    gives_answers (sized_e 480) (lent (frame 1_000 0 1 500) ∷ lent (wait 1_500) ∷ [])
    (gives 0 0 0 [] ∷ gives 0 1 480 (1 ∷ 500 ∷ 1_500 ∷ []) ∷ [])

abbrev pub y : Example
y = gives_answers (sized_e 479) (lent (frame 1_000 0 1 500) ∷ []) (gives 3 0 0 [] ∷ [])

-- C. 24 lines: links 0 to 22 of 84 with jitter 125,000, a line each; on the last line link 23 of 84 with jitter 25,000, and link 24 of priority 1
abbrev pub short : ℕ → ℕ → VirtualLink
short number jitter = record { number = number; line = number; priority = 0; code = 0; least = 84; greatest = 84; jitter = jitter }

unfoldable pub short_links : ℕ → List VirtualLink
short_links zero = []
short_links (suc n) = short_links n ++ (short n 125_000 ∷ [])

abbrev pub table_c : Table
table_c =
    table_of 24
    (short_links 23 ++ (short 23 25_000 ∷ record { number = 24; line = 23; priority = 1; code = 7; least = 84; greatest = 1_538; jitter = 0 } ∷ []))
    (16_384 ∷ 1_518 ∷ [])

-- a report that is lent room for 256 frames
abbrev pub lent_room : Report → Call
lent_room r = record { report = r; list = replicate 768 7 }

-- links 0 to n − 1 with 84 at a tick
unfoldable pub burst : ℕ → ℕ → List Call
burst tick zero = []
burst tick (suc n) = burst tick n ++ (lent_room (frame tick n n 84) ∷ [])

-- from a tick on, bursts of all 23 lines, 84 ticks apart
unfoldable pub bursts : ℕ → ℕ → List Call
bursts tick zero = []
bursts tick (suc n) = burst tick 23 ++ bursts (tick + 84) n

-- link 24 of 1,538 at 2,000; links 0 to 22 at 2,001 + 84 × k, k from 0 to 10; link 23 at 2,084 + 84 × k, k from 0 to 2
abbrev pub calls_c : List Call
calls_c =
    lent_room (frame 2_000 23 24 1_538) ∷ burst 2_001 23
    ++ (lent_room (frame 2_084 23 23 84) ∷ burst 2_085 23)
    ++ (lent_room (frame 2_168 23 23 84) ∷ burst 2_169 23)
    ++ (lent_room (frame 2_252 23 23 84) ∷ bursts 2_253 8)

abbrev pub bound_c : Example
bound_c = gives_bound table_c 0 16_384 27_073 640

abbrev pub filled_c : Example
filled_c = fills table_c calls_c 2_841 0 256 16_384

-- ---- the words of demand 3, on lists of calls above
abbrev pub holds : List Frame → ℕ → Holding
holds frames most = record { frames = frames; most = most }

-- d and r: what each buffer holds, and has held
abbrev pub held_d0 : Example
held_d0 = gives_held table_e calls_d 0 (holds [] 0 ∷ holds (arrived 1 500 1_000 ∷ []) 480 ∷ holds [] 480 ∷ holds [] 480 ∷ [])

abbrev pub held_d1 : Example
held_d1 =
    gives_held table_e calls_d 1
    (holds (arrived 2 1_000 1_000 ∷ []) 980 ∷ holds (arrived 2 1_000 1_000 ∷ []) 980 ∷ holds (arrived 2 1_000 1_000 ∷ []) 980 ∷ holds [] 980 ∷ [])

-- r: both leave with one report
abbrev pub held_r1 : Example
held_r1 = gives_held table_e calls_r 1 (holds (arrived 2 1_000 1_000 ∷ []) 980 ∷ holds (arrived 2 1_000 1_000 ∷ []) 980 ∷ holds [] 980 ∷ [])

-- n: the dropped frame is not held
abbrev pub held_n0 : Example
held_n0 =
    gives_held table_n calls_n 0
    (holds (arrived 0 200 1_000 ∷ []) 180
    ∷ holds (arrived 0 200 1_000 ∷ arrived 1 200 1_100 ∷ []) 360
    ∷ holds (arrived 0 200 1_000 ∷ arrived 1 200 1_100 ∷ []) 360
    ∷ holds [] 360
    ∷ [])

-- v: of two frames of a link the older leaves
abbrev pub held_v0 : Example
held_v0 =
    gives_held table_v calls_v 0
    (holds (arrived 1 500 1_000 ∷ []) 480 ∷ holds (arrived 1 500 1_000 ∷ arrived 1 84 1_084 ∷ []) 544 ∷ holds (arrived 1 84 1_084 ∷ []) 544 ∷ [])

-- e: link 1's second frame is policed. f: it passes
abbrev pub fates_e : Example
fates_e = gives_fates table_e calls_e 1 (record { stored = 1_001 ∷ []; policed = 13_500 ∷ []; dropped = []; passed = 1_001 ∷ []; through = 1_001 ∷ 13_500 ∷ [] })

abbrev pub fates_f : Example
fates_f = gives_fates table_e calls_f 1 (record { stored = 1_001 ∷ 13_501 ∷ []; policed = []; dropped = []; passed = 1_001 ∷ 13_501 ∷ []; through = 1_001 ∷ 13_501 ∷ [] })

-- n: link 2's first frame is dropped, so it passed; its second is policed
abbrev pub fates_n : Example
fates_n = gives_fates table_n calls_n 2 (record { stored = []; policed = 2_000 ∷ []; dropped = 1_150 ∷ []; passed = 1_150 ∷ []; through = 1_150 ∷ 2_000 ∷ [] })

-- p: link 1's frame is refused. q: three are filtered, the fourth is stored
abbrev pub fates_p : Example
fates_p = gives_fates table_e calls_p 1 (record { stored = []; policed = []; dropped = []; passed = []; through = [] })

abbrev pub fates_q : Example
fates_q = gives_fates table_q calls_q 1 (record { stored = 5_000 ∷ []; policed = []; dropped = []; passed = 5_000 ∷ []; through = 5_000 ∷ [] })

-- v, w: the first two frames are B − J apart, the third and the first are not 2 × B − J
abbrev pub fates_v : Example
fates_v = gives_fates table_v calls_v 1 (record { stored = 1_000 ∷ 1_084 ∷ []; policed = []; dropped = []; passed = 1_000 ∷ 1_084 ∷ []; through = 1_000 ∷ 1_084 ∷ [] })

abbrev pub fates_w : Example
fates_w = gives_fates table_v calls_w 1 (record { stored = 1_000 ∷ 1_084 ∷ []; policed = 1_168 ∷ []; dropped = []; passed = 1_000 ∷ 1_084 ∷ []; through = 1_000 ∷ 1_084 ∷ 1_168 ∷ [] })

-- so in f and v the link keeps BAG and jitter, in e and w it does not
abbrev pub keeps_f : Example
keeps_f = keeps table_e calls_f 0

abbrev pub keeps_v : Example
keeps_v = keeps table_v calls_v 0

abbrev pub breaks_e : Example
breaks_e = breaks table_e calls_e 0

abbrev pub breaks_w : Example
breaks_w = breaks table_v calls_w 0

-- windows. K: the bound of priority 0 is first reached when both links of its line have sent
abbrev pub window_k : Example
window_k = gives_bound (table_of 2 (plain 1 0 0 200 ∷ plain 2 0 0 300 ∷ plain 3 1 1 1_000 ∷ []) []) 0 460 1_499 180

-- P: six links of 200 on two lines. 400 ticks in, all have sent: 1,200 wire bytes, less the 400 that have left, and 199 of a frame
-- that is leaving. A_p is never 999
abbrev pub window_p : Example
window_p =
    gives_bound
    (table_of 2 (plain 1 0 0 200 ∷ plain 2 0 0 200 ∷ plain 3 0 0 200 ∷ plain 4 1 0 200 ∷ plain 5 1 0 200 ∷ plain 6 1 0 200 ∷ []) [])
    0 999 1_200 400

-- O: with jitter 12,001 a second frame may come 499 ticks after the first, one before the first has left; with 12,000 not before that
abbrev pub late : ℕ → Table
late jitter = table_of 1 (record { number = 1; line = 0; priority = 0; code = 0; least = 84; greatest = 500; jitter = jitter } ∷ []) []

abbrev pub window_o0 : Example
window_o0 = gives_bound (late 12_000) 0 480 500 0

abbrev pub window_o1 : Example
window_o1 = gives_bound (late 12_001) 0 960 1_000 499

-- Nt: three links of 200 on line 0 at priority 0, one of 100 on line 1 at priority 3; the priorities between keep their hold
abbrev pub table_nt : Table
table_nt = table_of 2 (plain 1 0 0 200 ∷ plain 2 0 0 200 ∷ plain 3 0 0 200 ∷ plain 4 1 3 100 ∷ []) (500 ∷ 0 ∷ 0 ∷ 79 ∷ [])

abbrev pub window_nt0 : Example
window_nt0 = gives_bound table_nt 0 498 699 318

abbrev pub window_nt3 : Example
window_nt3 = gives_bound table_nt 3 80 700 0

abbrev pub sizing_nt : Example
sizing_nt =
    gives_sizing table_nt
    (record {
      refused = 0;
      bounds = 498 ∷ 0 ∷ 0 ∷ 80 ∷ replicate 4 0;
      holds = 699 ∷ 699 ∷ 699 ∷ replicate 5 700;
      windows = 318 ∷ replicate 7 0;
    })

-- the sheet that the paper prints for table E, in the seven-column form and the bytes that the buffer keeps
abbrev pub printed_e : String
printed_e =
    "priority bound hold window size spare fill\n0 480 1499 0 2000 1520 240\n1 980 1500 0 2000 1020 490\n2 0 1500 0 0 0 -\n3 0 1500 0 0 0 -\n4 0 1500 0 0 0 -\n5 0 1500 0 0 0 -\n6 0 1500 0 0 0 -\n7 0 1500 0 0 0 -\n"

abbrev pub sheet_e : Example
sheet_e = gives_sheet table_e printed_e

-- that of table Nt, where a window is not 0 and a buffer is too small
abbrev pub printed_nt : String
printed_nt =
    "priority bound hold window size spare fill\n0 498 699 318 500 2 996\n1 0 699 0 0 0 -\n2 0 699 0 0 0 -\n3 80 700 0 79 -1 1013\n4 0 700 0 0 0 -\n5 0 700 0 0 0 -\n6 0 700 0 0 0 -\n7 0 700 0 0 0 -\n"

abbrev pub sheet_nt : Example
sheet_nt = gives_sheet table_nt printed_nt

-- ---- batches, to table E's fresh port

-- reports in numbers. "for a wait the last three are not read": they are 7
abbrev pub wait_at : ℕ → List ℕ
wait_at time = 0 ∷ time ∷ 7 ∷ 7 ∷ 7 ∷ []

abbrev pub frame_at : ℕ → ℕ → ℕ → ℕ → List ℕ
frame_at time line number len = 1 ∷ time ∷ line ∷ number ∷ len ∷ []

abbrev pub sevens : ℕ → List ℕ
sevens n = replicate n 7

-- a batch that is refused: both lists as found, and no departure
abbrev pub refuses_batch : List ℕ → ℕ → ℕ → Example
refuses_batch reports room n = gives_batch table_e reports (sevens room) (sevens 6) n (sevens room) (sevens 6) 0

-- two frames, which leave by the third report: "frames freed", and their six numbers in a list that has room for just these
abbrev pub reports_two : List ℕ
reports_two = frame_at 1_000 1 2 1_000 ++ frame_at 1_001 0 1 500 ++ wait_at 5_000

abbrev pub departures_two : List ℕ
departures_two = 2 ∷ 1_000 ∷ 2_000 ∷ 1 ∷ 500 ∷ 2_500 ∷ []

abbrev pub batch_two : Example
batch_two = gives_batch table_e reports_two (sevens 11) (sevens 6) 0 (0 ∷ 0 ∷ 0 ∷ 0 ∷ 0 ∷ 0 ∷ 0 ∷ 0 ∷ 2 ∷ 7 ∷ 7 ∷ []) departures_two 2

-- "a departure list too short stays 16 for the report concerned"
abbrev pub batch_short : Example
batch_short = gives_batch table_e reports_two (sevens 9) (sevens 5) 0 (0 ∷ 0 ∷ 0 ∷ 0 ∷ 0 ∷ 0 ∷ 16 ∷ 0 ∷ 0 ∷ []) (sevens 5) 0

-- "each lent the rest of the list": of five numbers the first departure leaves two, which are too few for the second
abbrev pub batch_rest : Example
batch_rest =
    gives_batch table_e (frame_at 1_000 0 1 500 ++ wait_at 5_000 ++ frame_at 20_000 0 1 400 ++ wait_at 30_000) (sevens 12) (sevens 5)
    0 (0 ∷ 0 ∷ 0 ∷ 0 ∷ 0 ∷ 1 ∷ 0 ∷ 0 ∷ 0 ∷ 16 ∷ 0 ∷ 0 ∷ []) (1 ∷ 500 ∷ 1_500 ∷ 7 ∷ 7 ∷ []) 1

-- it goes on after a refused report
abbrev pub batch_goes_on : Example
batch_goes_on =
    gives_batch table_e (wait_at 100 ++ wait_at 50 ++ frame_at 1_000 0 1 500 ++ frame_at 1_000 0 1 500 ++ wait_at 1_500) (sevens 15) (sevens 6)
    0 (0 ∷ 0 ∷ 0 ∷ 12 ∷ 0 ∷ 0 ∷ 0 ∷ 0 ∷ 0 ∷ 15 ∷ 0 ∷ 0 ∷ 0 ∷ 0 ∷ 1 ∷ []) (1 ∷ 500 ∷ 1_500 ∷ 7 ∷ 7 ∷ 7 ∷ []) 1

-- no number is cut: 65,537 is no link's, 256 no line, 66,036 no length, 2^48 no tick
abbrev pub batch_uncut : Example
batch_uncut =
    gives_batch table_e (frame_at 1_000 0 65_537 500 ++ frame_at 2_000 0 1 66_036 ++ frame_at 2_000 256 1 500 ++ wait_at 281_474_976_710_656) (sevens 12) (sevens 6)
    0 (0 ∷ 1 ∷ 0 ∷ 14 ∷ 0 ∷ 0 ∷ 13 ∷ 0 ∷ 0 ∷ 11 ∷ 0 ∷ 0 ∷ []) (sevens 6) 0

-- 19: "list length not a multiple of 5 or an unknown form", wherever it stands, 2^32 among them. 20: "answer list too short for three numbers
-- a report". "in that order"
abbrev pub third_of : ℕ → List ℕ
third_of form = frame_at 1_000 1 2 1_000 ++ frame_at 1_001 0 1 500 ++ (form ∷ 5_000 ∷ 0 ∷ 1 ∷ 500 ∷ [])

abbrev pub batch_form : Example
batch_form = refuses_batch (third_of 2) 9 19

abbrev pub batch_wide_form : Example
batch_wide_form = refuses_batch (third_of 4_294_967_296) 9 19

abbrev pub batch_part : Example
batch_part = refuses_batch (reports_two ++ (0 ∷ 5_000 ∷ 0 ∷ 0 ∷ [])) 9 19

abbrev pub batch_no_room : Example
batch_no_room = refuses_batch reports_two 8 20

abbrev pub batch_both : Example
batch_both = refuses_batch (third_of 2) 8 19

-- no reports: 0, and never 20
abbrev pub batch_none : Example
batch_none = gives_batch table_e [] [] (sevens 6) 0 [] (sevens 6) 0

-- ---- through the C interface

-- a number below 65,536 "in 8 little-endian bytes", by its two lowest bytes
abbrev pub eight_bytes : ℕ → ℕ → List ℕ
eight_bytes lowest next = lowest ∷ next ∷ replicate 6 0

abbrev pub zeros : ℕ → List ℕ
zeros n = replicate n 0

-- reports_two with an answer list of 73 bytes and a departure list of 55: the bytes behind whole numbers stay as found. Of 48
-- bytes; of 47, of which "only whole numbers count", five
abbrev pub bytes_two : Example
bytes_two =
    gives_bytes (table_bytes table_e)
    (eight_bytes 1 0 ++ eight_bytes 232 3 ++ eight_bytes 1 0 ++ eight_bytes 2 0 ++ eight_bytes 232 3
    ++ eight_bytes 1 0 ++ eight_bytes 233 3 ++ eight_bytes 0 0 ++ eight_bytes 1 0 ++ eight_bytes 244 1
    ++ eight_bytes 0 0 ++ eight_bytes 136 19 ++ sevens 24)
    (sevens 73) (sevens 55)
    0 (zeros 64 ++ (2 ∷ zeros 7) ++ sevens 1)
    (eight_bytes 2 0 ++ eight_bytes 232 3 ++ eight_bytes 208 7 ++ eight_bytes 1 0 ++ eight_bytes 244 1 ++ eight_bytes 196 9 ++ sevens 7)

abbrev pub bytes_fits : Example
bytes_fits = gives_bytes (table_bytes table_e) (bytes_of reports_two) (sevens 72) (sevens 48) 0 (zeros 64 ++ (2 ∷ zeros 7)) (bytes_of departures_two)

abbrev pub bytes_short : Example
bytes_short = gives_bytes (table_bytes table_e) (bytes_of reports_two) (sevens 72) (sevens 47) 0 (zeros 48 ++ (16 ∷ zeros 23)) (sevens 47)

-- a call in bytes that is refused: both lists as found
abbrev pub refuses_bytes : List ℕ → List ℕ → ℕ → ℕ → Example
refuses_bytes file reports room n = gives_bytes file reports (sevens room) (sevens 55) n (sevens room) (sevens 55)

abbrev pub bytes_no_room : Example
bytes_no_room = refuses_bytes (table_bytes table_e) (bytes_of reports_two) 71 20

abbrev pub bytes_both : Example
bytes_both = refuses_bytes (table_bytes table_e) (bytes_of (third_of 4_294_967_296)) 71 19

-- "A report list that is no multiple of 40 bytes is 19": 44 bytes, though their five whole numbers are a report. "refusals of the file come
-- before all others": 39 bytes, and a byte behind the file
abbrev pub bytes_part : Example
bytes_part = refuses_bytes (table_bytes table_e) (bytes_of (wait_at 0) ++ zeros 4) 24 19

abbrev pub bytes_bad_file : Example
bytes_bad_file = refuses_bytes (table_bytes table_e ++ zeros 1) (zeros 39) 0 7

abbrev pub bytes_none : Example
bytes_none = gives_bytes (table_bytes table_e) [] (sevens 7) (sevens 55) 0 (sevens 7) (sevens 55)

-- ---- the next switch on the way

abbrev pub onward : ℕ → List VirtualLink → Next
onward lines rows = record { refused = 0; table = record { lines = lines; links = rows; sizes = replicate 8 0 } }

abbrev pub no_next : ℕ → Next
no_next n = record { refused = n; table = blank_table }

-- the two links of E on the lines given, with line, code, least length and jitter of the first, and line, code and jitter of the second
abbrev pub links_e : ℕ → ℕ → ℕ → ℕ → ℕ → ℕ → ℕ → List VirtualLink
links_e line code least jitter line' code' jitter' =
    record { number = 1; line = line; priority = 0; code = code; least = least; greatest = 500; jitter = jitter }
    ∷ record { number = 2; line = line'; priority = 1; code = code'; least = 84; greatest = 1_000; jitter = jitter' }
    ∷ []

abbrev pub varied_e : ℕ → ℕ → ℕ → ℕ → ℕ → Table
varied_e code least jitter code' jitter' = table_of 2 (links_e 0 code least jitter 1 code' jitter') (2_000 ∷ 2_000 ∷ [])

-- E to line 3 of 5: 0 + 1,499 − 84 and 0 + 1,500 − 84; with link 1's least 100
abbrev pub next_e : Example
next_e = gives_next table_e 3 5 (onward 5 (links_e 3 0 84 1_415 3 0 1_416))

abbrev pub next_least : Example
next_least = gives_next (varied_e 0 100 0 0 0) 3 5 (onward 5 (links_e 3 0 100 1_399 3 0 1_416))

-- link 1 of code 7, least 100 and jitter 123,601: exactly 125,000; with 123,602, 21. So of link 2 alone
abbrev pub next_most : Example
next_most = gives_next (varied_e 7 100 123_601 0 0) 3 5 (onward 5 (links_e 3 7 100 125_000 3 0 1_416))

abbrev pub next_past : Example
next_past = gives_next (varied_e 7 100 123_602 0 0) 3 5 (no_next 21)

abbrev pub next_second : Example
next_second = gives_next (varied_e 0 84 0 7 123_585) 3 5 (no_next 21)

-- 22 first, then 3; line 23 of 24 is there
abbrev pub next_count : Example
next_count = gives_next table_e 5 5 (no_next 22)

abbrev pub next_none : Example
next_none = gives_next table_e 0 0 (no_next 22)

abbrev pub next_far : Example
next_far = gives_next table_e 30 24 (no_next 22)

abbrev pub next_many : Example
next_many = gives_next table_e 24 25 (no_next 3)

abbrev pub next_last : Example
next_last = gives_next table_e 23 24 (onward 24 (links_e 23 0 84 1_415 23 0 1_416))

-- 8 before 21: priority 0 has a hold, with which link 1's jitter would be 131,953
abbrev pub jittery : ℕ → ℕ → ℕ → ℕ → VirtualLink
jittery number line priority greatest = record { number = number; line = line; priority = priority; code = 0; least = 84; greatest = greatest; jitter = 125_000 }

abbrev pub table_j : Table
table_j = table_of 2 (jittery 1 0 0 500 ∷ jittery 2 1 7 1_538 ∷ jittery 3 1 7 1_538 ∷ jittery 4 1 7 1_538 ∷ []) []

abbrev pub next_unheld : Example
next_unheld = gives_next table_j 3 5 (no_next 8)

abbrev pub hold_j : Example
hold_j = gives_hold table_j 0 7_037

-- two hops: what leaves E, and what the next port does with it; with jitters one less it polices the last
abbrev pub hop_one : Example
hop_one =
    gives_answers table_e (lent (frame 1_000 1 2 1_000) ∷ lent (frame 1_001 0 1 500) ∷ lent (frame 13_501 0 1 84) ∷ lent (wait 20_000) ∷ [])
    (gives 0 0 0 [] ∷ gives 0 0 0 [] ∷ gives 0 2 1_460 (2 ∷ 1_000 ∷ 2_000 ∷ 1 ∷ 500 ∷ 2_500 ∷ []) ∷ gives 0 1 64 (1 ∷ 84 ∷ 13_585 ∷ []) ∷ [])

abbrev pub calls_hop : List Call
calls_hop = lent (frame 2_000 3 2 1_000) ∷ lent (frame 2_500 3 1 500) ∷ lent (frame 13_585 3 1 84) ∷ []

abbrev pub hop_two : Example
hop_two =
    gives_answers (table_of 5 (links_e 3 0 84 1_415 3 0 1_416) (2_000 ∷ 2_000 ∷ [])) calls_hop
    (gives 0 0 0 [] ∷ gives 0 0 0 [] ∷ gives 0 2 1_460 (2 ∷ 1_000 ∷ 3_000 ∷ 1 ∷ 500 ∷ 3_500 ∷ []) ∷ [])

abbrev pub hop_sharp : Example
hop_sharp =
    gives_answers (table_of 5 (links_e 3 0 84 1_414 3 0 1_415) (2_000 ∷ 2_000 ∷ [])) calls_hop
    (gives 0 0 0 [] ∷ gives 0 0 0 [] ∷ gives 2 2 1_460 (2 ∷ 1_000 ∷ 3_000 ∷ 1 ∷ 500 ∷ 3_500 ∷ []) ∷ [])

abbrev pub hops : List Example
hops =
    next_e ∷ next_least ∷ next_most ∷ next_past ∷ next_second ∷ next_count ∷ next_none ∷ next_far ∷ next_many ∷ next_last ∷ next_unheld ∷ hold_j ∷ hop_one ∷ hop_two ∷ hop_sharp ∷ []

-- ---- lines oversold

-- on one of two lines, of code 0 and without jitter, eight links of 1,538 and one of the length given
abbrev pub nine_on : ℕ → ℕ → List VirtualLink
nine_on line last =
    plain 0 line 0 1_538
    ∷ plain 1 line 0 1_538
    ∷ plain 2 line 0 1_538
    ∷ plain 3 line 0 1_538
    ∷ plain 4 line 0 1_538
    ∷ plain 5 line 0 1_538
    ∷ plain 6 line 0 1_538
    ∷ plain 7 line 0 1_538
    ∷ plain 8 line 0 last
    ∷ []

-- FULL: "exactly 1,600,000, passes, priority 0 (3075, 12500, 1557)". OVER: 23, and so the answer of its bounds
abbrev pub table_full : Table
table_full = table_of 2 (nine_on 0 196) []

abbrev pub table_over : Table
table_over = table_of 2 (nine_on 0 197) []

abbrev pub full_passes : Example
full_passes = meets table_full 0

abbrev pub full_bound : Example
full_bound = gives_bound table_full 0 3_075 12_500 1_557

abbrev pub over : Example
over = meets table_over 23

abbrev pub over_bounds : Example
over_bounds = lacks_bounds table_over 23

-- 23 before 6
abbrev pub over_sized : Example
over_sized = meets (table_of 2 (nine_on 0 197) (16_385 ∷ [])) 23

-- SPREAD: "FULL with one of 84, code 7, on line 1: passes, then 8". "OVER on line 1: 23"
abbrev pub table_spread : Table
table_spread = table_of 2 (nine_on 0 196 ++ (record { number = 9; line = 1; priority = 0; code = 7; least = 84; greatest = 84; jitter = 0 } ∷ [])) []

abbrev pub spread_passes : Example
spread_passes = meets table_spread 0

abbrev pub spread_bounds : Example
spread_bounds = lacks_bounds table_spread 8

abbrev pub over_last : Example
over_last = meets (table_of 2 (nine_on 1 197) []) 23

-- "n links of 1,538: 8 pass and 9 are 23 at code 0; 16 and 17 at code 1; 130 and 131 at code 4; 256 pass at codes 5 and 7"
abbrev pub alike_meet : ℕ → ℕ → ℕ → Example
alike_meet code n refused = meets (table_of 1 (alike code 0 n) []) refused

abbrev pub eight_of_zero : Example
eight_of_zero = alike_meet 0 8 0

abbrev pub nine_of_zero : Example
nine_of_zero = alike_meet 0 9 23

abbrev pub sixteen_of_one : Example
sixteen_of_one = alike_meet 1 16 0

abbrev pub seventeen_of_one : Example
seventeen_of_one = alike_meet 1 17 23

abbrev pub carried_of_four : Example
carried_of_four = alike_meet 4 130 0

abbrev pub oversold_of_four : Example
oversold_of_four = alike_meet 4 131 23

abbrev pub all_of_five : Example
all_of_five = alike_meet 5 256 0

abbrev pub all_of_seven : Example
all_of_seven = alike_meet 7 256 0

-- "with the size record cut, cut in its header, of another kind, with a size of 16,385, with a byte behind". It has 36 of the 206 bytes
abbrev pub cut_file : List VirtualLink → List ℕ
cut_file links = take 205 (table_bytes (table_of 2 links []))

abbrev pub cut_header : List VirtualLink → List ℕ
cut_header links = take 173 (table_bytes (table_of 2 links []))

abbrev pub other_kind : List VirtualLink → List ℕ
other_kind links = set (table_bytes (table_of 2 links [])) 172 4

abbrev pub large_size : List VirtualLink → List ℕ
large_size links = table_bytes (table_of 2 links (16_385 ∷ []))

abbrev pub byte_behind : List VirtualLink → List ℕ
byte_behind links = table_bytes (table_of 2 links []) ++ (0 ∷ [])

-- OVER's: "23 each"
abbrev pub over_cut : Example
over_cut = reading_meets (cut_file (nine_on 0 197)) 23

abbrev pub over_cut_header : Example
over_cut_header = reading_meets (cut_header (nine_on 0 197)) 23

abbrev pub over_other_kind : Example
over_other_kind = reading_meets (other_kind (nine_on 0 197)) 23

abbrev pub over_large_size : Example
over_large_size = reading_meets (large_size (nine_on 0 197)) 23

abbrev pub over_byte_behind : Example
over_byte_behind = reading_meets (byte_behind (nine_on 0 197)) 23

-- "FULL's: 1, 1, 2, 6, 7"
abbrev pub full_cut : Example
full_cut = reading_meets (cut_file (nine_on 0 196)) 1

abbrev pub full_cut_header : Example
full_cut_header = reading_meets (cut_header (nine_on 0 196)) 1

abbrev pub full_other_kind : Example
full_other_kind = reading_meets (other_kind (nine_on 0 196)) 2

abbrev pub full_large_size : Example
full_large_size = reading_meets (large_size (nine_on 0 196)) 6

abbrev pub full_byte_behind : Example
full_byte_behind = reading_meets (byte_behind (nine_on 0 196)) 7

-- "OVER with a tenth link that is cut, out of range, repeated: 1, 4, 5"
abbrev pub with_tenth : VirtualLink → List ℕ
with_tenth v = table_bytes (table_of 2 (nine_on 0 197 ++ (v ∷ [])) [])

abbrev pub tenth_cut : Example
tenth_cut = reading_meets (take 187 (with_tenth (plain 9 1 0 84))) 1

abbrev pub tenth_past : Example
tenth_past = reading_meets (with_tenth (plain 9 2 0 84)) 4

abbrev pub tenth_repeated : Example
tenth_repeated = reading_meets (with_tenth (plain 8 1 0 84)) 5

-- the writer's 23 before its 9, in the chain that of the table itself, and the port of OVER
abbrev pub over_written : Example
over_written = writing_meets table_over 0 23

abbrev pub full_written : Example
full_written = writing_meets table_full 205 9

abbrev pub next_over : Example
next_over = gives_next table_over 0 1 (no_next 23)

abbrev pub over_unfit : Example
over_unfit = unfit table_over

abbrev pub carriage : List Example
carriage =
    full_passes ∷ full_bound ∷ over ∷ over_bounds ∷ over_sized ∷ spread_passes ∷ spread_bounds ∷ over_last
    ∷ eight_of_zero ∷ nine_of_zero ∷ sixteen_of_one ∷ seventeen_of_one ∷ carried_of_four ∷ oversold_of_four ∷ all_of_five ∷ all_of_seven
    ∷ over_cut ∷ over_cut_header ∷ over_other_kind ∷ over_large_size ∷ over_byte_behind
    ∷ full_cut ∷ full_cut_header ∷ full_other_kind ∷ full_large_size ∷ full_byte_behind ∷ tenth_cut ∷ tenth_past ∷ tenth_repeated
    ∷ over_written ∷ full_written ∷ next_over ∷ over_unfit ∷ []

-- ---- counts

abbrev pub counters_e : ℕ → ℕ → ℕ → ℕ → List ℕ → ℕ → Counters
counters_e stored filtered policed dropped second unknown = record { links = (stored ∷ filtered ∷ policed ∷ dropped ∷ []) ∷ second ∷ []; unknown = unknown }

abbrev pub summed : ℕ → ℕ → ℕ → Sums
summed first second total = record { refused = 0; sums = first ∷ second ∷ []; has_total = true; total = total }

abbrev pub unsummed : ℕ → ℕ → Sums
unsummed first second = record { refused = 0; sums = first ∷ second ∷ []; has_total = false; total = 0 }

-- "Table E; (tick, line, number, length) and what comes of it: (1001, 0, 1, 500) 0; (13500, 0, 1, 500) 2; (13900, 1, 1, 300) 1; (14001, 0, 1,
-- 501) 1; (14200, 0, 9, 84) 1; (14300, 0, 65537, 84) 1; (14310, 0, 1, 84) refused 15; wait 15000; (15000, 7, 1, 84) refused 13; (16000, 1, 2,
-- 1000) 0. Counts .. of link 1: 1, 2, 1, 0; of link 2: 1, 0, 0, 0; unknown 2; sums 4 and 1; total 7"
abbrev pub rig_day : Example
rig_day =
    gives_counts table_e (none_counted 2)
    (
    lent (frame 1_001 0 1 500)
    ∷ lent (frame 13_500 0 1 500)
    ∷ lent (frame 13_900 1 1 300)
    ∷ lent (frame 14_001 0 1 501)
    ∷ lent (frame 14_200 0 9 84)
    ∷ lent (frame 14_300 0 65_537 84)
    ∷ lent (frame 14_310 0 1 84)
    ∷ lent (wait 15_000)
    ∷ lent (frame 15_000 7 1 84)
    ∷ lent (frame 16_000 1 2 1_000)
    ∷ []
    )
    (
    (0 ∷ 0 ∷ [])
    ∷ (0 ∷ 2 ∷ [])
    ∷ (0 ∷ 1 ∷ [])
    ∷ (0 ∷ 1 ∷ [])
    ∷ (0 ∷ 1 ∷ [])
    ∷ (0 ∷ 1 ∷ [])
    ∷ (15 ∷ 0 ∷ [])
    ∷ (0 ∷ 0 ∷ [])
    ∷ (13 ∷ 0 ∷ [])
    ∷ (0 ∷ 0 ∷ [])
    ∷ []
    )
    (counters_e 1 2 1 0 (1 ∷ 0 ∷ 0 ∷ 0 ∷ []) 2)
    (summed 4 1 7)

-- "A record of E with link 1's stored count at 2^52 − 1 and all others 0 has a total; one more stored: 2^52, the sum is given, no total;
-- again: stays"
abbrev pub stored_e : ℕ → Counters
stored_e stored = counters_e stored 0 0 0 (0 ∷ 0 ∷ 0 ∷ 0 ∷ []) 0

abbrev pub nearly_full : Example
nearly_full = gives_counts table_e (stored_e (full_count - 1)) [] [] (stored_e (full_count - 1)) (summed (full_count - 1) 0 (full_count - 1))

abbrev pub now_full : Example
now_full = gives_counts table_e (stored_e (full_count - 1)) (lent (frame 1_001 0 1 500) ∷ []) ((0 ∷ 0 ∷ []) ∷ []) (stored_e full_count) (unsummed full_count 0)

abbrev pub stays_full : Example
stays_full =
    gives_counts table_e (stored_e (full_count - 1)) (lent (frame 1_001 0 1 500) ∷ lent (frame 13_501 0 1 500) ∷ []) ((0 ∷ 0 ∷ []) ∷ (0 ∷ 0 ∷ []) ∷ [])
    (stored_e full_count) (unsummed full_count 0)

-- "2^52 + 1: refused with 10", the report and the call
abbrev pub past_full : Example
past_full =
    gives_counts table_e (stored_e (suc full_count)) (lent (frame 1_001 0 1 500) ∷ []) ((10 ∷ 0 ∷ []) ∷ [])
    (stored_e (suc full_count)) (record { refused = 10; sums = []; has_total = false; total = 0 })

-- "All nine counts of table E at 2^52 − 1: total 9 × (2^52 − 1)": no sum is too large for one
abbrev pub all_nearly_full : Example
all_nearly_full =
    let n = full_count - 1 in
    gives_counts table_e (counters_e n n n n (replicate 4 n) n) [] [] (counters_e n n n n (replicate 4 n) n) (summed (4 * n) (4 * n) (9 * n))

-- the unknown count is full, and an unknown number comes
abbrev pub unknown_full : Example
unknown_full =
    gives_counts table_e (counters_e 0 0 0 0 (0 ∷ 0 ∷ 0 ∷ 0 ∷ []) full_count) (lent (frame 1_001 0 9 84) ∷ []) ((0 ∷ 1 ∷ []) ∷ [])
    (counters_e 0 0 0 0 (0 ∷ 0 ∷ 0 ∷ 0 ∷ []) full_count) (unsummed 0 0)

abbrev pub adding : List Example
adding = rig_day ∷ nearly_full ∷ now_full ∷ stays_full ∷ past_full ∷ all_nearly_full ∷ unknown_full ∷ []

-- ---- edits of a table

-- E, with another link in the place of link 2
abbrev pub with_second : VirtualLink → Table
with_second v = table_of 2 (plain 1 0 0 500 ∷ v ∷ []) (2_000 ∷ 2_000 ∷ [])

-- "E with link 2 moved to priority 5 with jitter 125,000: priority 0 stays (480, 1499, 0)"
abbrev pub moved_e : Table
moved_e = with_second (record { number = 2; line = 1; priority = 5; code = 0; least = 84; greatest = 1_000; jitter = 125_000 })

abbrev pub moved_stays : Example
moved_stays = gives_bound moved_e 0 480 1_499 0

-- "E with link 2 of 1,001: (480, 1500, 0), (981, 1501, 0)"
abbrev pub longer_e : Table
longer_e = with_second (plain 2 1 1 1_001)

abbrev pub longer_first : Example
longer_first = gives_bound longer_e 0 480 1_500 0

abbrev pub longer_second : Example
longer_second = gives_bound longer_e 1 981 1_501 0

-- "Windows may fall": O, with jitter 12,001 first at its bound 499 ticks in (window_o1), "jitter 12,500 window 480"
abbrev pub window_o2 : Example
window_o2 = gives_bound (late 12_500) 0 960 1_000 480

abbrev pub edits : List Example
edits = moved_stays ∷ longer_first ∷ longer_second ∷ window_o2 ∷ []

-- ---- how much jitter is left

abbrev pub left : ℕ → Margin
left jitter = record { refused = 0; jitter = jitter }

abbrev pub none_left : ℕ → Margin
none_left n = record { refused = n; jitter = 0 }

abbrev pub sizes_e : ℕ → ℕ → Table
sizes_e first second = table_of 2 (plain 1 0 0 500 ∷ plain 2 1 1 1_000 ∷ []) (first ∷ second ∷ [])

-- "E: link 1: 125,000; link 2: 22,501": with a tick more a third frame comes before the second has begun to leave. "with a size of 2,001 and
-- of 1,999 for priority 1: 22,502 and 22,500"
abbrev pub left_first : Example
left_first = gives_margin table_e 1 (left 125_000)

abbrev pub left_second : Example
left_second = gives_margin table_e 2 (left 22_501)

abbrev pub left_more : Example
left_more = gives_margin (sizes_e 2_000 2_001) 2 (left 22_502)

abbrev pub left_less : Example
left_less = gives_margin (sizes_e 2_000 1_999) 2 (left 22_500)

-- "E with sizes 480 and 980: link 1: 11,001". "E with 479 for priority 0: 25 for link 2", whose own size would do
abbrev pub left_tight : Example
left_tight = gives_margin (sizes_e 480 980) 1 (left 11_001)

abbrev pub left_none : Example
left_none = gives_margin (sized_e 479) 2 (none_left 25)

-- "FULL with all sizes 16,384: 0 for its link of 196"
abbrev pub left_full : Example
left_full = gives_margin (table_of 2 (nine_on 0 196) (replicate 8 16_384)) 8 (left 0)

-- "Links 1 to 3 of 1,538, priority 0, jitter 125,000, all sizes 16,384, on one line: no bounds as it stands, link 2: 63,480; on three lines: 25"
abbrev pub three_late : Table
three_late = table_of 1 (jittery 1 0 0 1_538 ∷ jittery 2 0 0 1_538 ∷ jittery 3 0 0 1_538 ∷ []) (replicate 8 16_384)

abbrev pub late_lacks : Example
late_lacks = lacks_bounds three_late 8

abbrev pub left_late : Example
left_late = gives_margin three_late 2 (left 63_480)

abbrev pub left_apart : Example
left_apart = gives_margin (table_of 3 (jittery 1 0 0 1_538 ∷ jittery 2 1 0 1_538 ∷ jittery 3 2 0 1_538 ∷ []) (replicate 8 16_384)) 2 (none_left 25)

-- 24, and 23 before it
abbrev pub left_unknown : Example
left_unknown = gives_margin table_e 3 (none_left 24)

abbrev pub left_over : Example
left_over = gives_margin table_over 9 (none_left 23)

abbrev pub margins : List Example
margins =
    left_first ∷ left_second ∷ left_more ∷ left_less ∷ left_tight ∷ left_none ∷ left_full ∷ late_lacks ∷ left_late ∷ left_apart ∷ left_unknown ∷ left_over ∷ []

-- ---- the handful that breaks a table

abbrev pub remain : Table → List VirtualLink → Core
remain t links = record { refused = 0; table = with_links t links }

abbrev pub no_core : ℕ → Core
no_core n = record { refused = n; table = blank_table }

-- "J4, four links of 1,538, jitter 125,000, code 0, on four lines: links 2, 3, 4"
abbrev pub table_j4 : Table
table_j4 = table_of 4 (jittery 1 0 0 1_538 ∷ jittery 2 1 0 1_538 ∷ jittery 3 2 0 1_538 ∷ jittery 4 3 0 1_538 ∷ []) []

abbrev pub core_j4 : Example
core_j4 = gives_core table_j4 (remain table_j4 (jittery 2 1 0 1_538 ∷ jittery 3 2 0 1_538 ∷ jittery 4 3 0 1_538 ∷ []))

-- "J5: links 1, 3, 4 such, links 2 and 5 of 84, code 7, without jitter: 1, 3, 4"
abbrev pub table_j5 : Table
table_j5 = table_of 4 (jittery 1 0 0 1_538 ∷ coded 7 2 84 ∷ jittery 3 2 0 1_538 ∷ jittery 4 3 0 1_538 ∷ coded 7 5 84 ∷ []) []

abbrev pub core_j5 : Example
core_j5 = gives_core table_j5 (remain table_j5 (jittery 1 0 0 1_538 ∷ jittery 3 2 0 1_538 ∷ jittery 4 3 0 1_538 ∷ []))

-- "Three such followed by the 43 of example j: the 43; the 43 first: the three"
abbrev pub three_from : ℕ → List VirtualLink
three_from number = jittery number 1 0 1_538 ∷ jittery (1 + number) 2 0 1_538 ∷ jittery (2 + number) 3 0 1_538 ∷ []

abbrev pub busy_from : ℕ → List VirtualLink
busy_from number = alike 7 number 42 ++ (coded 7 (42 + number) 941 ∷ [])

abbrev pub three_then_busy : Table
three_then_busy = table_of 4 (three_from 0 ++ busy_from 3) []

abbrev pub core_busy : Example
core_busy = gives_core three_then_busy (remain three_then_busy (busy_from 3))

abbrev pub busy_then_three : Table
busy_then_three = table_of 4 (busy_from 0 ++ three_from 43) []

abbrev pub core_three : Example
core_three = gives_core busy_then_three (remain busy_then_three (three_from 43))

-- "E with all sizes 0: 26"; and 23 before it
abbrev pub core_none : Example
core_none = gives_core (sizes_e 0 0) (no_core 26)

abbrev pub core_over : Example
core_over = gives_core table_over (no_core 23)

-- what is sold of a line, rounded up: 123.04 thousandths; one, and a little more; and of a line without a link
abbrev pub sold_j4 : Example
sold_j4 = gives_sold table_j4 1 124

abbrev pub sold_exact : Example
sold_exact = gives_sold (table_of 2 (coded 3 1 100 ∷ []) []) 0 1

abbrev pub sold_more : Example
sold_more = gives_sold (table_of 2 (coded 3 1 101 ∷ []) []) 0 2

abbrev pub sold_none : Example
sold_none = gives_sold (table_of 2 (coded 3 1 101 ∷ []) []) 1 0

abbrev pub cores : List Example
cores = core_j4 ∷ core_j5 ∷ core_busy ∷ core_three ∷ core_none ∷ core_over ∷ sold_j4 ∷ sold_exact ∷ sold_more ∷ sold_none ∷ []

abbrev pub batches : List Example
batches =
    batch_two ∷ batch_short ∷ batch_rest ∷ batch_goes_on ∷ batch_uncut ∷ batch_form ∷ batch_wide_form ∷ batch_part ∷ batch_no_room ∷ batch_both ∷ batch_none
    ∷ bytes_two ∷ bytes_fits ∷ bytes_short ∷ bytes_no_room ∷ bytes_both ∷ bytes_part ∷ bytes_bad_file ∷ bytes_none ∷ []

abbrev pub words : List Example
words =
    held_d0 ∷ held_d1 ∷ held_r1 ∷ held_n0 ∷ held_v0 ∷ fates_e ∷ fates_f ∷ fates_n ∷ fates_p ∷ fates_q ∷ fates_v ∷ fates_w ∷ keeps_f ∷ keeps_v ∷ breaks_e ∷ breaks_w ∷ []

abbrev pub selections : List Example
selections = map selects recordings

abbrev pub examples : List Example
examples =
    a ∷ b ∷ c ∷ d ∷ e ∷ f ∷ g ∷ h ∷ i ∷ j ∷ k ∷ l ∷ m ∷ n ∷ o ∷ p ∷ q ∷ r ∷ s ∷ t ∷ u ∷ v ∷ w ∷ x ∷ y
    ∷ sizing_e ∷ window_k ∷ window_p ∷ window_o0 ∷ window_o1 ∷ window_nt0 ∷ window_nt3 ∷ sizing_nt ∷ bound_c ∷ filled_c ∷ sheet_e ∷ sheet_nt ∷ (words ++ (selections ++ (batches ++ (hops ++ (carriage ++ (adding ++ (edits ++ (margins ++ cores))))))))

abbrev pub ExamplesCorrect : Type 0
ExamplesCorrect = Each Correct examples
