-- The examples that are computed from the definitions alone.
use mathlib.Core.Path.{◌≡◌, refl, ap}
use mathlib.Core.Bool.{Bool, true, false, ◌&&◌, not, and-eq-true_iff}
use mathlib.Core.List.{List, [], ◌∷◌, flat_map}
use Prim.Native.Nat.{ℕ}
use native.Mathlib.Omega.{arith}
use lib.Dec.{eqb}
use lib.ListN.{get_or, drop, replicate}
use borrow.Author.Tests.{eqb-true, not-true}
use Rattle.model.specs.Basics.{provided, sum_to, greatest_to, all_to, all_hold, first_from, further, first_met}
use Rattle.model.specs.Units.{occupied}
use Rattle.model.specs.Link.{bag_of, place_of, any_of, sum_over, greatest_over}
use Rattle.model.specs.Table.{Table, counts_in_range, fields_in_range, not_above, links_checks, reservation, reserved_on, none_oversold, all_at_most, table_checks, table_refusal}
use Rattle.model.specs.Arrival.{frame_curve, on_line, line_curve, arrival_curve}
use Rattle.model.specs.Bounds.{of_priority, up_to, beyond, own_arrivals, up_arrivals, longest, blocking, hold_test, hold_by, hold_of, backlog, bound_within, is_there, or_zero, window_within, bounds_refusal, hold, bound, window}
use Rattle.model.specs.Digits.{digits_of, from_digits}
use Rattle.model.specs.TableFile.{record_bytes, counts_body, link_body, sizes_body, table_bytes, header_checks, link_read, sizes_read, count_record_checks, link_record_checks, sizes_record_checks, stop_or, read_sizes, read_links, read_table, write_table}
use Rattle.model.specs.Sheet.{text, sheet}
use Rattle.model.specs.Machine.{highest_waiting, start_if_any, started, freed_if, byte_leaves, tick, ticks, advance, bytes, frames_held}
use Rattle.model.specs.Counters.{risen, counted, every_count}
use Rattle.model.specs.Port.{fresh}
use Rattle.model.specs.Fitness.{names_link, frames_fit, sender_fit, fit}
use Rattle.model.specs.Report.{tick_of, frame_checks, report_checks, all_checks, report_refusal, admits, admitted, replenished, charged, checked_if, police, police_at, has_room, stored_if, store, passed_if, judge, judge_report, counted_by, bytes_freed, accepted_or, step}
use Rattle.model.specs.OverloadCore.{sold_on}
use Rattle.model.specs.Run.{run}
use Rattle.model.specs.Batch.{answer_batch, batch_file}
use Rattle.model.specs.Examples.{Outcome, Example, gives_bound, gives_hold, gives_sizing, lacks_bounds, gives_answers, gives_held, gives_fates, keeps, breaks, fills, gives_bags, gives_sheet, selects, gives_batch, gives_bytes, gives_next, meets, reading_meets, writing_meets, unfit, gives_counts, gives_margin, gives_core, gives_sold, outcomes, Correct}
use Rattle.model.specs.Examples as example
use Rattle.model.proofs.Bags.{bag_constants}

-- ---- the common theorem: an example whose test computes to true is correct

unfoldable pub same_numbers : List ℕ → List ℕ → Bool
same_numbers [] [] = true
same_numbers [] (b ∷ ys) = false
same_numbers (a ∷ xs) [] = false
same_numbers (a ∷ xs) (b ∷ ys) = eqb a b && same_numbers xs ys

abbrev pub numbers_of : Outcome → List ℕ
numbers_of a = a.answer.refused ∷ a.answer.verdict ∷ a.answer.frames ∷ a.answer.bytes ∷ a.list

abbrev outcome_from : List ℕ → Outcome
outcome_from l = record { answer = record { refused = get_or l 0 0; verdict = get_or l 1 0; frames = get_or l 2 0; bytes = get_or l 3 0 }; list = drop 4 l }

unfoldable pub same_outcome : Outcome → Outcome → Bool
same_outcome a b = same_numbers (numbers_of a) (numbers_of b)

unfoldable pub same_outcomes : List Outcome → List Outcome → Bool
same_outcomes [] [] = true
same_outcomes [] (b ∷ ys) = false
same_outcomes (a ∷ xs) [] = false
same_outcomes (a ∷ xs) (b ∷ ys) = same_outcome a b && same_outcomes xs ys

-- how a bound, a hold and a window are computed: by the definitions, or as in FormulaExamples
abbrev pub Way : Type 0
Way = Table → ℕ → ℕ → ℕ → ℕ → Bool

unfoldable pub literally : Way
literally t p b h w = same_numbers (hold t p ∷ bound_within t p h ∷ window_within t p h ∷ []) (h ∷ b ∷ w ∷ [])

unfoldable pub computes : Way → Example → Bool
computes way (gives_bound t p b h w) = way t p b h w
computes way (gives_hold t p h) = eqb (hold t p) h
computes way (lacks_bounds t n) = eqb (bounds_refusal t) n
computes way (gives_answers t calls expected) = same_outcomes (outcomes t calls) expected
computes way (gives_sheet t printed) = same_numbers (sheet (table_bytes t)) (text printed)
computes way (gives_batch t reports answers list refused answersAfter listAfter departures) =
    let o = answer_batch t (fresh t) reports answers list in
    eqb o.refused refused && (same_numbers o.answers answersAfter && (same_numbers o.list listAfter && eqb o.departures departures))
computes way (gives_bytes file reports answers list refused answersAfter listAfter) =
    let o = batch_file file reports answers list in
    eqb o.refused refused && (same_numbers o.answers answersAfter && same_numbers o.list listAfter)
computes way (meets t n) = eqb (table_refusal t) n
computes way (reading_meets file n) = eqb (read_table file).refused n
computes way (writing_meets t room n) = eqb (write_table t (replicate room 0)).refused n
computes way (unfit t) = not (fit t (fresh t))
-- the whole answer is shown from its parts, in ClimbedExamples, the words of demand 3 from the answers, in ClauseExamples, a full buffer
-- in FullExamples, the eight BAGs in Bags, networks A and B in RedundancyExamples, the next table in NextExamples, counts in CountExamples, the
-- jitter that is left in MarginExamples, and the handful that breaks a table in CoreExamples and TrialExamples
computes way (gives_sizing t expected) = false
computes way (gives_held t calls p expected) = false
computes way (gives_fates t calls n expected) = false
computes way (keeps t calls i) = false
computes way (breaks t calls i) = false
computes way (fills t calls clock p frames mark) = false
computes way (gives_bags bags) = false
computes way (selects r) = false
computes way (gives_next t line lines expected) = false
computes way (gives_counts t before calls ruled after expected) = false
computes way (gives_margin t number expected) = false
computes way (gives_core t expected) = false
computes way (gives_sold t ℓ n) = eqb (sold_on t ℓ) n

numbers_equal : (xs ys : List ℕ) → same_numbers xs ys ≡ true → xs ≡ ys
unfolding same_numbers
numbers_equal [] [] e = refl
numbers_equal [] (y ∷ ys) e = absurd (let z : ◌≡◌ {A = ℕ} 0 1 = cc in omega arith)
numbers_equal (x ∷ xs) [] e = absurd (let z : ◌≡◌ {A = ℕ} 0 1 = cc in omega arith)
numbers_equal (x ∷ xs) (y ∷ ys) e =
    let s = (and-eq-true_iff (eqb x y) (same_numbers xs ys)).0 e in
    let h : x ≡ y = eqb-true x y s.0 in
    let t : xs ≡ ys = numbers_equal xs ys s.1 in
    cc

outcome_equal : (a b : Outcome) → same_outcome a b ≡ true → a ≡ b
unfolding same_outcome
outcome_equal a b e = ap outcome_from (numbers_equal (numbers_of a) (numbers_of b) e)

outcomes_equal : (xs ys : List Outcome) → same_outcomes xs ys ≡ true → xs ≡ ys
unfolding same_outcomes
outcomes_equal [] [] e = refl
outcomes_equal [] (y ∷ ys) e = absurd (let z : ◌≡◌ {A = ℕ} 0 1 = cc in omega arith)
outcomes_equal (x ∷ xs) [] e = absurd (let z : ◌≡◌ {A = ℕ} 0 1 = cc in omega arith)
outcomes_equal (x ∷ xs) (y ∷ ys) e =
    let s = (and-eq-true_iff (same_outcome x y) (same_outcomes xs ys)).0 e in
    let h : x ≡ y = outcome_equal x y s.0 in
    let t : xs ≡ ys = outcomes_equal xs ys s.1 in
    cc

abbrev pub Sound : Way → Type 0
Sound way = (t : Table) (p b h w : ℕ) → way t p b h w ≡ true → Correct (gives_bound t p b h w)

literally_sound : Sound literally
unfolding literally Correct bound window
literally_sound t p b h w e =
    let s : (hold t p ∷ bound_within t p h ∷ window_within t p h ∷ []) ≡ (h ∷ b ∷ w ∷ []) = numbers_equal (hold t p ∷ bound_within t p h ∷ window_within t p h ∷ []) (h ∷ b ∷ w ∷ []) e in
    let is : hold t p ≡ h = cc in
    (is, rw is cc, rw is cc)

pub settled_by : (way : Way) → Sound way → (e : Example) → computes way e ≡ true → Correct e
unfolding computes Correct
settled_by way sound (gives_bound t p b h w) e = sound t p b h w e
settled_by way sound (gives_hold t p h) e = eqb-true (hold t p) h e
settled_by way sound (lacks_bounds t n) e = eqb-true (bounds_refusal t) n e
settled_by way sound (gives_answers t calls expected) e = outcomes_equal (outcomes t calls) expected e
settled_by way sound (gives_sheet t printed) e = numbers_equal (sheet (table_bytes t)) (text printed) e
settled_by way sound (gives_batch t reports answers list refused answersAfter listAfter departures) e =
    let o = answer_batch t (fresh t) reports answers list in
    let s = (and-eq-true_iff (eqb o.refused refused) _).0 e in
    let r = (and-eq-true_iff (same_numbers o.answers answersAfter) _).0 s.1 in
    let q = (and-eq-true_iff (same_numbers o.list listAfter) (eqb o.departures departures)).0 r.1 in
    (eqb-true o.refused refused s.0, numbers_equal o.answers answersAfter r.0, numbers_equal o.list listAfter q.0, eqb-true o.departures departures q.1)
settled_by way sound (gives_bytes file reports answers list refused answersAfter listAfter) e =
    let o = batch_file file reports answers list in
    let s = (and-eq-true_iff (eqb o.refused refused) _).0 e in
    let r = (and-eq-true_iff (same_numbers o.answers answersAfter) (same_numbers o.list listAfter)).0 s.1 in
    (eqb-true o.refused refused s.0, numbers_equal o.answers answersAfter r.0, numbers_equal o.list listAfter r.1)
settled_by way sound (meets t n) e = eqb-true (table_refusal t) n e
settled_by way sound (reading_meets file n) e = eqb-true (read_table file).refused n e
settled_by way sound (writing_meets t room n) e = eqb-true (write_table t (replicate room 0)).refused n e
settled_by way sound (unfit t) e = not-true (fit t (fresh t)) e
settled_by way sound (gives_sizing t expected) e = absurd (let z : ◌≡◌ {A = ℕ} 0 1 = cc in omega arith)
settled_by way sound (gives_held t calls p expected) e = absurd (let z : ◌≡◌ {A = ℕ} 0 1 = cc in omega arith)
settled_by way sound (gives_fates t calls n expected) e = absurd (let z : ◌≡◌ {A = ℕ} 0 1 = cc in omega arith)
settled_by way sound (keeps t calls i) e = absurd (let z : ◌≡◌ {A = ℕ} 0 1 = cc in omega arith)
settled_by way sound (breaks t calls i) e = absurd (let z : ◌≡◌ {A = ℕ} 0 1 = cc in omega arith)
settled_by way sound (fills t calls clock p frames mark) e = absurd (let z : ◌≡◌ {A = ℕ} 0 1 = cc in omega arith)
settled_by way sound (gives_bags bags) e = absurd (let z : ◌≡◌ {A = ℕ} 0 1 = cc in omega arith)
settled_by way sound (selects r) e = absurd (let z : ◌≡◌ {A = ℕ} 0 1 = cc in omega arith)
settled_by way sound (gives_next t line lines expected) e = absurd (let z : ◌≡◌ {A = ℕ} 0 1 = cc in omega arith)
settled_by way sound (gives_counts t before calls ruled after expected) e = absurd (let z : ◌≡◌ {A = ℕ} 0 1 = cc in omega arith)
settled_by way sound (gives_margin t number expected) e = absurd (let z : ◌≡◌ {A = ℕ} 0 1 = cc in omega arith)
settled_by way sound (gives_core t expected) e = absurd (let z : ◌≡◌ {A = ℕ} 0 1 = cc in omega arith)
settled_by way sound (gives_sold t ℓ n) e = eqb-true (sold_on t ℓ) n e

pub settled : (e : Example) → computes literally e ≡ true → Correct e
settled e x = settled_by literally literally_sound e x

-- names for all that a table's checks compute with, and an example
unfoldable pub the_table : ℕ
unfolding table_refusal table_checks all_at_most none_oversold reserved_on reservation sum_over provided links_checks not_above fields_in_range counts_in_range all_to all_hold first_met
the_table = 0

-- and a table file
unfoldable pub the_file : ℕ
unfolding the_table read_table read_links read_sizes stop_or sizes_record_checks link_record_checks count_record_checks sizes_read link_read header_checks table_bytes sizes_body link_body counts_body record_bytes from_digits digits_of flat_map
the_file = 0

unfoldable pub the_port : ℕ
unfolding the_table computes same_outcomes same_outcome same_numbers outcomes run step accepted_or counted_by counted risen judge_report judge police_at police checked_if passed_if store stored_if has_room charged replenished admitted admits report_refusal all_checks report_checks frame_checks tick_of fit every_count sender_fit frames_fit names_link fresh bytes_freed advance ticks tick byte_leaves freed_if started start_if_any highest_waiting bytes frames_held place_of bag_of further occupied flat_map
the_port = 0

the_formulas : ℕ
unfolding the_table computes literally same_numbers bounds_refusal hold or_zero is_there bound_within window_within backlog hold_of hold_by hold_test blocking longest up_arrivals own_arrivals beyond up_to of_priority arrival_curve line_curve on_line frame_curve greatest_over any_of bag_of sum_to greatest_to first_from occupied
the_formulas = 0

pub c : Correct example.c
unfolding the_port
c = settled example.c refl

pub d : Correct example.d
unfolding the_port
d = settled example.d refl

pub e : Correct example.e
unfolding the_port
e = settled example.e refl

pub f : Correct example.f
unfolding the_port
f = settled example.f refl

pub m : Correct example.m
unfolding the_port
m = settled example.m refl

pub n : Correct example.n
unfolding the_port
n = settled example.n refl

pub o : Correct example.o
unfolding the_port
o = settled example.o refl

pub p : Correct example.p
unfolding the_port
p = settled example.p refl

pub q : Correct example.q
unfolding the_port
q = settled example.q refl

pub r : Correct example.r
unfolding the_port
r = settled example.r refl

pub s : Correct example.s
unfolding the_port
s = settled example.s refl

pub u : Correct example.u
unfolding the_port
u = settled example.u refl

pub v : Correct example.v
unfolding the_port
v = settled example.v refl

pub w : Correct example.w
unfolding the_port
w = settled example.w refl

pub x : Correct example.x
unfolding the_port
x = settled example.x refl

pub y : Correct example.y
unfolding the_port
y = settled example.y refl

pub g : Correct example.g
unfolding the_formulas
g = settled example.g refl

pub k : Correct example.k
unfolding the_formulas
k = settled example.k refl

pub t : Correct example.t
unfolding Correct
t = bag_constants

pub window_o1 : Correct example.window_o1
unfolding the_formulas
window_o1 = settled example.window_o1 refl

pub window_nt0 : Correct example.window_nt0
unfolding the_formulas
window_nt0 = settled example.window_nt0 refl
