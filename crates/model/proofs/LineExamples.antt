-- The examples of lines oversold.
use mathlib.Core.Path.{◌≡◌, refl}
use mathlib.Core.Bool.{true}
use mathlib.Core.Option.{none}
use Prim.Native.Nat.{ℕ, ◌+◌, ◌≤◌}
use native.Mathlib.Omega.{arith}
use Rattle.model.specs.Basics.{provided, sum_to, done, also, Each}
use Rattle.model.specs.Units.{occupied}
use Rattle.model.specs.Link.{any_of, greatest_over}
use Rattle.model.specs.Table.{table_refusal}
use Rattle.model.specs.TableFile.{wrote_or, write_table}
use Rattle.model.specs.Arrival.{on_line, line_curve, arrival_curve}
use Rattle.model.specs.Bounds.{of_priority, up_to, beyond, own_arrivals, up_arrivals, longest, blocking, hold_of, backlog, bounds_refusal}
use Rattle.model.specs.Examples.{table_full, table_over, table_spread, alike, carriage, Correct}
use Rattle.model.specs.Examples as example
use Rattle.model.proofs.Holds.{climbs_to, climbed_past, no_hold}
use Rattle.model.proofs.Peaks.{by_first}
use Rattle.model.proofs.Examples.{computes, settled, the_table, the_file, the_port}
use Rattle.model.proofs.FormulaExamples.{the_peak}
use Rattle.model.proofs.ClimbedExamples.{the_climb}
use Rattle.model.proofs.NextExamples.{unsized, the_call}

-- names for all that these compute with
the_meeting : ℕ
unfolding the_table computes alike
the_meeting = 0

the_reading : ℕ
unfolding the_file computes
the_reading = 0

the_writing : ℕ
unfolding the_table computes write_table wrote_or
the_writing = 0

-- ---- a table by itself
pub full_passes : Correct example.full_passes
unfolding the_meeting
full_passes = settled example.full_passes refl

pub over : Correct example.over
unfolding the_meeting
over = settled example.over refl

pub over_sized : Correct example.over_sized
unfolding the_meeting
over_sized = settled example.over_sized refl

pub spread_passes : Correct example.spread_passes
unfolding the_meeting
spread_passes = settled example.spread_passes refl

pub over_last : Correct example.over_last
unfolding the_meeting
over_last = settled example.over_last refl

pub eight_of_zero : Correct example.eight_of_zero
unfolding the_meeting
eight_of_zero = settled example.eight_of_zero refl

pub nine_of_zero : Correct example.nine_of_zero
unfolding the_meeting
nine_of_zero = settled example.nine_of_zero refl

pub sixteen_of_one : Correct example.sixteen_of_one
unfolding the_meeting
sixteen_of_one = settled example.sixteen_of_one refl

pub seventeen_of_one : Correct example.seventeen_of_one
unfolding the_meeting
seventeen_of_one = settled example.seventeen_of_one refl

pub carried_of_four : Correct example.carried_of_four
unfolding the_meeting
carried_of_four = settled example.carried_of_four refl

pub oversold_of_four : Correct example.oversold_of_four
unfolding the_meeting
oversold_of_four = settled example.oversold_of_four refl

pub all_of_five : Correct example.all_of_five
unfolding the_meeting
all_of_five = settled example.all_of_five refl

pub all_of_seven : Correct example.all_of_seven
unfolding the_meeting
all_of_seven = settled example.all_of_seven refl

-- ---- its bounds
-- FULL's buffer is at its bound from 1,557 to 10,962, which no stretch of windows shows: serialization on the one line does
full_climbs : climbs_to table_full 0 9 12_500 ≡ true
unfolding the_climb
full_climbs = refl

full_at_window : backlog table_full 0 1_557 ≡ 3_075
unfolding the_peak
full_at_window = refl

own_most : (w : ℕ) → own_arrivals table_full 0 w ≤ w + 1_518
unfolding own_arrivals arrival_curve line_curve of_priority on_line any_of greatest_over provided sum_to occupied
own_most w = omega arith

up_most : (w : ℕ) → up_arrivals table_full 0 w ≤ w + 1_538
unfolding up_arrivals arrival_curve line_curve up_to on_line any_of greatest_over provided sum_to
up_most w = omega arith

pub full_bound : Correct example.full_bound
unfolding Correct backlog blocking longest beyond of_priority greatest_over provided
full_bound =
    by_first table_full 0 9 12_500 3_075 1_557 full_climbs
    (record {
      greatest = λ w l. omega (arith, up_most w);
      within = omega arith;
      attained = full_at_window;
      earlier = λ w l. omega (arith, own_most w);
    })

over_refused : bounds_refusal table_over ≡ 23
unfolding the_table bounds_refusal
over_refused = refl

pub over_bounds : Correct example.over_bounds
unfolding Correct
over_bounds = over_refused

spread_passes_lem : table_refusal table_spread ≡ 0
unfolding the_table
spread_passes_lem = refl

spread_climbs : hold_of table_spread 7 ≡ none
unfolding the_climb
spread_climbs = climbed_past table_spread 7 60 tt

pub spread_bounds : Correct example.spread_bounds
unfolding Correct
spread_bounds = no_hold table_spread spread_passes_lem 7 (omega arith) spread_climbs

-- ---- files
pub over_cut : Correct example.over_cut
unfolding the_reading
over_cut = settled example.over_cut refl

pub over_cut_header : Correct example.over_cut_header
unfolding the_reading
over_cut_header = settled example.over_cut_header refl

pub over_other_kind : Correct example.over_other_kind
unfolding the_reading
over_other_kind = settled example.over_other_kind refl

pub over_large_size : Correct example.over_large_size
unfolding the_reading
over_large_size = settled example.over_large_size refl

pub over_byte_behind : Correct example.over_byte_behind
unfolding the_reading
over_byte_behind = settled example.over_byte_behind refl

pub full_cut : Correct example.full_cut
unfolding the_reading
full_cut = settled example.full_cut refl

pub full_cut_header : Correct example.full_cut_header
unfolding the_reading
full_cut_header = settled example.full_cut_header refl

pub full_other_kind : Correct example.full_other_kind
unfolding the_reading
full_other_kind = settled example.full_other_kind refl

pub full_large_size : Correct example.full_large_size
unfolding the_reading
full_large_size = settled example.full_large_size refl

pub full_byte_behind : Correct example.full_byte_behind
unfolding the_reading
full_byte_behind = settled example.full_byte_behind refl

pub tenth_cut : Correct example.tenth_cut
unfolding the_reading
tenth_cut = settled example.tenth_cut refl

pub tenth_past : Correct example.tenth_past
unfolding the_reading
tenth_past = settled example.tenth_past refl

pub tenth_repeated : Correct example.tenth_repeated
unfolding the_reading
tenth_repeated = settled example.tenth_repeated refl

-- ---- writer, chain and port
pub over_written : Correct example.over_written
unfolding the_writing
over_written = settled example.over_written refl

pub full_written : Correct example.full_written
unfolding the_writing
full_written = settled example.full_written refl

pub next_over : Correct example.next_over
unfolding the_call
next_over = unsized table_over 0 1 refl 22 over_refused

pub over_unfit : Correct example.over_unfit
unfolding the_port
over_unfit = settled example.over_unfit refl

pub carriage_correct : Each Correct carriage
carriage_correct =
    also full_passes (also full_bound (also over (also over_bounds (also over_sized (also spread_passes (also spread_bounds (also over_last (also eight_of_zero
    (also nine_of_zero (also sixteen_of_one (also seventeen_of_one (also carried_of_four (also oversold_of_four (also all_of_five (also all_of_seven
    (also over_cut (also over_cut_header (also over_other_kind (also over_large_size (also over_byte_behind (also full_cut (also full_cut_header
    (also full_other_kind (also full_large_size (also full_byte_behind (also tenth_cut (also tenth_past (also tenth_repeated (also over_written
    (also full_written (also next_over (also over_unfit done))))))))))))))))))))))))))))))))
