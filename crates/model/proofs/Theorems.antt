-- The theorems of specs/Promises.antt and specs/Examples.antt, each under its name.
use Rattle.model.specs.Basics.{also}
use Rattle.model.proofs.Lists.{each_of_both}
use Rattle.model.specs.Promises.{ReadsWritten, WritesRead, FileLength, BagConstants, LastBag, DemandThree, NeverUnfit, FitnessKept, LengthsKept, CountsAddUp, TurnsAreRuns, DemandThreeOfTurns, CurveGrows, HoldIsSmallest, HoldGrows, BoundIsGreatest, HoldCovers, ZeroIfNone, EditsBelowUnseen, NoneSmaller, NoneRegained, BoundsKept, FitsExactly, MarginIsGreatest, RefusedIfNoneFits, SmallerFits, NeverUnbounded, PresentJitterUnseen, BoundsByDemand, LastHoldDecides, FewHaveBounds, CoreBreaks, CoreAnswered, HoldCarries, NoneRefusedNow, OversoldUnbounded, RowsCarried, OversoldUnfit, NoneAppears, DeparturesInTime, DeparturesSpaced, PassedKeep, DigitsRead, DigitsWritten, AmongByDistance, OneOfTwo, SelectedAlways}
use Rattle.model.specs.Examples.{ExamplesCorrect}
use Rattle.model.proofs.Digits as Digits
use Rattle.model.proofs.ReadBack as ReadBack
use Rattle.model.proofs.FileWrite as FileWrite
use Rattle.model.proofs.Bags as Bags
use Rattle.model.proofs.Curves as Curves
use Rattle.model.proofs.Holds as Holds
use Rattle.model.proofs.BoundFacts as BoundFacts
use Rattle.model.proofs.Covering as Covering
use Rattle.model.proofs.Reserving as Reserving
use Rattle.model.proofs.Sensitivity as Sensitivity
use Rattle.model.proofs.JitterMargin as JitterMargin
use Rattle.model.proofs.LastHold as LastHold
use Rattle.model.proofs.OverloadCore as OverloadCore
use Rattle.model.proofs.Fitness as Fitness
use Rattle.model.proofs.FitKept as FitKept
use Rattle.model.proofs.Counts as Counts
use Rattle.model.proofs.Demand as Demand
use Rattle.model.proofs.Later as Later
use Rattle.model.proofs.Batches as Batches
use Rattle.model.proofs.RedundancyExamples as selected
use Rattle.model.proofs.Selections as Selections
use Rattle.model.proofs.Examples as shown
use Rattle.model.proofs.FormulaExamples as formed
use Rattle.model.proofs.ClauseExamples as told
use Rattle.model.proofs.ClimbedExamples as climbed
use Rattle.model.proofs.FullExamples as full
use Rattle.model.proofs.BatchExamples as batched
use Rattle.model.proofs.NextExamples as hopped
use Rattle.model.proofs.LineExamples as carried
use Rattle.model.proofs.CountExamples as added
use Rattle.model.proofs.EditExamples as changed
use Rattle.model.proofs.MarginExamples as left
use Rattle.model.proofs.TrialExamples as broken

pub reads_written : ReadsWritten
reads_written = ReadBack.read_written

pub writes_read : WritesRead
writes_read = FileWrite.written_read

pub file_length_lem : FileLength
file_length_lem = FileWrite.written_length

pub bag_constants : BagConstants
bag_constants = Bags.bag_constants

pub last_bag : LastBag
last_bag = Bags.last_bag

pub demand_three : DemandThree
demand_three = Demand.demand_three

pub never_unfit : NeverUnfit
never_unfit = Fitness.never_unfit

pub fitness_kept : FitnessKept
fitness_kept = FitKept.fitness_kept

pub lengths_kept : LengthsKept
lengths_kept = FitKept.lengths_kept

pub counts_add_up : CountsAddUp
counts_add_up = Counts.counts_add_up

pub turns_are_runs : TurnsAreRuns
turns_are_runs = Batches.turns_are_runs

pub demand_three_of_turns : DemandThreeOfTurns
demand_three_of_turns = Batches.demand_of_turns

pub curve_grows : CurveGrows
curve_grows = Curves.curve_grows

pub hold_is_smallest : HoldIsSmallest
hold_is_smallest = Holds.hold_smallest

pub hold_grows : HoldGrows
hold_grows = Holds.hold_grows

pub bound_is_greatest : BoundIsGreatest
bound_is_greatest = BoundFacts.bound_greatest

pub hold_covers : HoldCovers
hold_covers = Covering.hold_covers

pub zero_if_none : ZeroIfNone
zero_if_none = Sensitivity.zero_if_none

pub edits_below_unseen : EditsBelowUnseen
edits_below_unseen = Sensitivity.edits_below_unseen

pub none_smaller : NoneSmaller
none_smaller = Sensitivity.none_smaller

pub none_regained : NoneRegained
none_regained = Sensitivity.none_regained

pub bounds_kept : BoundsKept
bounds_kept = Sensitivity.bounds_kept

pub fits_exactly : FitsExactly
fits_exactly = JitterMargin.fits_exactly

pub margin_is_greatest : MarginIsGreatest
margin_is_greatest = JitterMargin.margin_is_greatest

pub refused_if_none_fits : RefusedIfNoneFits
refused_if_none_fits = JitterMargin.refused_if_none_fits

pub smaller_fits : SmallerFits
smaller_fits = JitterMargin.smaller_fits

pub never_unbounded : NeverUnbounded
never_unbounded = JitterMargin.never_unbounded

pub present_jitter_unseen : PresentJitterUnseen
present_jitter_unseen = JitterMargin.present_jitter_unseen

pub bounds_by_demand : BoundsByDemand
bounds_by_demand = LastHold.bounds_by_demand

pub last_hold_decides : LastHoldDecides
last_hold_decides = LastHold.last_hold_decides

pub few_have_bounds : FewHaveBounds
few_have_bounds = LastHold.few_have_bounds

pub core_breaks : CoreBreaks
core_breaks = OverloadCore.core_breaks

pub core_answered : CoreAnswered
core_answered = OverloadCore.core_answered

pub hold_carries : HoldCarries
hold_carries = Reserving.hold_carries

pub none_refused_now : NoneRefusedNow
none_refused_now = Reserving.none_refused_now

pub oversold_unbounded : OversoldUnbounded
oversold_unbounded = Reserving.oversold_unbounded

pub rows_carried : RowsCarried
rows_carried = Reserving.rows_carried

pub oversold_unfit : OversoldUnfit
oversold_unfit = Reserving.oversold_unfit

pub none_appears : NoneAppears
none_appears = Fitness.none_appears

pub departures_in_time : DeparturesInTime
departures_in_time = Later.departures_in_time

pub departures_spaced : DeparturesSpaced
departures_spaced = Later.departures_spaced

pub passed_keep : PassedKeep
passed_keep = Later.passed_keep

pub digits_read : DigitsRead
digits_read base width n h = (Digits.length_digits base width n, Digits.all_digits base width n h, Digits.from_to base width n h)

pub digits_written : DigitsWritten
digits_written base digits all = (Digits.from_below base digits all, Digits.to_from base digits all)

pub among_by_distance : AmongByDistance
unfolding Selections.near Selections.ahead
among_by_distance = Selections.among_near

pub one_of_two : OneOfTwo
one_of_two = Selections.one_of_two

pub selected_always : SelectedAlways
selected_always = Selections.selected_always

pub examples_correct : ExamplesCorrect
examples_correct =
    also formed.a (also formed.b (also shown.c (also shown.d (also shown.e (also shown.f (also shown.g (also formed.h (also climbed.i (also climbed.j (also shown.k (also formed.l
    (also shown.m (also shown.n (also shown.o (also shown.p (also shown.q (also shown.r (also shown.s (also shown.t (also shown.u (also shown.v (also shown.w (also shown.x (also shown.y
    (also climbed.sizing_e (also formed.window_k (also formed.window_p (also formed.window_o0 (also shown.window_o1 (also shown.window_nt0 (also formed.window_nt3 (also climbed.sizing_nt
    (also formed.bound_c (also full.filled_c (also climbed.sheet_e (also climbed.sheet_nt (each_of_both told.words_correct (each_of_both selected.selections_correct (each_of_both batched.batches_correct (each_of_both hopped.hops_correct (each_of_both carried.carriage_correct (each_of_both added.counts_correct (each_of_both changed.edits_correct (each_of_both left.margins_correct broken.cores_correct))))))))))))))))))))))))))))))))))))))))))))
