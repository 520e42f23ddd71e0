-- The examples of networks A and B, computed from the definitions alone.
use mathlib.Core.Path.{refl}
use Rattle.model.specs.Basics.{Each, done, also, first_met}
use Rattle.model.specs.Redundancy.{fresh, sequence_number, following, among, sound, is_new, is_empty, earlier, waiting_on, refusal_of, received_on, next_on_a, next_on_b, last_after, decide_on, refused_by, decide_or, decide, part_of, select, state_after, run}
use Rattle.model.specs.RedundancyExamples.{Recording, replies_to}
use Rattle.model.specs.RedundancyExamples as example
use Rattle.model.specs.Examples.{selects, Correct, selections}

-- names for all that an example computes with
TheRules : Type 0
unfolding Correct replies_to run state_after select part_of decide decide_or refused_by decide_on last_after next_on_a next_on_b received_on refusal_of waiting_on earlier is_empty is_new sound among following sequence_number fresh first_met
TheRules = Recording

pub at_skew : Correct (selects example.at_skew)
unfolding TheRules
at_skew = refl

pub past_skew : Correct (selects example.past_skew)
unfolding TheRules
past_skew = refl

pub over_255 : Correct (selects example.over_255)
unfolding TheRules
over_255 = refl

pub over_254 : Correct (selects example.over_254)
unfolding TheRules
over_254 = refl

pub third_after : Correct (selects example.third_after)
unfolding TheRules
third_after = refl

pub second_after_0 : Correct (selects example.second_after_0)
unfolding TheRules
second_after_0 = refl

pub third_after_0 : Correct (selects example.third_after_0)
unfolding TheRules
third_after_0 = refl

pub previous_unsound : Correct (selects example.previous_unsound)
unfolding TheRules
previous_unsound = refl

pub previous_passed : Correct (selects example.previous_passed)
unfolding TheRules
previous_passed = refl

pub last_of_127 : Correct (selects example.last_of_127)
unfolding TheRules
last_of_127 = refl

pub first_beyond : Correct (selects example.first_beyond)
unfolding TheRules
first_beyond = refl

pub last_round : Correct (selects example.last_round)
unfolding TheRules
last_round = refl

pub first_round : Correct (selects example.first_round)
unfolding TheRules
first_round = refl

pub last_after_0 : Correct (selects example.last_after_0)
unfolding TheRules
last_after_0 = refl

pub first_after_0 : Correct (selects example.first_after_0)
unfolding TheRules
first_after_0 = refl

pub zero_twice : Correct (selects example.zero_twice)
unfolding TheRules
zero_twice = refl

pub zero_again : Correct (selects example.zero_again)
unfolding TheRules
zero_again = refl

pub age_of_handing_on : Correct (selects example.age_of_handing_on)
unfolding TheRules
age_of_handing_on = refl

pub below_taken : Correct (selects example.below_taken)
unfolding TheRules
below_taken = refl

pub refused_not_received : Correct (selects example.refused_not_received)
unfolding TheRules
refused_not_received = refl

pub near_the_end : Correct (selects example.near_the_end)
unfolding TheRules
near_the_end = refl

pub both_copies : Correct (selects example.both_copies)
unfolding TheRules
both_copies = refl

pub tie : Correct (selects example.tie)
unfolding TheRules
tie = refl

pub earlier_on_b : Correct (selects example.earlier_on_b)
unfolding TheRules
earlier_on_b = refl

pub both_empty : Correct (selects example.both_empty)
unfolding TheRules
both_empty = refl

pub one_byte : Correct (selects example.one_byte)
unfolding TheRules
one_byte = refl

pub selections_correct : Each Correct selections
selections_correct =
    also at_skew (also past_skew (also over_255 (also over_254 (also third_after (also second_after_0 (also third_after_0
    (also previous_unsound (also previous_passed (also last_of_127 (also first_beyond (also last_round (also first_round
    (also last_after_0 (also first_after_0 (also zero_twice (also zero_again (also age_of_handing_on (also below_taken
    (also refused_not_received (also near_the_end (also both_copies (also tie (also earlier_on_b (also both_empty (also one_byte done)))))))))))))))))))))))))
