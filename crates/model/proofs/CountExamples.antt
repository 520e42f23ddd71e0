-- The examples of counts.
use mathlib.Core.Path.{refl}
use Prim.Native.Nat.{ℕ}
use Rattle.model.specs.Basics.{provided, sum_to, done, also, Each}
use Rattle.model.specs.Counters.{link_sum, link_sums, grand_total, none_full}
use Rattle.model.specs.Sums.{sums_if, sums}
use Rattle.model.specs.Examples.{adding, port_after, rulings, Correct}
use Rattle.model.specs.Examples as example
use Rattle.model.proofs.Examples.{the_port}

-- names for all that these compute with
the_counts : ℕ
unfolding the_port Correct port_after rulings sums sums_if link_sums link_sum grand_total none_full provided sum_to
the_counts = 0

pub rig_day : Correct example.rig_day
unfolding the_counts
rig_day = (refl, refl, refl)

pub nearly_full : Correct example.nearly_full
unfolding the_counts
nearly_full = (refl, refl, refl)

pub now_full : Correct example.now_full
unfolding the_counts
now_full = (refl, refl, refl)

pub stays_full : Correct example.stays_full
unfolding the_counts
stays_full = (refl, refl, refl)

pub past_full : Correct example.past_full
unfolding the_counts
past_full = (refl, refl, refl)

pub all_nearly_full : Correct example.all_nearly_full
unfolding the_counts
all_nearly_full = (refl, refl, refl)

pub unknown_full : Correct example.unknown_full
unfolding the_counts
unknown_full = (refl, refl, refl)

pub counts_correct : Each Correct adding
counts_correct = also rig_day (also nearly_full (also now_full (also stays_full (also past_full (also all_nearly_full (also unknown_full done))))))
