-- The examples of the next switch on the way: what its call gives, and two hops.
use mathlib.Core.Path.{◌≡◌, refl}
use mathlib.Core.Option.{none}
use mathlib.Core.List.{List}
use Prim.Native.Nat.{ℕ, suc, ◌+◌, ◌-◌}
use native.Mathlib.Omega.{arith}
use Rattle.model.specs.Basics.{done, also, Each, all_to, first_refusal}
use Rattle.model.specs.Link.{VirtualLink}
use Rattle.model.specs.Table.{Table, table_refusal}
use Rattle.model.specs.Bounds.{hold_of, or_zero, bounds_refusal, hold}
use Rattle.model.specs.NextTable.{next_link, next_links, line_refusal, jitters_in_range, rows_refusal, next_refusal, next_or, next}
use Rattle.model.specs.Examples.{table_e, onward, no_next, links_e, varied_e, table_j, hops, Correct}
use Rattle.model.specs.Examples as example
use Rattle.model.proofs.Holds.{climbed, climbed_past, no_hold}
use Rattle.model.proofs.Examples.{settled, the_table, the_port}
use Rattle.model.proofs.ClimbedExamples.{the_climb, the_checks, Held, held, hold_e, e_held}

-- ---- the call, by the parts of its answer
module _ (t : Table) (line lines : ℕ) (fine : line_refusal line lines ≡ 0) where
  pub unsized : (n : ℕ) → bounds_refusal t ≡ suc n → next t line lines ≡ no_next (suc n)
  unfolding next next_or next_refusal first_refusal
  unsized n e = rw (fine, e)

  module _ (rows : List VirtualLink) (has : bounds_refusal t ≡ 0) (are : next_links t line ≡ rows) where
    passes : rows_refusal lines rows ≡ 0 → next_refusal t line lines ≡ 0
    unfolding next_refusal first_refusal
    passes e = rw (fine, has, are, e)

    given : rows_refusal lines rows ≡ 0 → next t line lines ≡ onward lines rows
    unfolding next next_or
    given e = rw (passes e, are)

    late : rows_refusal lines rows ≡ 21 → next t line lines ≡ no_next 21
    unfolding next next_or next_refusal first_refusal
    late e = rw (fine, has, are, e)

-- the holds of E, whatever codes, least lengths and jitters within the first BAG
module _ (code least jitter code' jitter' : ℕ) (k : Held (varied_e code least jitter code' jitter') hold_e) (line : ℕ) where
  abbrev table : Table
  table = varied_e code least jitter code' jitter'

  rows_are : next_links table line ≡ links_e line code least (jitter + 1_499 - least) line code' (jitter' + 1_500 - 84)
  unfolding next_links next_link
  rows_are = rw (k.hold_is 0 (omega arith), k.hold_is 1 (omega arith))

-- names for what the checks of the line and of the rows compute with
unfoldable pub the_call : ℕ
unfolding the_table Correct line_refusal rows_refusal jitters_in_range
the_call = 0

pub next_e : Correct example.next_e
unfolding the_call
next_e = given table_e 3 5 refl (links_e 3 0 84 1_415 3 0 1_416) e_held.has_bounds (rows_are 0 84 0 0 0 e_held 3) refl

pub next_last : Correct example.next_last
unfolding the_call
next_last = given table_e 23 24 refl (links_e 23 0 84 1_415 23 0 1_416) e_held.has_bounds (rows_are 0 84 0 0 0 e_held 23) refl

least_held : Held (varied_e 0 100 0 0 0) hold_e
unfolding the_climb the_checks all_to
least_held = held (varied_e 0 100 0 0 0) 6 hold_e refl refl

pub next_least : Correct example.next_least
unfolding the_call
next_least = given (varied_e 0 100 0 0 0) 3 5 refl (links_e 3 0 100 1_399 3 0 1_416) least_held.has_bounds (rows_are 0 100 0 0 0 least_held 3) refl

most_held_lem : Held (varied_e 7 100 123_601 0 0) hold_e
unfolding the_climb the_checks all_to
most_held_lem = held (varied_e 7 100 123_601 0 0) 6 hold_e refl refl

pub next_most : Correct example.next_most
unfolding the_call
next_most =
    given (varied_e 7 100 123_601 0 0) 3 5 refl (links_e 3 7 100 125_000 3 0 1_416) most_held_lem.has_bounds (rows_are 7 100 123_601 0 0 most_held_lem 3) refl

past_held : Held (varied_e 7 100 123_602 0 0) hold_e
unfolding the_climb the_checks all_to
past_held = held (varied_e 7 100 123_602 0 0) 6 hold_e refl refl

pub next_past : Correct example.next_past
unfolding the_call
next_past =
    late (varied_e 7 100 123_602 0 0) 3 5 refl (links_e 3 7 100 125_001 3 0 1_416) past_held.has_bounds (rows_are 7 100 123_602 0 0 past_held 3) refl

second_held : Held (varied_e 0 84 0 7 123_585) hold_e
unfolding the_climb the_checks all_to
second_held = held (varied_e 0 84 0 7 123_585) 6 hold_e refl refl

pub next_second : Correct example.next_second
unfolding the_call
next_second =
    late (varied_e 0 84 0 7 123_585) 3 5 refl (links_e 3 0 84 1_415 3 7 125_001) second_held.has_bounds (rows_are 0 84 0 7 123_585 second_held 3) refl

-- ---- the line and the line count
no_line : (t : Table) (line lines n : ℕ) → line_refusal line lines ≡ suc n → next t line lines ≡ no_next (suc n)
unfolding next next_or next_refusal first_refusal
no_line t line lines n e = rw e

pub next_count : Correct example.next_count
unfolding the_call
next_count = no_line table_e 5 5 21 refl

pub next_none : Correct example.next_none
unfolding the_call
next_none = no_line table_e 0 0 21 refl

pub next_far : Correct example.next_far
unfolding the_call
next_far = no_line table_e 30 24 21 refl

pub next_many : Correct example.next_many
unfolding the_call
next_many = no_line table_e 24 25 2 refl

-- ---- no hold
j_passes : table_refusal table_j ≡ 0
unfolding the_checks
j_passes = refl

seven_none : hold_of table_j 7 ≡ none
unfolding the_climb
seven_none = climbed_past table_j 7 30 tt

pub next_unheld : Correct example.next_unheld
unfolding the_call
next_unheld = unsized table_j 3 5 refl 7 (no_hold table_j j_passes 7 (omega arith) seven_none)

pub hold_j : Correct example.hold_j
unfolding Correct hold or_zero the_climb
hold_j = rw (climbed table_j 0 30 7_037 refl)

-- ---- two hops
pub hop_one : Correct example.hop_one
unfolding the_port
hop_one = settled example.hop_one refl

pub hop_two : Correct example.hop_two
unfolding the_port
hop_two = settled example.hop_two refl

pub hop_sharp : Correct example.hop_sharp
unfolding the_port
hop_sharp = settled example.hop_sharp refl

pub hops_correct : Each Correct hops
hops_correct =
    also next_e (also next_least (also next_most (also next_past (also next_second (also next_count (also next_none (also next_far (also next_many (also next_last (also next_unheld
    (also hold_j (also hop_one (also hop_two (also hop_sharp done))))))))))))))
