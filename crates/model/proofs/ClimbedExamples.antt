-- The examples whose holds are reached by climbing: i, j, and the whole answers and sheets of tables E and Nt.
use mathlib.Core.Path.{◌≡◌, refl}
use mathlib.Core.Bool.{true}
use mathlib.Core.Option.{none, some}
use mathlib.Core.List.{List, ◌++◌, flat_map}
use Prim.Native.Nat.{ℕ, zero, suc, ◌<◌}
use native.Mathlib.Omega.{arith}
use borrow.Author.Tests.{ne_eqb}
use lib.ListN.{take}
use Rattle.model.specs.Basics.{provided, sum_to, eight, all_to, all_hold, first_refusal}
use Rattle.model.specs.Link.{bag_of, any_of, sum_over, greatest_over}
use Rattle.model.specs.Table.{Table, size_of, table_refusal}
use Rattle.model.specs.Digits.{digits_of}
use Rattle.model.specs.TableFile.{record_bytes, counts_body, link_body, sizes_body, table_bytes, read_table}
use Rattle.model.specs.Arrival.{frame_curve, on_line, line_curve, arrival_curve}
use Rattle.model.specs.Bounds.{of_priority, up_to, beyond, up_arrivals, blocking, hold_test, hold_of, is_there, or_zero, bounds_refusal, hold, bound, window, sized_or, sizing}
use Rattle.model.specs.Sheet.{text, digits, numeral, difference, fill, sheet_line, header, sheet_or, sheet}
use Rattle.model.specs.Examples.{alike, one_busy_line, table_e, table_nt, Correct}
use Rattle.model.specs.Examples as example
use Rattle.model.proofs.Checks.{all_to_lem}
use Rattle.model.proofs.Search.{climb}
use Rattle.model.proofs.Holds.{climbs_to, climbed, climbed_past, no_hold, all_holds}
use Rattle.model.proofs.BoundFacts.{unused}
use Rattle.model.proofs.ReadBack.{read_written}
use Rattle.model.proofs.Examples.{the_table}
use Rattle.model.proofs.Examples as shown
use Rattle.model.proofs.FormulaExamples as formed

-- names for all that a climb and a table's checks compute with
unfoldable pub the_climb : ℕ
unfolding climbs_to climb all_hold hold_test up_arrivals blocking beyond up_to arrival_curve line_curve on_line frame_curve greatest_over sum_over any_of bag_of provided sum_to alike
the_climb = 0

unfoldable pub the_checks : ℕ
unfolding the_table alike
the_checks = 0

pub i : Correct example.i
unfolding Correct hold or_zero the_climb
i = rw (climbed (one_busy_line 940) 0 44 65_536 refl)

j_passes : table_refusal (one_busy_line 941) ≡ 0
unfolding the_checks
j_passes = refl

j_climbs : hold_of (one_busy_line 941) 0 ≡ none
unfolding the_climb
j_climbs = climbed_past (one_busy_line 941) 0 44 tt

pub j : Correct example.j
unfolding Correct
j = no_hold (one_busy_line 941) j_passes 0 (omega arith) j_climbs

-- ---- a table by its eight holds
pub record Held (t : Table) (h : ℕ → ℕ) : Type 0 where
  pub has_bounds : bounds_refusal t ≡ 0
  pub hold_is : (p : ℕ) → p < 8 → hold t p ≡ h p

-- by climbing n steps
pub held : (t : Table) (n : ℕ) (h : ℕ → ℕ) → table_refusal t ≡ 0 → all_to (λ p. climbs_to t p n (h p)) 8 ≡ true → Held t h
unfolding is_there hold or_zero
held t n h passes ends =
    let found : (p : ℕ) → p < 8 → hold_of t p ≡ some (h p) = λ p l. climbed t p n (h p) (all_to_lem (λ p. climbs_to t p n (h p)) 8 ends p l) in
    record {
      has_bounds = all_holds t passes (λ p l. rw (found p l));
      hold_is = λ p l. rw (found p l);
    }

-- ---- and by its bounds and windows
record Numbers (t : Table) (b h w : ℕ → ℕ) : Type 0 where
  holds : Held t h
  bound_is : (p : ℕ) → p < 8 → bound t p ≡ b p
  window_is : (p : ℕ) → p < 8 → window t p ≡ w p

module _ {t : Table} {b h w : ℕ → ℕ} (n : Numbers t b h w) where
  eight_same : (f g : ℕ → ℕ) → ((p : ℕ) → p < 8 → f p ≡ g p) → eight f ≡ eight g
  eight_same f g e = rw (e 0 (omega arith), e 1 (omega arith), e 2 (omega arith), e 3 (omega arith), e 4 (omega arith), e 5 (omega arith), e 6 (omega arith), e 7 (omega arith))

  sizing_is : sizing t ≡ record { refused = 0; bounds = eight b; holds = eight h; windows = eight w }
  unfolding sizing sized_or
  sizing_is = rw (n.holds.has_bounds, eight_same (bound t) b n.bound_is, eight_same (hold t) h n.holds.hold_is, eight_same (window t) w n.window_is)

  sheet_is : (input : List ℕ) → read_table (take 4_653 input) ≡ record { refused = 0; table = t }
      → sheet input ≡ header ++ flat_map (λ p. sheet_line p (b p) (h p) (w p) (size_of t p)) (eight (λ p. p))
  unfolding sheet sheet_or first_refusal flat_map
  sheet_is input read =
      let at : (p : ℕ) → p < 8 → sheet_line p (bound t p) (hold t p) (window t p) (size_of t p) ≡ sheet_line p (b p) (h p) (w p) (size_of t p) =
      λ p l. rw (n.bound_is p l, n.holds.hold_is p l, n.window_is p l) in
      rw (
        read,
        n.holds.has_bounds,
        at 0 (omega arith),
        at 1 (omega arith),
        at 2 (omega arith),
        at 3 (omega arith),
        at 4 (omega arith),
        at 5 (omega arith),
        at 6 (omega arith),
        at 7 (omega arith),
      )

-- names for all that a table file and a sheet compute with
the_file : ℕ
unfolding table_bytes record_bytes counts_body link_body sizes_body digits_of flat_map
the_file = 0

the_sheet : ℕ
unfolding Correct header sheet_line fill difference numeral digits text flat_map
the_sheet = 0

-- ---- table E: hold 1,499, and 1,500 from priority 1 on
pub e_passes : table_refusal table_e ≡ 0
unfolding the_checks
e_passes = refl

e_read : read_table (take 4_653 (table_bytes table_e)) ≡ record { refused = 0; table = table_e }
unfolding the_file
e_read = read_written table_e e_passes

abbrev pub hold_e : ℕ → ℕ
hold_e zero = 1_499
hold_e (suc p) = 1_500

abbrev bound_e : ℕ → ℕ
bound_e zero = 480
bound_e (suc zero) = 980
bound_e (suc (suc p)) = 0

e_parts : (p : ℕ) → p < 8 → (bound table_e p ≡ bound_e p) × (window table_e p ≡ 0)
unfolding Correct any_of of_priority
e_parts zero l = ((formed.a).1, (formed.a).2)
e_parts (suc zero) l = ((formed.b).1, (formed.b).2)
e_parts (suc (suc p)) l = unused table_e (suc (suc p)) (rw (ne_eqb 0 (suc (suc p)) (λ x. omega arith), ne_eqb 1 (suc (suc p)) (λ x. omega arith)))

pub e_held : Held table_e hold_e
unfolding the_climb all_to
e_held = held table_e 6 hold_e e_passes refl

e_numbers : Numbers table_e bound_e hold_e (λ p. 0)
e_numbers = record { holds = e_held; bound_is = λ p l. (e_parts p l).0; window_is = λ p l. (e_parts p l).1 }

pub sizing_e : Correct example.sizing_e
unfolding Correct
sizing_e = sizing_is e_numbers

pub sheet_e : Correct example.sheet_e
unfolding the_sheet
sheet_e = sheet_is e_numbers (table_bytes table_e) e_read

-- ---- table Nt: hold 699, and 700 from priority 3 on
nt_passes : table_refusal table_nt ≡ 0
unfolding the_checks
nt_passes = refl

nt_read : read_table (take 4_653 (table_bytes table_nt)) ≡ record { refused = 0; table = table_nt }
unfolding the_file
nt_read = read_written table_nt nt_passes

abbrev hold_nt : ℕ → ℕ
hold_nt zero = 699
hold_nt (suc zero) = 699
hold_nt (suc (suc zero)) = 699
hold_nt (suc (suc (suc p))) = 700

abbrev bound_nt : ℕ → ℕ
bound_nt zero = 498
bound_nt (suc zero) = 0
bound_nt (suc (suc zero)) = 0
bound_nt (suc (suc (suc zero))) = 80
bound_nt (suc (suc (suc (suc p)))) = 0

abbrev window_nt : ℕ → ℕ
window_nt zero = 318
window_nt (suc p) = 0

nt_parts : (p : ℕ) → p < 8 → (bound table_nt p ≡ bound_nt p) × (window table_nt p ≡ window_nt p)
unfolding Correct any_of of_priority
nt_parts zero l = ((shown.window_nt0).1, (shown.window_nt0).2)
nt_parts (suc zero) l = unused table_nt 1 refl
nt_parts (suc (suc zero)) l = unused table_nt 2 refl
nt_parts (suc (suc (suc zero))) l = ((formed.window_nt3).1, (formed.window_nt3).2)
nt_parts (suc (suc (suc (suc p)))) l =
    unused table_nt (suc (suc (suc (suc p)))) (rw (ne_eqb 0 (suc (suc (suc (suc p)))) (λ x. omega arith), ne_eqb 3 (suc (suc (suc (suc p)))) (λ x. omega arith)))

nt_held : Held table_nt hold_nt
unfolding the_climb all_to
nt_held = held table_nt 6 hold_nt nt_passes refl

nt_numbers : Numbers table_nt bound_nt hold_nt window_nt
nt_numbers = record { holds = nt_held; bound_is = λ p l. (nt_parts p l).0; window_is = λ p l. (nt_parts p l).1 }

pub sizing_nt : Correct example.sizing_nt
unfolding Correct
sizing_nt = sizing_is nt_numbers

pub sheet_nt : Correct example.sheet_nt
unfolding the_sheet
sheet_nt = sheet_is nt_numbers (table_bytes table_nt) nt_read
