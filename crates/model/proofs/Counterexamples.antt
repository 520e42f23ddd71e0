-- Why what the statements on two tables ask is asked: pairs of tables that lack one hypothesis and meet the others, and what comes out of them.
use mathlib.Core.Path.{◌≡◌, refl, ap}
use mathlib.Core.Logic.{◌⊎◌, inl, inr}
use mathlib.Core.Option.{none}
use mathlib.Core.List.{List, [], ◌∷◌}
use Prim.Native.Nat.{ℕ, zero, suc, ◌≤◌, ◌<◌}
use native.Mathlib.Nat.{le_refl}
use native.Mathlib.Omega.{arith}
use lib.ListN.{length, replicate}
use Rattle.model.specs.Basics.{provided}
use Rattle.model.specs.Link.{VirtualLink, link_at, members_of, greatest_over}
use Rattle.model.specs.Table.{Table, table_refusal}
use Rattle.model.specs.Bounds.{up_to, beyond, hold_of, or_zero, bounds_refusal, hold, bound, window, sized_or, sizing}
use Rattle.model.specs.Promises.{AgreeTo, NoSmaller, Grown, over, edited, added}
use Rattle.model.specs.Examples.{plain, table_of, sized_e, table_e, three_lines, late, with_second, moved_e, longer_e, Correct}
use Rattle.model.proofs.Holds.{climbed_past, no_hold}
use Rattle.model.proofs.BoundFacts.{unused}
use Rattle.model.proofs.Peaks.{by_peak}
use Rattle.model.proofs.FormulaExamples.{the_peak}
use Rattle.model.proofs.FormulaExamples as formed
use Rattle.model.proofs.ClimbedExamples.{the_climb, the_checks, Held, held, e_held}
use Rattle.model.proofs.Examples as shown
use Rattle.model.proofs.EditExamples as changed

-- names for what is computed of two tables' links
the_links : ℕ
unfolding the_checks members_of up_to beyond greatest_over provided
the_links = 0

-- ---- EditsBelowUnseen

-- a hold of priority 0, and one of all others
abbrev first_and : ℕ → ℕ → ℕ → ℕ
first_and h k zero = h
first_and h k (suc p) = k

-- another greatest L below: E, and E with link 2 of 1,001, have the same links of priority 0, and another hold of it
longer_held : Held longer_e (first_and 1_500 1_501)
unfolding the_climb the_checks
longer_held = held longer_e 6 (first_and 1_500 1_501) refl refl

pub below_needed : (bounds_refusal table_e ≡ 0) × (bounds_refusal longer_e ≡ 0) × (members_of (up_to 0) table_e.links ≡ members_of (up_to 0) longer_e.links)
    × (hold table_e 0 ≡ 1_499) × (hold longer_e 0 ≡ 1_500) × (AgreeTo 0 table_e longer_e → ⊥)
unfolding the_links Correct
below_needed = (e_held.has_bounds, longer_held.has_bounds, refl, (formed.a).0, (changed.longer_first).0, λ a. let e : ◌≡◌ {A = ℕ} 1_000 1_001 = a.longest_below in omega arith)

-- another link of priority 0 to p: E, and E with a third link, of 84 at priority 0
abbrev third_e : Table
third_e = table_of 2 (plain 1 0 0 500 ∷ plain 2 1 1 1_000 ∷ plain 3 1 0 84 ∷ []) (2_000 ∷ 2_000 ∷ [])

third_limits : (hold third_e 0 ≡ 1_583) × (bound third_e 0 ≡ 544) × (window third_e 0 ≡ 0)
unfolding the_peak
third_limits = by_peak third_e 0 6 1_583 544 0 refl refl

third_held : Held third_e (first_and 1_583 1_584)
unfolding the_climb the_checks
third_held = held third_e 6 (first_and 1_583 1_584) refl refl

pub links_needed : (bounds_refusal table_e ≡ 0) × (bounds_refusal third_e ≡ 0)
    × (greatest_over (beyond 0) (λ v. v.greatest) table_e.links ≡ greatest_over (beyond 0) (λ v. v.greatest) third_e.links)
    × (bound table_e 0 ≡ 480) × (bound third_e 0 ≡ 544) × (AgreeTo 0 table_e third_e → ⊥)
unfolding the_links Correct
links_needed = (e_held.has_bounds, third_held.has_bounds, refl, (formed.a).1, third_limits.1, λ a. let e : ◌≡◌ {A = ℕ} 1 2 = ap length a.links_same in omega arith)

-- a table that does not pass: E, and E with one line, on which link 2 does not stand
abbrev one_line_e : Table
one_line_e = record { lines = 1; links = table_e.links; sizes = table_e.sizes }

one_line_limits : (hold one_line_e 1 ≡ 500) × (bound one_line_e 1 ≡ 0) × (window one_line_e 1 ≡ 0)
unfolding the_peak
one_line_limits = by_peak one_line_e 1 6 500 0 0 refl refl

pub checks_needed : (table_refusal table_e ≡ 0) × AgreeTo 7 table_e one_line_e × (bound table_e 1 ≡ 980) × (bound one_line_e 1 ≡ 0) × (table_refusal one_line_e ≡ 0 → ⊥)
unfolding the_links Correct
checks_needed = (refl, record { links_same = refl; longest_below = refl }, (formed.b).1, one_line_limits.1, λ e. let x : ◌≡◌ {A = ℕ} 4 0 = e in omega arith)

-- ---- NoneSmaller, and by what Grown asks NoneRegained and BoundsKept

-- what Grown says of lists of one length, and of another
grown_length : {links grown : List VirtualLink} → Grown links grown → length links ≤ length grown
grown_length over = le_refl 0
grown_length (edited s g) = omega (arith, grown_length g)
grown_length (added g) = omega (arith, grown_length g)

grown_pairs : {links grown : List VirtualLink} → Grown links grown → length links ≡ length grown → (i : ℕ) → i < length links → NoSmaller (link_at links i) (link_at grown i)
grown_pairs over e i l = absurd (omega arith)
grown_pairs (edited s g) e zero l = s
grown_pairs (edited s g) e (suc i) l = grown_pairs g (omega arith) i (omega arith)
grown_pairs (added g) e i l = absurd (omega (arith, grown_length g))

-- the second has bounds, and a bound or a hold is smaller in it
pub record Smaller (t u : Table) (p : ℕ) : Type 0 where
  pub has_bounds : bounds_refusal u ≡ 0
  pub smaller : (bound u p < bound t p) ⊎ (hold u p < hold t p)
  pub uncovered : Grown t.links u.links → ⊥

-- smaller jitter: table O with 12,001, then with 12,000
pub jitter_needed : Smaller (late 12_001) (late 12_000) 0
unfolding the_climb the_checks Correct
jitter_needed =
    record {
      has_bounds = (held (late 12_000) 6 (λ p. 500) refl refl).has_bounds;
      smaller = inl (omega (arith, (shown.window_o1).1, (formed.window_o0).1));
      uncovered = λ g. omega (arith, (grown_pairs g refl 0 (omega arith)).jitter_kept);
    }

-- smaller L: E, then E with link 2 of 999
abbrev shorter_e : Table
shorter_e = with_second (plain 2 1 1 999)

shorter_held : Held shorter_e (first_and 1_498 1_499)
unfolding the_climb the_checks
shorter_held = held shorter_e 6 (first_and 1_498 1_499) refl refl

pub greatest_needed : Smaller table_e shorter_e 0
unfolding Correct
greatest_needed =
    record {
      has_bounds = shorter_held.has_bounds;
      smaller = inr (omega (arith, (formed.a).0, shorter_held.hold_is 0 (omega arith)));
      uncovered = λ g. omega (arith, (grown_pairs g refl 1 (omega arith)).greatest_kept);
    }

-- another line: h, then g
abbrev one_line : Table
one_line = table_of 1 (plain 0 0 0 200 ∷ plain 1 0 0 200 ∷ plain 2 0 0 200 ∷ []) []

pub line_needed : Smaller (three_lines []) one_line 0
unfolding the_climb the_checks Correct
line_needed =
    record {
      has_bounds = (held one_line 6 (λ p. 600) refl refl).has_bounds;
      smaller = inl (omega (arith, (formed.h).1, (shown.g).1));
      uncovered = λ g. omega (arith, (grown_pairs g refl 1 (omega arith)).line_same);
    }

-- another priority: E, then E with link 2 at priority 5, which leaves none at priority 1
abbrev hold_moved : ℕ → ℕ
hold_moved zero = 1_499
hold_moved (suc zero) = 1_499
hold_moved (suc (suc zero)) = 1_499
hold_moved (suc (suc (suc zero))) = 1_499
hold_moved (suc (suc (suc (suc zero)))) = 1_499
hold_moved (suc (suc (suc (suc (suc p))))) = 11_500

pub priority_needed : Smaller table_e moved_e 1
unfolding the_climb the_checks the_peak Correct
priority_needed =
    record {
      has_bounds = (held moved_e 12 hold_moved refl refl).has_bounds;
      smaller = inl (omega (arith, (formed.b).1, (unused moved_e 1 refl).0));
      uncovered = λ g. omega (arith, (grown_pairs g refl 1 (omega arith)).priority_same);
    }

-- another code: table O with jitter 12,500, then with a BAG of 2 ms
abbrev slower : Table
slower = table_of 1 (record { number = 1; line = 0; priority = 0; code = 1; least = 84; greatest = 500; jitter = 12_500 } ∷ []) []

slower_limits : (hold slower 0 ≡ 500) × (bound slower 0 ≡ 480) × (window slower 0 ≡ 0)
unfolding the_peak
slower_limits = by_peak slower 0 6 500 480 0 refl refl

pub code_needed : Smaller (late 12_500) slower 0
unfolding the_climb the_checks Correct
code_needed =
    record {
      has_bounds = (held slower 6 (λ p. 500) refl refl).has_bounds;
      smaller = inl (omega (arith, (changed.window_o2).1, slower_limits.1));
      uncovered = λ g. omega (arith, (grown_pairs g refl 0 (omega arith)).code_same);
    }

-- a link left out: E, then E without link 2
abbrev first_e : Table
first_e = table_of 2 (plain 1 0 0 500 ∷ []) (2_000 ∷ 2_000 ∷ [])

first_held : Held first_e (λ p. 500)
unfolding the_climb the_checks
first_held = held first_e 6 (λ p. 500) refl refl

pub all_needed : Smaller table_e first_e 0
unfolding Correct
all_needed =
    record {
      has_bounds = first_held.has_bounds;
      smaller = inr (omega (arith, (formed.a).0, first_held.hold_is 0 (omega arith)));
      uncovered = λ g. omega (arith, grown_length g);
    }

-- windows are not among what grows: that of table O falls where its jitter rises from 12,001 to 12,500
late_grown : (j k : ℕ) → j ≤ k → Grown (late j).links (late k).links
late_grown j k l = edited (record { line_same = refl; priority_same = refl; code_same = refl; greatest_kept = le_refl 500; jitter_kept = l }) over

pub windows_may_fall : Grown (late 12_001).links (late 12_500).links × (window (late 12_001) 0 ≡ 499) × (window (late 12_500) 0 ≡ 480)
unfolding Correct
windows_may_fall = (late_grown 12_001 12_500 (omega arith), (shown.window_o1).2, (changed.window_o2).2)

-- ---- bounds and checks of the two, in NoneSmaller, NoneRegained, BoundsKept and the answers of calls

-- three links of priority 1 on three lines, and one of 84 above them: with jitter 125,000 they have no bounds
abbrev burst : ℕ → ℕ → ℕ → VirtualLink
burst greatest jitter n = record { number = n; line = n; priority = 1; code = 0; least = 84; greatest = greatest; jitter = jitter }

abbrev bursts : ℕ → ℕ → Table
bursts greatest jitter = table_of 3 (burst greatest jitter 0 ∷ burst greatest jitter 1 ∷ burst greatest jitter 2 ∷ plain 3 0 0 84 ∷ []) []

burst_grown : (l m j k n : ℕ) → l ≤ m → j ≤ k → NoSmaller (burst l j n) (burst m k n)
burst_grown l m j k n x y = record { line_same = refl; priority_same = refl; code_same = refl; greatest_kept = x; jitter_kept = y }

same_link : (v : VirtualLink) → NoSmaller v v
same_link v = record { line_same = refl; priority_same = refl; code_same = refl; greatest_kept = le_refl v.greatest; jitter_kept = le_refl v.jitter }

bursts_grown : (l m j k : ℕ) → l ≤ m → j ≤ k → Grown (bursts l j).links (bursts m k).links
bursts_grown l m j k x y = edited (burst_grown l m j k 0 x y) (edited (burst_grown l m j k 1 x y) (edited (burst_grown l m j k 2 x y) (edited (same_link (plain 3 0 0 84)) over)))

bursts_held : Held (bursts 1_538 0) (first_and 1_621 4_698)
unfolding the_climb the_checks
bursts_held = held (bursts 1_538 0) 6 (first_and 1_621 4_698) refl refl

bursts_climb : hold_of (bursts 1_538 125_000) 1 ≡ none
unfolding the_climb
bursts_climb = climbed_past (bursts 1_538 125_000) 1 16 tt

bursts_lack : bounds_refusal (bursts 1_538 125_000) ≡ 8
unfolding the_checks
bursts_lack = no_hold (bursts 1_538 125_000) refl 1 (omega arith) bursts_climb

-- a second table without bounds: a hold that is not there counts as 0
pub bounds_needed : Grown (bursts 1_538 0).links (bursts 1_538 125_000).links × (bounds_refusal (bursts 1_538 125_000) ≡ 8) × (hold (bursts 1_538 0) 1 ≡ 4_698)
    × (hold (bursts 1_538 125_000) 1 ≡ 0)
unfolding hold or_zero
bounds_needed = (bursts_grown 1_538 1_538 0 125_000 (omega arith) (omega arith), bursts_lack, bursts_held.hold_is 1 (omega arith), rw bursts_climb)

-- and its answer has no numbers, though the tables agree to priority 0
pub answers_needed : AgreeTo 0 (bursts 1_538 0) (bursts 1_538 125_000) × (bounds_refusal (bursts 1_538 0) ≡ 0) × (hold (bursts 1_538 0) 0 ≡ 1_621)
    × ((sizing (bursts 1_538 125_000)).holds ≡ replicate 8 0)
unfolding the_links sizing sized_or
answers_needed = (record { links_same = refl; longest_below = refl }, bursts_held.has_bounds, bursts_held.hold_is 0 (omega arith), rw bursts_lack)

-- smaller jitter, smaller L, another code, links left out: the first has no bounds, the second has
pub record Regains (t u : Table) : Type 0 where
  pub lacks : bounds_refusal t ≡ 8
  pub has : bounds_refusal u ≡ 0
  pub uncovered : Grown t.links u.links → ⊥

pub jitter_regains : Regains (bursts 1_538 125_000) (bursts 1_538 0)
jitter_regains = record { lacks = bursts_lack; has = bursts_held.has_bounds; uncovered = λ g. omega (arith, (grown_pairs g refl 0 (omega arith)).jitter_kept) }

short_held : Held (bursts 84 125_000) (first_and 167 2_856)
unfolding the_climb the_checks
short_held = held (bursts 84 125_000) 44 (first_and 167 2_856) refl refl

pub greatest_regains : Regains (bursts 1_538 125_000) (bursts 84 125_000)
greatest_regains = record { lacks = bursts_lack; has = short_held.has_bounds; uncovered = λ g. omega (arith, (grown_pairs g refl 0 (omega arith)).greatest_kept) }

-- with a BAG of 128 ms
abbrev slow_burst : ℕ → VirtualLink
slow_burst n = record { number = n; line = n; priority = 1; code = 7; least = 84; greatest = 1_538; jitter = 125_000 }

abbrev slow_bursts : Table
slow_bursts = table_of 3 (slow_burst 0 ∷ slow_burst 1 ∷ slow_burst 2 ∷ plain 3 0 0 84 ∷ []) []

slow_held : Held slow_bursts (first_and 1_621 4_698)
unfolding the_climb the_checks
slow_held = held slow_bursts 6 (first_and 1_621 4_698) refl refl

pub code_regains : Regains (bursts 1_538 125_000) slow_bursts
code_regains = record { lacks = bursts_lack; has = slow_held.has_bounds; uncovered = λ g. omega (arith, (grown_pairs g refl 0 (omega arith)).code_same) }

-- one of the three alone
abbrev one_burst : Table
one_burst = table_of 3 (burst 1_538 125_000 0 ∷ plain 3 0 0 84 ∷ []) []

one_held : Held one_burst (first_and 1_621 18_624)
unfolding the_climb the_checks
one_held = held one_burst 16 (first_and 1_621 18_624) refl refl

pub all_regain : Regains (bursts 1_538 125_000) one_burst
all_regain = record { lacks = bursts_lack; has = one_held.has_bounds; uncovered = λ g. omega (arith, grown_length g) }

-- a second table that does not pass: it has no bounds, under another number
pub second_passes_needed : Grown (bursts 1_538 125_000).links (bursts 1_539 125_000).links × (bounds_refusal (bursts 1_538 125_000) ≡ 8) × (bounds_refusal (bursts 1_539 125_000) ≡ 4)
unfolding the_checks bounds_refusal
second_passes_needed = (bursts_grown 1_538 1_539 125_000 125_000 (omega arith) (omega arith), bursts_lack, refl)

-- a first table that does not pass: E with a size of 16,385, then E
pub first_passes_needed : Grown (sized_e 16_385).links table_e.links × (bounds_refusal (sized_e 16_385) ≡ 6) × (bounds_refusal table_e ≡ 0)
unfolding the_checks bounds_refusal
first_passes_needed = (edited (same_link (plain 1 0 0 500)) (edited (same_link (plain 2 1 1 1_000)) over), refl, e_held.has_bounds)
