-- The examples of the jitter that is left: a jitter fits, by climbing to each hold and by capped stretches of windows, and the next does not,
-- since a size is passed at one window or a climb never ends. The test of each is computed by itself.
use mathlib.Core.Path.{◌≡◌, refl, sym, ◌∙◌}
use mathlib.Core.Bool.{Bool, true, false, cond, ◌&&◌, and-eq-true_iff}
use mathlib.Core.Option.{none, some}
use mathlib.Core.List.{[], ◌∷◌}
use Prim.Native.Nat.{ℕ, zero, suc, ◌-◌, ◌≤◌, ◌<◌}
use native.Mathlib.Omega.{arith}
use lib.Dec.{T, leb, ltb}
use lib.ListN.{replicate}
use borrow.Author.Tests.{ltb-true}
use Rattle.model.specs.Basics.{greatest_to, all_to, all_hold, further, done, also, Each}
use Rattle.model.specs.Link.{any_of, place_of}
use Rattle.model.specs.Table.{Table, size_of, table_refusal}
use Rattle.model.specs.Bounds.{of_priority, up_arrivals, blocking, hold_of, backlog, bound_within, is_there, or_zero, hold, bound}
use Rattle.model.specs.JitterMargin.{put_in, with_jitter, jitter_fits, greatest_fitting, margin}
use Rattle.model.specs.Promises.{Fits}
use Rattle.model.specs.Examples.{table_e, sized_e, sizes_e, table_of, nine_on, jittery, three_late, table_over, margins, Correct}
use Rattle.model.specs.Examples as example
use Rattle.model.proofs.Checks.{all_true, all_to_lem}
use Rattle.model.proofs.Search.{climb, Attained, greatest_to_attained, greatest_to_ge}
use Rattle.model.proofs.Holds.{climbs_to, climbed, climbed_past, all_holds, no_hold, has_bounds}
use Rattle.model.proofs.Peaks.{all_below, backlog_cap, all_below_lem, backlog_capped}
use Rattle.model.proofs.JitterMargin.{put_passes, fits_exactly, margin_by, left_at, none_left}
use Rattle.model.proofs.FormulaExamples.{the_peak}
use Rattle.model.proofs.ClimbedExamples.{the_climb, the_checks, e_passes}

-- ---- each bound is at most its size: n steps climb to the holds, and no window below has more
unfoldable pub stays_within : ℕ → Table → (ℕ → ℕ) → Bool
stays_within n t h = all_to (λ p. climbs_to t p n (h p) && all_below (backlog_cap t p) (suc (size_of t p)) 16 0 (h p - 1)) 8

module _ (t : Table) (number j n : ℕ) (h : ℕ → ℕ) (passes : table_refusal t ≡ 0) (small : j ≤ 125_000) where
  abbrev put : Table
  put = with_jitter t number j

  both : stays_within n put h ≡ true → (p : ℕ) → p < 8 → (climbs_to put p n (h p) ≡ true) × (all_below (backlog_cap put p) (suc (size_of t p)) 16 0 (h p - 1) ≡ true)
  unfolding stays_within
  both e p l =
      (and-eq-true_iff (climbs_to put p n (h p)) (all_below (backlog_cap put p) (suc (size_of t p)) 16 0 (h p - 1))).0
      (all_to_lem (λ q. climbs_to put q n (h q) && all_below (backlog_cap put q) (suc (size_of t q)) 16 0 (h q - 1)) 8 e p l)

  most : (p held : ℕ) → all_below (backlog_cap put p) (suc (size_of t p)) 16 0 (held - 1) ≡ true → greatest_to (backlog put p) held ≤ size_of t p
  unfolding greatest_to
  most p zero e = omega arith
  most p (suc last) e =
      let a : Attained (backlog put p) (suc last) = greatest_to_attained (backlog put p) (suc last) (omega arith) in
      omega (arith, a.at_is, a.at_lt, all_below_lem (backlog put p) (backlog_cap put p) (backlog_capped put p) (suc (size_of t p)) 16 0 (suc last - 1) e a.at (omega arith) (omega (arith, a.at_lt)))

  pub fits_by : stays_within n put h ≡ true → jitter_fits t number j ≡ true
  unfolding is_there bound bound_within hold or_zero
  fits_by e =
      (fits_exactly t number j).1 (record {
        has_bounds = all_holds put (put_passes number j small t passes) (λ p l. rw (climbed put p n (h p) (both e p l).0));
        within = λ p l. rw (climbed put p n (h p) (both e p l).0) (go (any_of (of_priority p) put.links) (most p (h p) (both e p l).1));
      })
    where
      go : (b : Bool) {x y : ℕ} → x ≤ y → cond b x 0 ≤ y
      go true l = l
      go false l = omega arith

-- ---- a size is passed at a window
unfoldable pub passes_at : ℕ → Table → ℕ → ℕ → ℕ → Bool
passes_at n t p h w = all_hold (climbs_to t p n h ∷ ltb w h ∷ any_of (of_priority p) t.links ∷ ltb (size_of t p) (backlog t p w) ∷ [])

fits_not : (t : Table) (number j : ℕ) → (Fits t number j → ⊥) → jitter_fits t number j ≡ false
fits_not t number j h = go (jitter_fits t number j) refl
  where
    go : (b : Bool) → jitter_fits t number j ≡ b → b ≡ false
    go true e = absurd (h ((fits_exactly t number j).0 e))
    go false e = refl

pub passes_by : (t : Table) (number j n p h w : ℕ) → p < 8 → passes_at n (with_jitter t number j) p h w ≡ true → jitter_fits t number j ≡ false
unfolding passes_at bound bound_within hold or_zero
passes_by t number j n p h w l e =
    let a = all_true _ e in
    let u : Table = with_jitter t number j in
    let over : size_of t p < backlog u p w = ltb-true _ _ a.1.1.1.0 in
    let within : backlog u p w ≤ greatest_to (backlog u p) h = greatest_to_ge (backlog u p) h w (ltb-true w h a.1.0) in
    fits_not t number j (λ f. let x : greatest_to (backlog u p) h ≤ size_of t p = rw (climbed u p n h a.0, a.1.1.0) at (f.within p l) in omega arith)

-- ---- a climb never ends
pub lacks_by : (t : Table) (number j n p : ℕ) → p < 8
    → T (leb 65_537 (climb (up_arrivals (with_jitter t number j) p) (blocking (with_jitter t number j) p) n 1)) → jitter_fits t number j ≡ false
lacks_by t number j n p l past =
    fits_not t number j (λ f.
    let x : none ≡ some (hold (with_jitter t number j) p) = sym (climbed_past (with_jitter t number j) p n past) ∙ (has_bounds (with_jitter t number j) f.has_bounds).holds p l in
    let z : ◌≡◌ {A = ℕ} 0 1 = cc in omega arith)

-- ---- a jitter fits, and with the next a size is passed
left_until : (t : Table) (number i j n : ℕ) (h : ℕ → ℕ) (p held w : ℕ) → table_refusal t ≡ 0 → place_of number t.links ≡ some i → j < 125_000 → p < 8
    → stays_within n (with_jitter t number j) h ≡ true → passes_at n (with_jitter t number (suc j)) p held w ≡ true → margin t number ≡ record { refused = 0; jitter = j }
left_until t number i j n h p held w passes place small l fits breaks =
    left_at t number i passes place j (omega arith) (fits_by t number j n h passes (omega arith) fits) (λ _. passes_by t number (suc j) n p held w l breaks)

-- names for all that the tests compute with
unfoldable pub the_margin : ℕ
unfolding the_peak stays_within passes_at put_in all_to all_hold
the_margin = 0

-- one hold of priority 0, another of all the others
abbrev two_holds : ℕ → ℕ → ℕ → ℕ
two_holds first other zero = first
two_holds first other (suc p) = other

-- ---- table E
first_fits : stays_within 6 (with_jitter table_e 1 125_000) (two_holds 6_499 6_500) ≡ true
unfolding the_margin
first_fits = refl

pub left_first : Correct example.left_first
unfolding Correct place_of
left_first = left_at table_e 1 0 e_passes refl 125_000 (omega arith) (fits_by table_e 1 125_000 6 (two_holds 6_499 6_500) e_passes (omega arith) first_fits) (λ l. absurd (omega arith))

second_fits : stays_within 4 (with_jitter table_e 2 22_501) (two_holds 1_499 3_500) ≡ true
unfolding the_margin
second_fits = refl

second_breaks : passes_at 4 (with_jitter table_e 2 22_502) 1 3_500 2_498 ≡ true
unfolding the_margin
second_breaks = refl

pub left_second : Correct example.left_second
unfolding Correct place_of further
left_second = left_until table_e 2 1 22_501 4 (two_holds 1_499 3_500) 1 3_500 2_498 e_passes refl (omega arith) (omega arith) second_fits second_breaks

-- a byte more, and one less, of size
more_passes : table_refusal (sizes_e 2_000 2_001) ≡ 0
unfolding the_checks
more_passes = refl

more_fits : stays_within 4 (with_jitter (sizes_e 2_000 2_001) 2 22_502) (two_holds 1_499 3_500) ≡ true
unfolding the_margin
more_fits = refl

more_breaks : passes_at 4 (with_jitter (sizes_e 2_000 2_001) 2 22_503) 1 3_500 2_497 ≡ true
unfolding the_margin
more_breaks = refl

pub left_more : Correct example.left_more
unfolding Correct place_of further
left_more = left_until (sizes_e 2_000 2_001) 2 1 22_502 4 (two_holds 1_499 3_500) 1 3_500 2_497 more_passes refl (omega arith) (omega arith) more_fits more_breaks

less_passes : table_refusal (sizes_e 2_000 1_999) ≡ 0
unfolding the_checks
less_passes = refl

less_fits : stays_within 4 (with_jitter (sizes_e 2_000 1_999) 2 22_500) (two_holds 1_499 2_500) ≡ true
unfolding the_margin
less_fits = refl

less_breaks : passes_at 4 (with_jitter (sizes_e 2_000 1_999) 2 22_501) 1 3_500 2_499 ≡ true
unfolding the_margin
less_breaks = refl

pub left_less : Correct example.left_less
unfolding Correct place_of further
left_less = left_until (sizes_e 2_000 1_999) 2 1 22_500 4 (two_holds 1_499 2_500) 1 3_500 2_499 less_passes refl (omega arith) (omega arith) less_fits less_breaks

-- sizes that are the bounds, and one that is less
tight_passes : table_refusal (sizes_e 480 980) ≡ 0
unfolding the_checks
tight_passes = refl

tight_fits : stays_within 4 (with_jitter (sizes_e 480 980) 1 11_001) (two_holds 1_499 2_000) ≡ true
unfolding the_margin
tight_fits = refl

tight_breaks : passes_at 4 (with_jitter (sizes_e 480 980) 1 11_002) 0 1_999 1_498 ≡ true
unfolding the_margin
tight_breaks = refl

pub left_tight : Correct example.left_tight
unfolding Correct place_of further
left_tight = left_until (sizes_e 480 980) 1 0 11_001 4 (two_holds 1_499 2_000) 0 1_999 1_498 tight_passes refl (omega arith) (omega arith) tight_fits tight_breaks

none_passes : table_refusal (sized_e 479) ≡ 0
unfolding the_checks
none_passes = refl

none_breaks : passes_at 4 (with_jitter (sized_e 479) 2 0) 0 1_499 0 ≡ true
unfolding the_margin
none_breaks = refl

pub left_none : Correct example.left_none
unfolding Correct place_of further
left_none = none_left (sized_e 479) 2 1 none_passes refl (passes_by (sized_e 479) 2 0 4 0 1_499 0 (omega arith) none_breaks)

-- ---- FULL, with the largest sizes
abbrev full : Table
full = table_of 2 (nine_on 0 196) (replicate 8 16_384)

full_passes_lem : table_refusal full ≡ 0
unfolding the_checks
full_passes_lem = refl

full_fits : stays_within 10 (with_jitter full 8 0) (λ p. 12_500) ≡ true
unfolding the_margin
full_fits = refl

full_climbs : T (leb 65_537 (climb (up_arrivals (with_jitter full 8 1) 0) (blocking (with_jitter full 8 1) 0) 52 1))
unfolding the_margin
full_climbs = tt

pub left_full : Correct example.left_full
unfolding Correct place_of further
left_full =
    left_at full 8 8 full_passes_lem refl 0 (omega arith)
    (fits_by full 8 0 10 (λ p. 12_500) full_passes_lem (omega arith) full_fits)
    (λ l. lacks_by full 8 1 52 0 (omega arith) full_climbs)

-- ---- three links of jitter 125,000, on one line and on three
late_passes : table_refusal three_late ≡ 0
unfolding the_checks
late_passes = refl

late_climbs : hold_of three_late 0 ≡ none
unfolding the_climb
late_climbs = climbed_past three_late 0 43 tt

pub late_lacks : Correct example.late_lacks
unfolding Correct
late_lacks = no_hold three_late late_passes 0 (omega arith) late_climbs

late_fits : stays_within 41 (with_jitter three_late 2 63_480) (λ p. 61_520) ≡ true
unfolding the_margin
late_fits = refl

later_climbs : T (leb 65_537 (climb (up_arrivals (with_jitter three_late 2 63_481) 0) (blocking (with_jitter three_late 2 63_481) 0) 44 1))
unfolding the_margin
later_climbs = tt

pub left_late : Correct example.left_late
unfolding Correct place_of further
left_late =
    left_at three_late 2 1 late_passes refl 63_480 (omega arith)
    (fits_by three_late 2 63_480 41 (λ p. 61_520) late_passes (omega arith) late_fits)
    (λ l. lacks_by three_late 2 63_481 44 0 (omega arith) later_climbs)

abbrev apart : Table
apart = table_of 3 (jittery 1 0 0 1_538 ∷ jittery 2 1 0 1_538 ∷ jittery 3 2 0 1_538 ∷ []) (replicate 8 16_384)

apart_passes : table_refusal apart ≡ 0
unfolding the_checks
apart_passes = refl

apart_breaks : passes_at 6 (with_jitter apart 2 0) 0 49_216 16_918 ≡ true
unfolding the_margin
apart_breaks = refl

pub left_apart : Correct example.left_apart
unfolding Correct place_of further
left_apart = none_left apart 2 1 apart_passes refl (passes_by apart 2 0 6 0 49_216 16_918 (omega arith) apart_breaks)

-- ---- refused before any jitter is tried
pub left_unknown : Correct example.left_unknown
unfolding Correct place_of further
left_unknown = margin_by table_e 3 0 e_passes none refl (greatest_fitting table_e 3) refl

over_refused : table_refusal table_over ≡ 23
unfolding the_checks
over_refused = refl

pub left_over : Correct example.left_over
unfolding Correct
left_over = margin_by table_over 9 23 over_refused (place_of 9 table_over.links) refl (greatest_fitting table_over 9) refl

pub margins_correct : Each Correct margins
margins_correct =
    also left_first (also left_second (also left_more (also left_less (also left_tight (also left_none
    (also left_full (also late_lacks (also left_late (also left_apart (also left_unknown (also left_over done)))))))))))
