-- Bandwidth reserved: where the last priority has a hold, all links together reserve no more than one line carries. So a table that has
-- bounds is oversold on no line, nor is the line that it feeds.
use mathlib.Core.Path.{◌≡◌, refl, sym, ap, ◌∙◌}
use mathlib.Core.Bool.{Bool, true, false, ◌&&◌, not}
use mathlib.Core.Option.{none, some}
use mathlib.Core.List.{List, [], ◌∷◌, ◌++◌, map, append_assoc, Memᴰ}
use Prim.Native.Nat.{ℕ, zero, suc, ◌+◌, ◌-◌, ◌*◌, ◌/◌, ◌^◌, ◌≤◌, ◌<◌, min, max}
use native.Mathlib.Nat.{le_trans, mul_comm, mul_assoc, mul_left_comm, mul-le-mul_left, le_of_mul-le-mul_left, div-lt_iff_lt-mul}
use native.Mathlib.Omega.{arith}
use lib.Dec.{eqb}
use borrow.Author.Tests.{eq-eqb, eqb-true, le-leb, not-false}
use lib.ListN.{length}
use Rattle.model.specs.Basics.{provided, sum_to, all_to, all_hold, Check, check, first_met}
use Rattle.model.specs.Units.{line_capacity}
use Rattle.model.specs.Link.{VirtualLink, bag_of, bag, any_of, sum_over, greatest_over}
use Rattle.model.specs.Arrival.{frame_curve, on_line, line_curve, arrival_curve}
use Rattle.model.specs.Table.{Table, count_checks, links_checks, reservation, reserved_on, none_oversold, line_checks, size_checks, table_checks, table_refusal}
use Rattle.model.specs.Bounds.{up_to, up_arrivals, hold_of, is_there, or_zero, bounds_refusal, hold}
use Rattle.model.specs.NextTable.{next_link, next_links}
use Rattle.model.specs.Fitness.{fit}
use Rattle.model.specs.Promises.{former_checks, former_bounds_refusal, HoldCarries, NoneRefusedNow, OversoldUnbounded, RowsCarried, OversoldUnfit}
use Rattle.model.proofs.Bags.{bag_power, bag_positive}
use Rattle.model.proofs.Curves.{sum_to_mono, sum_over_mono, sum_over_within, sum_over_none}
use Rattle.model.proofs.Queues.{sum_to_one_le}
use Rattle.model.proofs.Grouping.{sum_to_add}
use Rattle.model.proofs.Checks.{Numbered, numbered_append, NoneMet, none_front, none_back, none_met, first_past, first_none, first_here, all_to_lem, to_all}
use Rattle.model.proofs.TableFacts.{FieldsFit, links_numbered, links_unmet, parts_unmet}
use Rattle.model.proofs.Passing.{members_pass, is_passing}
use Rattle.model.proofs.Holds.{hold_is, there_is, HasBounds, has_bounds, all_holds}

-- ---- sums over links
sum_over_scale : (k : ℕ) (set : VirtualLink → Bool) (f : VirtualLink → ℕ) (links : List VirtualLink) → sum_over set (λ v. k * f v) links ≡ k * sum_over set f links
unfolding sum_over provided
sum_over_scale k set f [] = omega arith
sum_over_scale k set f (v ∷ links) = go (set v) (sum_over_scale k set f links)
  where
    go : (b : Bool) → sum_over set (λ v. k * f v) links ≡ k * sum_over set f links → provided b (k * f v) + sum_over set (λ v. k * f v) links ≡ k * (provided b (f v) + sum_over set f links)
    go true ih = omega (arith, ih)
    go false ih = omega (arith, ih)

-- at most the sum of the lines' sums, where each link has a line below the count
over_lines : (set : VirtualLink → Bool) (f : VirtualLink → ℕ) (lines : ℕ) (links : List VirtualLink) → ((v : VirtualLink) → Memᴰ v links → v.line < lines)
    → sum_over set f links ≤ sum_to (λ ℓ. sum_over (on_line set ℓ) f links) lines
unfolding sum_over on_line
over_lines set f lines [] h = omega arith
over_lines set f lines (v ∷ links) h =
    omega (
      arith,
      here,
      over_lines set f lines links (λ u m. h u (Memᴰ.tail m)),
      sum_to_add (λ ℓ. provided (set v && eqb v.line ℓ) (f v)) (λ ℓ. sum_over (on_line set ℓ) f links) lines,
    )
  where
    same : (b : Bool) → (b && eqb v.line v.line) ≡ b
    same true = eq-eqb v.line v.line refl
    same false = refl

    here : provided (set v) (f v) ≤ sum_to (λ ℓ. provided (set v && eqb v.line ℓ) (f v)) lines
    here =
        let one = sum_to_one_le (λ ℓ. provided (set v && eqb v.line ℓ) (f v)) v.line lines (h v (Memᴰ.head refl)) in
        rw (same (set v)) at one

some_greatest : (m : ℕ) (set : VirtualLink → Bool) (f : VirtualLink → ℕ) (links : List VirtualLink) → ((v : VirtualLink) → Memᴰ v links → m ≤ f v) → any_of set links ≡ true
    → m ≤ greatest_over set f links
unfolding any_of greatest_over provided
some_greatest m set f [] h e = absurd (let z : ◌≡◌ {A = ℕ} 0 1 = cc in omega arith)
some_greatest m set f (v ∷ links) h e = go (set v) refl (some_greatest m set f links (λ u x. h u (Memᴰ.tail x)))
  where
    go : (b : Bool) → set v ≡ b → (any_of set links ≡ true → m ≤ greatest_over set f links) → m ≤ max (provided (set v) (f v)) (greatest_over set f links)
    go true q ih = rw q (omega (arith, h v (Memᴰ.head refl)))
    go false q ih = rw q (omega (arith, ih (rw q at e)))

-- ---- a hold takes no line's cut: what the links send until it is no more than it
uncut : (b : Bool) (s x g : ℕ) → (b ≡ false → s ≡ 0) → (b ≡ true → 2 ≤ g) → provided b (min s (x + g)) ≤ x + 1 → s ≤ provided b (min s (x + g))
unfolding provided
uncut true s x g z h l = omega (arith, h refl)
uncut false s x g z h l = omega (arith, z refl)

module _ (set : VirtualLink → Bool) (lines : ℕ) (links : List VirtualLink) (below : (v : VirtualLink) → Memᴰ v links → v.line < lines)
    (long : (v : VirtualLink) → Memᴰ v links → 2 ≤ v.greatest) (w : ℕ) (from : 1 ≤ w) (holds : arrival_curve (λ n. n) set lines links (w - 1) ≤ w) where
  line_uncut : (ℓ : ℕ) → ℓ < lines → sum_over (on_line set ℓ) (λ v. v.greatest * frame_curve v (w - 1)) links ≤ line_curve (λ n. n) set links ℓ (w - 1)
  unfolding line_curve arrival_curve
  line_uncut ℓ l =
      uncut (any_of (on_line set ℓ) links) (sum_over (on_line set ℓ) (λ v. v.greatest * frame_curve v (w - 1)) links) (w - 1) (greatest_over (on_line set ℓ) (λ v. v.greatest) links)
      (sum_over_none (on_line set ℓ) (λ v. v.greatest * frame_curve v (w - 1)) links)
      (some_greatest 2 (on_line set ℓ) (λ v. v.greatest) links long)
      (omega (arith, sum_to_one_le (λ k. line_curve (λ n. n) set links k (w - 1)) ℓ lines l))

  pub sent_by_hold : sum_over set (λ v. v.greatest * frame_curve v (w - 1)) links ≤ w
  unfolding arrival_curve
  sent_by_hold =
      le_trans (over_lines set (λ v. v.greatest * frame_curve v (w - 1)) lines links below)
      (le_trans (sum_to_mono (λ ℓ. sum_over (on_line set ℓ) (λ v. v.greatest * frame_curve v (w - 1)) links) (λ ℓ. line_curve (λ n. n) set links ℓ (w - 1)) lines line_uncut) holds)

-- ---- L × 2^(7 − code) × w ≤ 1,600,000 × L × N(w − 1)
frames_cover : (v : VirtualLink) (w : ℕ) → 1 ≤ w → w ≤ frame_curve v (w - 1) * bag v
unfolding frame_curve
frames_cover v w h =
    let x = w - 1 + v.jitter in
    omega (arith, (div-lt_iff_lt-mul {x = x} {y = 1 + x / bag v} (bag_positive v)).0 (omega arith))

slots : (code : ℕ) → code ≤ 7 → 2 ^ (7 - code) * bag_of code ≡ 1_600_000
slots zero h = rw (bag_power 0 h)
slots (suc zero) h = rw (bag_power 1 h)
slots (suc (suc zero)) h = rw (bag_power 2 h)
slots (suc (suc (suc zero))) h = rw (bag_power 3 h)
slots (suc (suc (suc (suc zero)))) h = rw (bag_power 4 h)
slots (suc (suc (suc (suc (suc zero))))) h = rw (bag_power 5 h)
slots (suc (suc (suc (suc (suc (suc zero)))))) h = rw (bag_power 6 h)
slots (suc (suc (suc (suc (suc (suc (suc zero))))))) h = rw (bag_power 7 h)
slots (suc (suc (suc (suc (suc (suc (suc (suc k)))))))) h = absurd (omega arith)

slots_cover : (v : VirtualLink) (w : ℕ) → v.code ≤ 7 → 1 ≤ w → w * reservation v ≤ 1_600_000 * (v.greatest * frame_curve v (w - 1))
unfolding reservation
slots_cover v w c h =
    let k = 2 ^ (7 - v.code) in
    let n = frame_curve v (w - 1) in
    let more : v.greatest * k * w ≤ v.greatest * k * (n * bag v) = mul-le-mul_left (v.greatest * k) (frames_cover v w h) in
    let same : v.greatest * k * (n * bag v) ≡ k * bag v * (v.greatest * n) =
    mul_assoc v.greatest k (n * bag v) ∙ ap (λ x. v.greatest * x) (mul_left_comm k n (bag v)) ∙ sym (mul_assoc v.greatest n (k * bag v)) ∙ mul_comm (v.greatest * n) (k * bag v) in
    rw (mul_comm w (v.greatest * k), ← slots v.code c, ← same) more

module _ (t : Table) (pass : NoneMet (links_checks t.lines none t.links)) (w : ℕ) (is : hold_of t 7 ≡ some w) where
  fit_of : {v : VirtualLink} → Memᴰ v t.links → FieldsFit t.lines v
  fit_of m = members_pass t.lines none t.links pass m

  abbrev pub sent : ℕ
  sent = sum_over (up_to 7) (λ v. v.greatest * frame_curve v (w - 1)) t.links

  pub sent_most : sent ≤ w
  unfolding up_arrivals
  sent_most =
      let h = hold_is t 7 w is in
      sent_by_hold (up_to 7) t.lines t.links (λ v m. (fit_of m).line_below) (λ v m. omega (arith, (fit_of m).least_from, (fit_of m).least_greatest)) w h.least_is
      (omega (arith, h.holds))

  scaled : w * sum_over (up_to 7) reservation t.links ≤ 1_600_000 * sent
  scaled =
      rw (← sum_over_scale w (up_to 7) reservation t.links, ← sum_over_scale 1_600_000 (up_to 7) (λ v. v.greatest * frame_curve v (w - 1)) t.links)
      (sum_over_mono (up_to 7) (λ v. w * reservation v) (λ v. 1_600_000 * (v.greatest * frame_curve v (w - 1))) t.links
      (λ v m. slots_cover v w (fit_of m).code_most (hold_is t 7 w is).least_is))

  pub all_carried : sum_over (λ v. true) reservation t.links ≤ line_capacity
  unfolding up_to
  all_carried =
      le_trans (sum_over_within (λ v. true) (up_to 7) reservation t.links (λ v m e. le-leb v.priority 7 (fit_of m).priority_most))
      (le_of_mul-le-mul_left {k = w} (omega (arith, scaled, sent_most)) (hold_is t 7 w is).least_is)

-- ---- no line of it is oversold
pub lines_carry : (lines : ℕ) (links : List VirtualLink) → sum_over (λ v. true) reservation links ≤ line_capacity → none_oversold lines links ≡ true
unfolding none_oversold reserved_on
lines_carry lines links h =
    to_all _ lines (λ ℓ l. le-leb _ line_capacity (le_trans (sum_over_within (λ v. eqb v.line ℓ) (λ v. true) reservation links (λ v m e. refl)) h))

clash : {b : Bool} → b ≡ true → b ≡ false → ⊥
clash x y = let z : ◌≡◌ {A = ℕ} 0 1 = let q : true ≡ false = sym x ∙ y in cc in omega arith

-- ---- a table by the checks without 23
module _ (t : Table) where
  abbrev counts : List Check
  counts = count_checks t.lines (length t.links)

  abbrev links : List Check
  links = links_checks t.lines none t.links

  abbrev lines : List Check
  lines = line_checks t.lines t.links

  abbrev sizes : List Check
  sizes = size_checks t.sizes

  abbrev last : List Check
  last = check 8 (not (all_to (λ p. is_there (hold_of t p)) 8)) ∷ []

  former_numbered : Numbered (counts ++ links ++ sizes)
  former_numbered = numbered_append (counts ++ links) sizes (numbered_append counts links (omega arith) (links_numbered t.lines none t.links)) (omega arith)

  module _ (former : NoneMet (counts ++ links ++ sizes)) where
    front : NoneMet (counts ++ links)
    front = none_front (counts ++ links) sizes former

    carried : is_there (hold_of t 7) ≡ true → none_oversold t.lines t.links ≡ true
    carried e = lines_carry t.lines t.links (all_carried t (none_back counts links front) (or_zero (hold_of t 7)) (there_is (hold_of t 7) e))

    module _ (holds : all_to (λ p. is_there (hold_of t p)) 8 ≡ true) where
      there : (p : ℕ) → p < 8 → is_there (hold_of t p) ≡ true
      there = all_to_lem (λ p. is_there (hold_of t p)) 8 holds

      passes_now : table_refusal t ≡ 0
      passes_now =
          parts_unmet t (none_front counts links front) (none_back counts links front) (rw (carried (there 7 (omega arith))), tt) (none_back (counts ++ links) sizes former)

      bounds_now : bounds_refusal t ≡ 0
      bounds_now = all_holds t passes_now there

    module _ (over : none_oversold t.lines t.links ≡ false) where
      no_bounds : first_met (counts ++ links ++ sizes ++ last) ≡ 8
      unfolding first_met
      no_bounds = first_past (counts ++ links ++ sizes) last former ∙ go (all_to (λ p. is_there (hold_of t p)) 8) refl
        where
          go : (b : Bool) → all_to (λ p. is_there (hold_of t p)) 8 ≡ b → first_met (check 8 (not b) ∷ []) ≡ 8
          go true e = absurd (clash (carried (all_to_lem (λ p. is_there (hold_of t p)) 8 e 7 (omega arith))) over)
          go false e = refl

      oversold_now : bounds_refusal t ≡ 23
      unfolding bounds_refusal table_checks
      oversold_now =
          rw (append_assoc (counts ++ links ++ lines) sizes last, append_assoc (counts ++ links) lines (sizes ++ last))
          (first_past (counts ++ links) (lines ++ (sizes ++ last)) front ∙ first_here (check 23 (not (none_oversold t.lines t.links))) (sizes ++ last) (rw over))

pub hold_carries : HoldCarries
unfolding former_checks
hold_carries t e w is =
    all_carried t (none_back (counts t) (links t) (front t (none_met (counts t ++ links t ++ sizes t) (former_numbered t) e))) w is

pub none_refused_now : NoneRefusedNow
unfolding former_bounds_refusal former_checks
none_refused_now t e =
    let all = none_met (counts t ++ links t ++ sizes t ++ last t) (numbered_append (counts t ++ links t ++ sizes t) (last t) (former_numbered t) (omega arith)) e in
    let former = none_front (counts t ++ links t ++ sizes t) (last t) all in
    let holds = not-false (all_to (λ p. is_there (hold_of t p)) 8) (none_back (counts t ++ links t ++ sizes t) (last t) all).0 in
    (carried t former (there t former holds 7 (omega arith)), bounds_now t former holds)

pub oversold_unbounded : OversoldUnbounded
unfolding former_bounds_refusal former_checks
oversold_unbounded t e over =
    let former = none_met (counts t ++ links t ++ sizes t) (former_numbered t) e in
    (no_bounds t former over, oversold_now t former over)

-- ---- the rows for the next switch reserve what their links do here
rows_reserve : (t : Table) (line : ℕ) (links : List VirtualLink) → sum_over (λ v. true) reservation (map (next_link t line) links) ≡ sum_over (λ v. true) reservation links
unfolding sum_over reservation next_link
rows_reserve t line [] = refl
rows_reserve t line (v ∷ links) = omega (arith, rows_reserve t line links)

pub rows_carried : RowsCarried
unfolding next_links
rows_carried t e line lines =
    let b : HasBounds t = has_bounds t e in
    let few = all_carried t (links_unmet t b.table) (hold t 7) (b.holds 7 (omega arith)) in
    first_none (line_checks lines (map (next_link t line) t.links)) (rw (lines_carry lines (map (next_link t line) t.links) (rw (rows_reserve t line t.links) few)), tt)

-- ---- a port with an oversold table
pub oversold_unfit : OversoldUnfit
unfolding fit all_hold
oversold_unfit t s over = go (eqb (table_refusal t) 0) refl
  where
    go : (b : Bool) → eqb (table_refusal t) 0 ≡ b → fit t s ≡ false
    go true e = absurd (clash (is_passing t (eqb-true (table_refusal t) 0 e)).carried over)
    go false e = rw e
