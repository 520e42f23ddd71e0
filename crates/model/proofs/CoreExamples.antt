-- The examples of the handful that breaks a table that are computed by the definition itself: whether a table has no bounds is settled by
-- climbing on what its links may send together. Those with many links are in TrialExamples.
use mathlib.Core.Path.{◌≡◌, refl, fun_ext}
use mathlib.Core.Bool.{Bool, true, false, cond, ◌&&◌}
use mathlib.Core.Option.{Option, none, some}
use mathlib.Core.List.{List}
use Prim.Native.Nat.{ℕ, zero, suc, ◌+◌, ◌-◌, ◌≤◌, ◌<◌}
use native.Mathlib.Decide.{ℕ_discrete}
use native.Mathlib.Omega.{arith}
use lib.Dec.{eqb, leb}
use borrow.Author.Tests.{leb-true, leb-false, ne_eqb}
use Rattle.model.specs.Basics.{provided, first_met, first_refusal}
use Rattle.model.specs.Link.{VirtualLink, bag_of, sum_over}
use Rattle.model.specs.Arrival.{frame_curve}
use Rattle.model.specs.Table.{Table, table_refusal}
use Rattle.model.specs.Bounds.{bounds_refusal}
use Rattle.model.specs.OverloadCore.{with_links, lacks_bounds, remaining, core_links, core_refusal, core_or, core, sold_on}
use Rattle.model.specs.Promises.{demand}
use Rattle.model.specs.Examples.{alike, sizes_e, table_j4, table_j5, Correct}
use Rattle.model.specs.Examples as example
use Rattle.model.proofs.Holds.{lacks_passes}
use Rattle.model.proofs.LastHold.{Overloaded, overloaded_start, overloaded_more, overloaded_lacks, sends_few}
use Rattle.model.proofs.Examples.{the_table, computes, settled}
use Rattle.model.proofs.ClimbedExamples.{the_checks}

-- ---- whether links have no bounds, by a climb from w of n steps at most
unfoldable pub climbs_past : ℕ → List VirtualLink → ℕ → Option Bool
climbs_past zero links w = none
climbs_past (suc n) links w =
    let sent = demand links (w - 1) in
    let higher = climbs_past n links sent in
    cond (leb 65_537 w) (some true) (cond (leb sent w) (some false) higher)

-- what a climb says
abbrev Told : List VirtualLink → Bool → Type 0
Told links true = Overloaded links 65_537
Told links false = (w : ℕ) × (1 ≤ w) × (w ≤ 65_536) × (demand links (w - 1) ≤ w)

module _ (links : List VirtualLink) where
  told : (n w : ℕ) (b : Bool) → 1 ≤ w → Overloaded links w → climbs_past n links w ≡ some b → Told links b
  unfolding climbs_past
  told zero w b l over e = absurd (let z : ◌≡◌ {A = ℕ} 0 1 = cc in omega arith)
  told (suc n) w b l over e = go (leb 65_537 w) refl (leb (demand links (w - 1)) w) refl (told n (demand links (w - 1)) b)
    where
      go : (p : Bool) → leb 65_537 w ≡ p → (q : Bool) → leb (demand links (w - 1)) w ≡ q
          → (1 ≤ demand links (w - 1) → Overloaded links (demand links (w - 1)) → climbs_past n links (demand links (w - 1)) ≡ some b → Told links b) → Told links b
      go true x q y ih =
          let z : true ≡ b = let f : some true ≡ some b = rw x at e in cc in
          rw (← z) (λ k i j. over k i (omega (arith, leb-true 65_537 w x)))
      go false x true y ih =
          let z : false ≡ b = let f : some false ≡ some b = rw (x, y) at e in cc in
          rw (← z) (w, l, omega (arith, leb-false 65_537 w x), leb-true (demand links (w - 1)) w y)
      go false x false y ih =
          let s : w < demand links (w - 1) = leb-false (demand links (w - 1)) w y in
          ih (omega arith) (overloaded_more links w over s) (rw (x, y) at e)

  pub climbed_lacks : (t : Table) (n : ℕ) → table_refusal (with_links t links) ≡ 0 → climbs_past n links 1 ≡ some true → bounds_refusal (with_links t links) ≡ 8
  climbed_lacks t n passes e = overloaded_lacks (with_links t links) passes 65_537 (told n 1 true (omega arith) (overloaded_start links) e) (omega arith)

  pub climbed_has : (t : Table) (n : ℕ) → table_refusal (with_links t links) ≡ 0 → climbs_past n links 1 ≡ some false → bounds_refusal (with_links t links) ≡ 0
  climbed_has t n passes e =
      let h = told n 1 false (omega arith) (overloaded_start links) e in
      sends_few (with_links t links) passes h.0 h.1 h.2 h.3

-- names for all that a climb computes with
unfoldable pub the_demand : ℕ
unfolding climbs_past demand frame_curve sum_over provided bag_of alike
the_demand = 0

-- ---- J4 and J5 by the definition itself, a table without bounds being one that passes and from which a climb never comes back
unfoldable pub is_past : Option Bool → Bool
is_past none = false
is_past (some b) = b

unfoldable pub lacks_exactly : Table → Bool
lacks_exactly t = eqb (table_refusal t) 0 && is_past (climbs_past 65_537 t.links 1)

-- each step is higher, so that a climb of that many steps ends
goes_on : (links : List VirtualLink) (n w : ℕ) → climbs_past (suc n) links w ≡ none → (w < 65_537) × (w < demand links (w - 1)) × (climbs_past n links (demand links (w - 1)) ≡ none)
unfolding climbs_past
goes_on links n w e = go (leb 65_537 w) refl (leb (demand links (w - 1)) w) refl
  where
    ended : {b : Bool} → ◌≡◌ {A = Option Bool} (some b) none → ⊥
    ended x = let z : ◌≡◌ {A = ℕ} 0 1 = cc in omega arith

    go : (p : Bool) → leb 65_537 w ≡ p → (q : Bool) → leb (demand links (w - 1)) w ≡ q → (w < 65_537) × (w < demand links (w - 1)) × (climbs_past n links (demand links (w - 1)) ≡ none)
    go true x q y = absurd (ended (rw x at e))
    go false x true y = absurd (ended (rw (x, y) at e))
    go false x false y = (leb-false 65_537 w x, leb-false (demand links (w - 1)) w y, rw (x, y) at e)

ends : (links : List VirtualLink) (n w : ℕ) → climbs_past (suc n) links w ≡ none → w + n < 65_537
ends links zero w e = omega (arith, (goes_on links 0 w e).0)
ends links (suc n) w e = let g = goes_on links (suc n) w e in omega (arith, g.1, ends links n (demand links (w - 1)) g.2)

pub lacks_exactly_lem : (t : Table) → lacks_bounds t ≡ lacks_exactly t
unfolding lacks_bounds lacks_exactly is_past
lacks_exactly_lem t = elim (ℕ_discrete (table_refusal t) 0) [ yes p ↦ rw p (go p (climbs_past 65_537 t.links 1) refl) | no p ↦ rw (ne_eqb (table_refusal t) 0 p, ne_eqb (bounds_refusal t) 8 (λ x. p (lacks_passes t x))) ]
  where
    go : table_refusal t ≡ 0 → (o : Option Bool) → climbs_past 65_537 t.links 1 ≡ o → eqb (bounds_refusal t) 8 ≡ is_past o
    go p none e = absurd (omega (arith, ends t.links 65_536 1 e))
    go p (some true) e = rw (climbed_lacks t.links t 65_537 p e)
    go p (some false) e = rw (climbed_has t.links t 65_537 p e)

exactly : lacks_bounds ≡ lacks_exactly
exactly = fun_ext lacks_exactly_lem

the_definition : ℕ
unfolding Correct core core_or core_refusal first_refusal first_met core_links remaining lacks_exactly is_past the_demand the_checks
the_definition = 0

j4_passes : table_refusal table_j4 ≡ 0
unfolding the_checks
j4_passes = refl

j4_lacks : bounds_refusal table_j4 ≡ 8
unfolding the_demand
j4_lacks = climbed_lacks table_j4.links table_j4 8 j4_passes refl

pub core_j4 : Correct example.core_j4
unfolding the_definition
core_j4 = rw (j4_lacks, exactly)

j5_passes : table_refusal table_j5 ≡ 0
unfolding the_checks
j5_passes = refl

j5_lacks : bounds_refusal table_j5 ≡ 8
unfolding the_demand
j5_lacks = climbed_lacks table_j5.links table_j5 8 j5_passes refl

pub core_j5 : Correct example.core_j5
unfolding the_definition
core_j5 = rw (j5_lacks, exactly)

-- ---- refusals
small_passes : table_refusal (sizes_e 0 0) ≡ 0
unfolding the_checks
small_passes = refl

pub core_none : Correct example.core_none
unfolding Correct core core_or core_refusal first_refusal first_met the_demand
core_none = rw (small_passes, climbed_has (sizes_e 0 0).links (sizes_e 0 0) 8 small_passes refl)

pub core_over : Correct example.core_over
unfolding Correct core core_or core_refusal first_refusal the_checks
core_over = refl

-- ---- what is printed beside it
the_sold : ℕ
unfolding computes sold_on the_table
the_sold = 0

pub sold_j4 : Correct example.sold_j4
unfolding the_sold
sold_j4 = settled example.sold_j4 refl

pub sold_exact : Correct example.sold_exact
unfolding the_sold
sold_exact = settled example.sold_exact refl

pub sold_more : Correct example.sold_more
unfolding the_sold
sold_more = settled example.sold_more refl

pub sold_none : Correct example.sold_none
unfolding the_sold
sold_none = settled example.sold_none refl
