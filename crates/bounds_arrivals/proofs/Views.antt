-- The paper's sets of links are ranges of priorities, and its weights cut something off a length.
use mathlib.Core.Path.{◌≡◌, sym, ap, ◌∙◌, fun_ext}
use mathlib.Core.Bool.{true, false, ◌&&◌}
use Prim.Native.Nat.{ℕ, ◌+◌, ◌-◌, ◌≤◌}
use native.Mathlib.Decide.{dec_le, ℕ_discrete}
use native.Mathlib.Omega.{arith}
use lib.Dec.{eqb, leb, ltb}
use borrow.Author.Tests.{le-leb, lt-leb, lt-ltb, le-ltb, eq-eqb, ne_eqb}
use Rattle.model.specs.Units.{unkept, occupied}
use Rattle.model.specs.Link.{VirtualLink, link_at, greatest_over}
use Rattle.model.specs.Table.{table_refusal}
use Rattle.model.specs.Arrival.{arrival_curve}
use Rattle.model.specs.Bounds.{of_priority, up_to, beyond, own_arrivals, up_arrivals, longest, blocking}
use Rattle.table.specs.declared.Table.{Table as TableRecord}
use Rattle.table.specs.View.{view_links, view_table}
use Rattle.table.proofs.Shape.{count_shown}
use Rattle.table.proofs.PassingRecord.{link_fits}
use Rattle.bounds_arrivals.specs.Loads.{within, between, less}
use Rattle.bounds_arrivals.proofs.Sums.{greatest_same}

-- ---- weights
occupied_is : (n : ℕ) → less unkept n ≡ occupied n
unfolding occupied
occupied_is n = omega arith

wire_is : (n : ℕ) → less 0 n ≡ n
wire_is n = omega arith

-- ---- sets
within_one : (p q : ℕ) → within p p q ≡ eqb q p
unfolding within
within_one p q = go (ℕ_discrete q p)
  where
    go : Dec (q ≡ p) → (leb p q && leb q p) ≡ eqb q p
    go (yes e) = rw (le-leb p q (omega arith), le-leb q p (omega arith), eq-eqb q p e)
    go (no n) = rw (ne_eqb q p n) (side (dec_le p q))
      where
        side : Dec (p ≤ q) → (leb p q && leb q p) ≡ false
        side (yes l) = rw (le-leb p q l, lt-leb q p (omega arith))
        side (no l) = rw (lt-leb p q (omega arith))

within_up : (p q : ℕ) → within 0 p q ≡ leb q p
unfolding within
within_up p q = rw (le-leb 0 q (omega arith))

within_beyond : (p q : ℕ) → q ≤ 7 → within (p + 1) 7 q ≡ ltb p q
unfolding within
within_beyond p q h = go (dec_le (p + 1) q)
  where
    go : Dec (p + 1 ≤ q) → (leb (p + 1) q && leb q 7) ≡ ltb p q
    go (yes l) = rw (le-leb (p + 1) q l, le-leb q 7 h, lt-ltb p q (omega arith))
    go (no l) = rw (lt-leb (p + 1) q (omega arith), le-ltb p q (omega arith))

pub own_set : (p : ℕ) → between p p ≡ of_priority p
unfolding of_priority
own_set p = fun_ext (λ v. within_one p v.priority)

up_set : (p : ℕ) → between 0 p ≡ up_to p
unfolding up_to
up_set p = fun_ext (λ v. within_up p v.priority)

-- a set within another
pub own_within_up : (p : ℕ) (v : VirtualLink) → between p p v ≡ true → between 0 p v ≡ true
own_within_up p v e = within_up p v.priority ∙ go (ℕ_discrete v.priority p)
  where
    go : Dec (v.priority ≡ p) → leb v.priority p ≡ true
    go (yes q) = le-leb v.priority p (omega arith)
    go (no q) = absurd (let z : ◌≡◌ {A = ℕ} 0 1 = let y : false ≡ true = sym (ne_eqb v.priority p q) ∙ sym (within_one p v.priority) ∙ e in cc in omega arith)

-- ---- the paper's amounts
module _ (t : TableRecord) (p : ℕ) where
  pub own_arrivals_lem : (w : ℕ) → arrival_curve (less unkept) (between p p) t.lines (view_links t) w ≡ own_arrivals (view_table t) p w
  unfolding own_arrivals view_table
  own_arrivals_lem w =
      ap (λ s. arrival_curve (less unkept) s t.lines (view_links t) w) (own_set p)
      ∙ ap (λ x. arrival_curve x (of_priority p) t.lines (view_links t) w) (fun_ext occupied_is)

  pub up_arrivals_lem : (w : ℕ) → arrival_curve (less 0) (between 0 p) t.lines (view_links t) w ≡ up_arrivals (view_table t) p w
  unfolding up_arrivals view_table
  up_arrivals_lem w =
      ap (λ s. arrival_curve (less 0) s t.lines (view_links t) w) (up_set p)
      ∙ ap (λ x. arrival_curve x (up_to p) t.lines (view_links t) w) (fun_ext wire_is)

  pub longest_is : greatest_over (between p p) (λ v. v.greatest) (view_links t) ≡ longest (view_table t) p
  unfolding longest view_table
  longest_is = ap (λ s. greatest_over s (λ v. v.greatest) (view_links t)) (own_set p)

  module _ (pass : table_refusal (view_table t) ≡ 0) where
    beyond_is : greatest_over (between (p + 1) 7) (λ v. v.greatest) (view_links t) ≡ greatest_over (beyond p) (λ v. v.greatest) (view_links t)
    unfolding beyond
    beyond_is =
        greatest_same (between (p + 1) 7) (beyond p) (λ v. v.greatest) (view_links t)
        (λ i l. within_beyond p (link_at (view_links t) i).priority (link_fits t pass i (omega (arith, count_shown t))).priority_most)

    pub blocking_is : (g b : ℕ) → g ≡ greatest_over (between (p + 1) 7) (λ v. v.greatest) (view_links t) → b ≡ g - 1 → b ≡ blocking (view_table t) p
    unfolding blocking view_table
    blocking_is g b e q = rw (q, e, beyond_is)
