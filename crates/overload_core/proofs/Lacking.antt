-- Whether a table has no bounds, by what its links may send together.
use mathlib.Core.Path.{◌≡◌, refl, sym, ap, ◌∙◌}
use mathlib.Core.Bool.{true, false}
use mathlib.Core.List.{List, [], ◌∷◌}
use Prim.Native.Nat.{ℕ, zero, suc, ◌+◌, ◌-◌, ◌*◌, ◌≤◌, ◌<◌}
use native.Mathlib.Omega.{arith}
use lib.ListN.{length, get_or, take}
use lib.Seq.{take_all}
use borrow.Author.Tests.{ne_eqb, eq-eqb}
use Rattle.model.specs.Basics.{provided}
use Rattle.model.specs.Link.{VirtualLink, link_at, sum_over}
use Rattle.model.specs.Arrival.{frame_curve}
use Rattle.model.specs.Table.{table_refusal}
use Rattle.model.specs.Bounds.{bounds_refusal}
use Rattle.model.specs.OverloadCore.{lacks_bounds}
use Rattle.model.specs.Promises.{demand}
use Rattle.model.proofs.Holds.{lacks_passes}
use Rattle.model.proofs.LastHold.{Overloaded, overloaded_more, overloaded_lacks, sends_few}
use Rattle.table.specs.declared.VirtualLink.{VirtualLink as LinkFields}
use Rattle.table.specs.declared.Table.{Table as TableRecord}
use Rattle.table.specs.View.{view_link, blank_fields, view_links, view_table}
use Rattle.table.proofs.Shape.{count_shown}
use Rattle.table.proofs.PassingRecord.{counts_pass, entry_is, entry_fits}
use Rattle.bounds_arrivals.proofs.Fitting.{product_few}

-- ---- one link more
demand_more : (links : List VirtualLink) (i w : ℕ) → i < length links → demand (take (suc i) links) w ≡ demand (take i links) w + (link_at links i).greatest * frame_curve (link_at links i) w
unfolding demand sum_over provided
demand_more [] i w h = absurd (omega arith)
demand_more (v ∷ links) zero w h = omega arith
demand_more (v ∷ links) (suc i) w h = omega (arith, demand_more links i w (omega arith))

-- the sum of the first i links; a frame has 1,538 bytes at most, and a link sends 16 of them at most
pub record Summed (t : TableRecord) (w sum i : ℕ) : Type 0 where
  pub is : sum ≡ demand (take i (view_links t)) w
  pub small : sum ≤ 24_608 * i

module _ (t : TableRecord) (w : ℕ) where
  pub summed_none : Summed t w 0 0
  unfolding demand sum_over
  summed_none = record { is = refl; small = omega arith }

  module _ (pass : table_refusal (view_table t) ≡ 0) where
    pub summed_more : {sum i : ℕ} → Summed t w sum i → i < t.count → (l : LinkFields) → l ≡ get_or t.links i blank_fields → (wire n : ℕ) → wire ≡ l.greatest
        → ((number : ℕ) → n ≡ frame_curve (view_link number l) w) → n ≤ 16 → Summed t w (sum + wire * n) (i + 1)
    summed_more {sum} {i} s h l e wire n ew en few =
        let one : i + 1 ≡ suc i = omega arith in
        let at : link_at (view_links t) i ≡ view_link (get_or t.numbers i 0) l = rw e (entry_is t pass i h) in
        let most : l.greatest ≤ 1_538 = rw e (entry_fits t pass i h).greatest_most in
        record {
          is = rw (one, demand_more (view_links t) i w (omega (arith, count_shown t)), at, ← s.is, ew, en (get_or t.numbers i 0));
          small = omega (arith, s.small, product_few wire n (omega arith) few);
        }

    pub summed_all : {sum i : ℕ} → Summed t w sum i → i ≡ t.count → (sum ≡ demand (view_links t) w) × (sum ≤ 6_299_648)
    summed_all {sum} {i} s e =
        (s.is ∙ ap (λ links. demand links w) (take_all i (view_links t) (omega (arith, count_shown t))), omega (arith, s.small, (counts_pass t pass).links_most))

-- ---- the climb
module _ (t : TableRecord) where
  pub refused_table : (table_refusal (view_table t) ≡ 0 → ⊥) → false ≡ lacks_bounds (view_table t)
  unfolding lacks_bounds
  refused_table z = sym (ne_eqb (bounds_refusal (view_table t)) 8 (λ e. z (lacks_passes (view_table t) e)))

  module _ (pass : table_refusal (view_table t) ≡ 0) (w : ℕ) where
    pub few_sent : (sent : ℕ) → 1 ≤ w → w ≤ 65_536 → sent ≡ demand (view_links t) (w - 1) → sent ≤ w → false ≡ lacks_bounds (view_table t)
    unfolding lacks_bounds view_table
    few_sent sent l m e h =
        let x : bounds_refusal (view_table t) ≡ 0 = sends_few (view_table t) pass w l m (rw e at h) in
        sym (ne_eqb (bounds_refusal (view_table t)) 8 (λ y. omega arith))

    pub more_sent : Overloaded (view_links t) w → (sent : ℕ) → sent ≡ demand (view_links t) (w - 1) → w < sent → Overloaded (view_links t) sent
    more_sent over sent e h = rw e (overloaded_more (view_links t) w over (omega arith))

    pub all_past : Overloaded (view_links t) w → 65_536 < w → true ≡ lacks_bounds (view_table t)
    unfolding lacks_bounds view_table
    all_past over l = sym (eq-eqb (bounds_refusal (view_table t)) 8 (overloaded_lacks (view_table t) pass w over l))
