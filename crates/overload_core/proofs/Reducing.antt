-- Links tried one by one: of those tried some are kept, and with the ones not yet tried they lead to what remains.
use mathlib.Core.Path.{◌≡◌, refl, sym, ap, ◌∙◌}
use mathlib.Core.Bool.{Bool, true, false}
use mathlib.Core.List.{List, [], ◌∷◌, ◌++◌}
use Prim.Native.Nat.{ℕ, suc, ◌+◌, ◌≤◌, ◌<◌}
use native.Mathlib.Omega.{arith}
use lib.ListN.{length, get_or, take, drop, length-append, drop_of_length-le}
use lib.Seq.{take_all, drop-cons}
use Rattle.model.specs.Link.{VirtualLink, blank_link}
use Rattle.model.specs.Table.{Table, table_refusal}
use Rattle.model.specs.OverloadCore.{with_links, lacks_bounds, remaining, core_links}
use Rattle.table.specs.declared.Table.{Table as TableRecord}
use Rattle.table.specs.View.{view_link, blank_fields, view_links, view_table, record_table}
use Rattle.table.proofs.Shape.{count_shown}
use Rattle.table.proofs.Shown.{record_shown}
use Rattle.table.proofs.PassingRecord.{counts_pass, entry_is}
use Rattle.overload_core.specs.Rows.{Recorded}

-- ---- one link tried
module _ (t : Table) (kept : List VirtualLink) (v : VirtualLink) (untried : List VirtualLink) where
  pub removed : lacks_bounds (with_links t (kept ++ untried)) ≡ true → remaining t kept (v ∷ untried) ≡ remaining t kept untried
  unfolding remaining
  removed e = rw e

  pub stays : lacks_bounds (with_links t (kept ++ untried)) ≡ false → remaining t kept (v ∷ untried) ≡ remaining t (kept ++ (v ∷ [])) untried
  unfolding remaining
  stays e = rw e

-- ---- the record of those kept, of the first i links
pub record Reduced (t kept : TableRecord) (i : ℕ) : Type 0 where
  pub links : List VirtualLink
  pub is : kept ≡ record_table (with_links (view_table t) links)
  pub few : kept.count ≤ i
  pub remain : remaining (view_table t) links (drop i (view_links t)) ≡ core_links (view_table t)

count_is : (t : Table) (r : TableRecord) → r ≡ record_table t → r.count ≡ length t.links
unfolding record_table
count_is t r e = ap (λ (u : TableRecord). u.count) e

module _ (t : TableRecord) where
  pub reduced_start : (r : TableRecord) → r ≡ record_table (with_links (view_table t) []) → Reduced t r 0
  unfolding core_links view_table
  reduced_start r e = record { links = []; is = e; few = omega (arith, count_is _ r e); remain = refl }

  pub reduced_end : {kept : TableRecord} {i : ℕ} → Reduced t kept i → t.count ≤ i → kept ≡ record_table (with_links (view_table t) (core_links (view_table t)))
  unfolding remaining
  reduced_end {i = i} k h =
      let none_left : drop i (view_links t) ≡ [] = drop_of_length-le (view_links t) {i = i} (omega (arith, count_shown t)) in
      let all : k.links ≡ core_links (view_table t) = rw none_left at k.remain in
      k.is ∙ rw all

  module _ (pass : table_refusal (view_table t) ≡ 0) {kept : TableRecord} {i : ℕ} (k : Reduced t kept i) (h : i < t.count) where
    most : t.count ≤ 256
    most = (counts_pass t pass).links_most

    kept_shown : view_table kept ≡ with_links (view_table t) k.links
    kept_shown = ap view_table k.is ∙ record_shown (with_links (view_table t) k.links) (omega (arith, count_is _ kept k.is, k.few, most))

    kept_links : view_links kept ≡ k.links
    unfolding view_table
    kept_links = ap (λ (u : Table). u.links) kept_shown

    pub kept_recorded : Recorded kept
    kept_recorded = k.is ∙ ap record_table (sym kept_shown)

    abbrev tried : VirtualLink
    tried = view_link (get_or t.numbers i 0) (get_or t.links i blank_fields)

    next : drop i (view_links t) ≡ tried ∷ drop (i + 1) (view_links t)
    next =
        let one : i + 1 ≡ suc i = omega arith in
        rw (one, ← entry_is t pass i h) (drop-cons (view_links t) i blank_link (omega (arith, count_shown t)))

    abbrev others : List VirtualLink
    others = k.links ++ drop (i + 1) (view_links t)

    kept_taken : take kept.count (view_links kept) ≡ k.links
    kept_taken = take_all kept.count (view_links kept) (omega (arith, count_shown kept)) ∙ kept_links

    module _ (trial : TableRecord) (is-trial : view_table trial ≡ with_links (view_table t) (take kept.count (view_links kept) ++ drop (i + 1) (view_links t)))
        (b : Bool) (test : b ≡ lacks_bounds (view_table trial)) where
      by_trial_lem : lacks_bounds (with_links (view_table t) others) ≡ b
      by_trial_lem = sym (test ∙ ap lacks_bounds (rw kept_taken at is-trial))

      pub leaves : b ≡ true → (r : TableRecord) → r ≡ kept → Reduced t r (i + 1)
      leaves e r same =
          record {
            links = k.links;
            is = same ∙ k.is;
            few = omega (arith, ap (λ (u : TableRecord). u.count) same, k.few);
            remain = sym (removed (view_table t) k.links tried (drop (i + 1) (view_links t)) (by_trial_lem ∙ e)) ∙ rw (← next) k.remain;
          }

      pub keeps : b ≡ false → (r : TableRecord) → r ≡ record_table (with_links (view_table kept) (view_links kept ++ (tried ∷ []))) → Reduced t r (i + 1)
      keeps e r is-more =
          record {
            links = k.links ++ (tried ∷ []);
            is = is-more ∙ rw (kept_shown, kept_links);
            few = omega (arith, count_is _ r is-more, length-append (view_links kept) (tried ∷ []), count_shown kept, k.few);
            remain = sym (stays (view_table t) k.links tried (drop (i + 1) (view_links t)) (by_trial_lem ∙ e)) ∙ rw (← next) k.remain;
          }
