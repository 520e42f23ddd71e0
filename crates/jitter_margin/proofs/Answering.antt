-- The answer, from the refusal of the table, the place of the number and the count of the jitters that fit.
use mathlib.Core.Path.{◌≡◌, refl, sym, ◌∙◌}
use mathlib.Core.Option.{none, some}
use Prim.Native.Nat.{ℕ, zero, suc, ◌-◌, ◌<◌}
use native.Mathlib.Omega.{arith}
use lib.ListN.{get_or}
use Rattle.std.specs.Prelude.{Option, Some, None}
use Rattle.model.specs.Link.{place_of}
use Rattle.model.specs.Table.{table_refusal}
use Rattle.model.specs.JitterMargin.{greatest_fitting, Margin, margin}
use Rattle.model.proofs.Stepping.{placed}
use Rattle.model.proofs.JitterMargin.{margin_by}
use Rattle.table.specs.declared.Table.{Table as TableRecord}
use Rattle.table.specs.View.{view_links, view_table}
use Rattle.table.proofs.Shape.{Sized}
use Rattle.table_lookup.specs.Places.{Found}
use Rattle.table_lookup.proofs.Tables.{links_named}
use Rattle.jitter_margin.specs.Fitting.{last_of, Counted}
use Rattle.jitter_margin.proofs.Putting.{place_is}

-- ---- of a link of a table that passes
module _ (t : TableRecord) (s : Sized t) (e : table_refusal (view_table t) ≡ 0) (i : ℕ) (l : i < t.count) where
  pub by_count : (many : ℕ) → Counted t (get_or t.numbers i 0) many → (r : Margin)
      → (many ≡ 0 → r ≡ record { refused = 25; jitter = 0 }) → ((many ≡ 0 → ⊥) → r ≡ record { refused = 0; jitter = many - 1 })
      → r ≡ margin (view_table t) (get_or t.numbers i 0)
  unfolding last_of view_table
  by_count zero c r none-fit some_fit =
      none-fit refl ∙ sym (margin_by (view_table t) (get_or t.numbers i 0) 0 e (some i) (place_is t s e i l) none c.last)
  by_count (suc n) c r none-fit some_fit =
      let one : suc n - 1 ≡ n = omega arith in
      some_fit (λ z. omega arith)
      ∙ rw one (sym (margin_by (view_table t) (get_or t.numbers i 0) 0 e (some i) (place_is t s e i l) (some n) c.last))

-- ---- of any table and number
module _ (t : TableRecord) (number : ℕ) where
  pub table_refused : (n : ℕ) → n ≡ table_refusal (view_table t) → (n ≡ 0 → ⊥) → (r : Margin) → r ≡ record { refused = n; jitter = 0 }
      → r ≡ margin (view_table t) number
  unfolding view_table
  table_refused zero e z r q = absurd (z refl)
  table_refused (suc n) e z r q =
      q ∙ sym (margin_by (view_table t) number (suc n) (sym e) (place_of number (view_links t)) refl (greatest_fitting (view_table t) number) refl)

  module _ (e : table_refusal (view_table t) ≡ 0) {x : Option ℕ} (found : Found t.numbers t.count number x) where
    pub unknown : x ≡ None → (r : Margin) → r ≡ record { refused = 24; jitter = 0 } → r ≡ margin (view_table t) number
    unfolding view_table
    unknown y r q =
        let p : place_of number (view_links t) ≡ none = found.place (view_links t) (links_named t e) ∙ rw y in
        q ∙ sym (margin_by (view_table t) number 0 e none p (greatest_fitting (view_table t) number) refl)

    pub known : (i : ℕ) → x ≡ Some i → (r : Margin) → r ≡ margin (view_table t) (get_or t.numbers i 0)
        → r ≡ margin (view_table t) number
    known i y r q =
        let p : place_of number (view_links t) ≡ some i = found.place (view_links t) (links_named t e) ∙ rw y in
        let n : get_or t.numbers i 0 ≡ number = sym ((links_named t e).number i (found.below i y)) ∙ (placed number (view_links t) i p).number_is in
        q ∙ rw n
