-- The answer, from the refusal of the table and whether it has no bounds.
use mathlib.Core.Path.{◌≡◌, refl, sym, ◌∙◌}
use mathlib.Core.Logic.{◌⊎◌, inl, inr}
use mathlib.Core.Bool.{true, false}
use Prim.Native.Nat.{ℕ, zero, suc}
use native.Mathlib.Omega.{arith}
use borrow.Author.Tests.{eqb-true}
use Rattle.model.specs.Basics.{first_met, first_refusal}
use Rattle.model.specs.Table.{blank_table, table_refusal}
use Rattle.model.specs.Bounds.{bounds_refusal}
use Rattle.model.specs.OverloadCore.{with_links, lacks_bounds, core_links, core_refusal, core_or, core}
use Rattle.model.proofs.Holds.{has_or_lacks}
use Rattle.table.specs.declared.Table.{Table as TableRecord}
use Rattle.table.specs.View.{view_table, record_table}
use Rattle.overload_core.specs.Answer.{Core as CoreRecord, record_core}

module _ (t : TableRecord) where
  pub table_refused : (n : ℕ) → n ≡ table_refusal (view_table t) → (n ≡ 0 → ⊥) → (r : CoreRecord) → r ≡ record { refused = n; table = record_table blank_table }
      → r ≡ record_core (core (view_table t))
  unfolding core core_refusal first_refusal core_or
  table_refused zero e z r q = absurd (z refl)
  table_refused (suc n) e z r q = q ∙ rw (← e)

  module _ (pass : table_refusal (view_table t) ≡ 0) where
    pub bounds_there : false ≡ lacks_bounds (view_table t) → (r : CoreRecord) → r ≡ record { refused = 26; table = record_table blank_table }
        → r ≡ record_core (core (view_table t))
    unfolding core core_refusal first_refusal first_met core_or lacks_bounds
    bounds_there e r q = go (has_or_lacks (view_table t) pass)
      where
        go : (bounds_refusal (view_table t) ≡ 0) ⊎ (bounds_refusal (view_table t) ≡ 8) → r ≡ record_core (core (view_table t))
        go (inl x) = q ∙ rw (pass, x)
        go (inr x) = absurd (let z : ◌≡◌ {A = ℕ} 0 1 = let y = rw x at e in cc in omega arith)

    pub links_remain : true ≡ lacks_bounds (view_table t) → (r : TableRecord) → r ≡ record_table (with_links (view_table t) (core_links (view_table t)))
        → ◌≡◌ {A = CoreRecord} (record { refused = 0; table = r }) (record_core (core (view_table t)))
    unfolding core core_refusal first_refusal first_met core_or lacks_bounds
    links_remain e r q = rw (q, pass, eqb-true (bounds_refusal (view_table t)) 8 (sym e))
