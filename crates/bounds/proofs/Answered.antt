-- What an answer of the bound calculation has: its refusal is that of the bounds, its numbers are the bounds and holds of the table.
use mathlib.Core.Path.{◌≡◌, refl, sym, ap, ◌∙◌}
use Prim.Native.Nat.{ℕ, zero, suc, ◌<◌}
use native.Mathlib.Omega.{arith}
use lib.ListN.{get_or}
use Rattle.model.specs.Table.{Table}
use Rattle.model.specs.Bounds.{bounds_refusal, hold, bound, Sizing, sized_or, sizing}
use Rattle.model.proofs.Lists.{get_d_eight}
use Rattle.std.specs.Prelude.{Result, Ok, Err}
use Rattle.refusal.specs.declared.Refusal.{Refusal}
use Rattle.refusal.specs.Numbers.{number_or_0}
use Rattle.table.specs.declared.Table.{Table as TableRecord}
use Rattle.table.specs.View.{view_table}
use Rattle.bounds.specs.declared.Bounds.{Bounds as BoundsRecord}
use Rattle.bounds.specs.Answer.{sizing_of}

pub sizing_refused : (t : Table) → (sizing t).refused ≡ bounds_refusal t
unfolding sizing sized_or
sizing_refused t = go (bounds_refusal t)
  where
    go : (n : ℕ) → (sized_or n t).refused ≡ n
    go zero = refl
    go (suc n) = refl

-- of an answer
pub refusal_is : (t : TableRecord) (b : Result BoundsRecord Refusal) → sizing_of b ≡ sizing (view_table t) → number_or_0 b ≡ bounds_refusal (view_table t)
refusal_is t (Ok b) e = ap (λ (r : Sizing). r.refused) e ∙ sizing_refused (view_table t)
refusal_is t (Err b) e = ap (λ (r : Sizing). r.refused) e ∙ sizing_refused (view_table t)

-- what a sizing that is not refused has
pub record Answers (t : Table) (s : Sizing) : Type 0 where
  pub passes : bounds_refusal t ≡ 0
  pub bounds : (p : ℕ) → p < 8 → get_or s.bounds p 0 ≡ bound t p
  pub holds : (p : ℕ) → p < 8 → get_or s.holds p 0 ≡ hold t p

pub sized : (t : Table) → (sizing t).refused ≡ 0 → Answers t (sizing t)
unfolding sizing sized_or
sized t e = go (bounds_refusal t) refl e
  where
    go : (n : ℕ) → bounds_refusal t ≡ n → (sized_or n t).refused ≡ 0 → Answers t (sized_or n t)
    go zero q x = record { passes = q; bounds = λ p l. get_d_eight (bound t) p 0 l; holds = λ p l. get_d_eight (hold t) p 0 l }
    go (suc n) q x = absurd (omega arith)

-- so of an answer that is not refused
pub sized_answer : (t : TableRecord) (b : BoundsRecord) → sizing_of (Ok b) ≡ sizing (view_table t) → Answers (view_table t) (sizing_of (Ok b))
sized_answer t b e = rw e (sized (view_table t) (sym (ap (λ (r : Sizing). r.refused) e)))
