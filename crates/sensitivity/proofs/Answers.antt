-- The numbers of two answers, place by place.
use mathlib.Core.Path.{◌≡◌, refl, sym, ap, ◌∙◌}
use Prim.Native.Nat.{ℕ, zero, suc, ◌<◌}
use native.Mathlib.Omega.{arith}
use lib.ListN.{get_or, replicate}
use Rattle.model.specs.Bounds.{sized_or, sizing}
use Rattle.model.proofs.Lists.{list_to}
use Rattle.std.specs.Prelude.{Result}
use Rattle.refusal.specs.declared.Refusal.{Refusal}
use Rattle.refusal.specs.Numbers.{number_or_0}
use Rattle.table.specs.declared.Table.{Table as TableRecord}
use Rattle.table.specs.View.{view_table}
use Rattle.bounds.specs.declared.Bounds.{Bounds as BoundsRecord}
use Rattle.bounds.specs.Answer.{sizing_of}
use Rattle.bounds.proofs.Answered.{refusal_is}

-- a relation of 0 to 0, and of the numbers below the length, holds at every place; at 8 the lists are eight f and eight g
pub along : (R : ℕ → ℕ → Type 0) → R 0 0 → (n : ℕ) (f g : ℕ → ℕ) (i : ℕ) → (i < n → R (f i) (g i)) → R (get_or (list_to f n) i 0) (get_or (list_to g n) i 0)
along R z zero f g i h = z
along R z (suc n) f g zero h = h (omega arith)
along R z (suc n) f g (suc i) h = along R z n (λ k. f (suc k)) (λ k. g (suc k)) i (λ l. h (omega arith))

pub none_of_none : (n i : ℕ) → ◌≡◌ {A = ℕ} (get_or (replicate n 0) i 0) 0
none_of_none zero i = refl
none_of_none (suc n) zero = refl
none_of_none (suc n) (suc i) = none_of_none n i

-- an answer by its refusal
pub answer_is : (t : TableRecord) (b : Result BoundsRecord Refusal) → sizing_of b ≡ sizing (view_table t) → (n : ℕ) → number_or_0 b ≡ n → sizing_of b ≡ sized_or n (view_table t)
unfolding sizing
answer_is t b e n r = e ∙ ap (λ k. sized_or k (view_table t)) (sym (refusal_is t b e) ∙ r)
