-- Edits of a table in the numbers that a user holds: what `bounds_of` answered of two table records, as its contract says.
use Rattle.std.specs.Prelude.{◌≡◌, ℕ, ◌≤◌, Result, Ok, get_or}
use Rattle.model.specs.Table.{table_refusal}
use Rattle.model.specs.Bounds.{sizing}
use Rattle.model.specs.Promises.{AgreeTo, Grown}
use Rattle.refusal.specs.declared.Refusal.{Refusal}
use Rattle.refusal.specs.Numbers.{number_or_0}
use Rattle.table.specs.declared.Table.{Table as TableRecord}
use Rattle.table.specs.View.{view_table}
use Rattle.bounds.specs.declared.Bounds.{Bounds as BoundsRecord}
use Rattle.bounds.specs.Answer.{sizing_of}

-- "Both with bounds", and agreeing to priority p: bounds, holds and windows of 0 to p are the same numbers
abbrev pub EditsBelowUnseenInAnswers : Type 0
EditsBelowUnseenInAnswers = (t u : TableRecord) (b c : BoundsRecord) → sizing_of (Ok b) ≡ sizing (view_table t)
    → sizing_of (Ok c) ≡ sizing (view_table u) → (p : ℕ) → AgreeTo p (view_table t) (view_table u) → (q : ℕ) → q ≤ p
    → (get_or b.bounds q 0 ≡ get_or c.bounds q 0) × (get_or b.holds q 0 ≡ get_or c.holds q 0) × (get_or b.windows q 0 ≡ get_or c.windows q 0)

-- links grew, and the second has bounds: no bound and no hold is smaller in its answer. The first may be refused: its numbers are 0
abbrev pub NoneSmallerInAnswers : Type 0
NoneSmallerInAnswers = (t u : TableRecord) (b : Result BoundsRecord Refusal) (c : BoundsRecord) → sizing_of b ≡ sizing (view_table t)
    → sizing_of (Ok c) ≡ sizing (view_table u) → Grown (view_table t).links (view_table u).links → (p : ℕ)
    → (get_or (sizing_of b).bounds p 0 ≤ get_or c.bounds p 0) × (get_or (sizing_of b).holds p 0 ≤ get_or c.holds p 0)

-- links grew, and the first was refused with 8: so is the second, if it passes its own checks
abbrev pub NoneRegainedInAnswers : Type 0
NoneRegainedInAnswers = (t u : TableRecord) (b c : Result BoundsRecord Refusal) → sizing_of b ≡ sizing (view_table t) → sizing_of c ≡ sizing (view_table u)
    → Grown (view_table t).links (view_table u).links → table_refusal (view_table u) ≡ 0 → number_or_0 b ≡ 8 → number_or_0 c ≡ 8
