-- Hold, bound and window of one priority.
use Rattle.std.specs.Prelude.{◌≡◌, ℕ, Option, None, Some}
use Rattle.std.proofs.Math.Option.{none, some}
use Rattle.model.specs.Table.{Table}
use Rattle.model.specs.Bounds.{hold_of, bound_within, window_within}
use Rattle.model.specs.Promises.{IsHold}
use Rattle.bounds.specs.declared.limits.Limits.{Limits}

-- what climbing gives: the hold, which is the smallest, or that there is none
abbrev pub Climbed : Table → ℕ → Option ℕ → Type 0
Climbed t p None = hold_of t p ≡ none
Climbed t p (Some w) = IsHold t p w

pub record LimitsOf (t : Table) (p : ℕ) (l : Limits) : Type 0 where
  pub hold : hold_of t p ≡ some l.hold
  pub bound : l.bound ≡ bound_within t p l.hold
  pub window : l.window ≡ window_within t p l.hold

abbrev pub Limited : Table → ℕ → Option Limits → Type 0
Limited t p None = hold_of t p ≡ none
Limited t p (Some l) = LimitsOf t p l
