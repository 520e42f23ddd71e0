-- What counting in a lent flat list promises.
use Rattle.std.specs.Prelude.{◌≡◌, Option, Some, List, ℕ, ◌*◌, ◌≤◌, ◌<◌, get_or}
use Rattle.model.specs.Counters.{counted}
use Rattle.table_lookup.specs.Places.{view_place}
use Rattle.counters.specs.View.{view_tallies}

-- the place, if it is one, is among the first n
abbrev pub Within : ℕ → Option ℕ → Type 0
Within n place = (i : ℕ) → place ≡ Some i → i < n

-- of any number of links that the place is among: the counters are the model's, and those of the links behind them stay
pub record Tallied (place : Option ℕ) (verdict : ℕ) (before after : List ℕ) : Type 0 where
  pub counted_is : (n : ℕ) → n ≤ 256 → Within n place → view_tallies n after ≡ counted (view_place place) verdict (view_tallies n before)
  pub behind : (n : ℕ) → Within n place → (k : ℕ) → 5 * n ≤ k → k < 1280 → get_or after k 0 ≡ get_or before k 0
