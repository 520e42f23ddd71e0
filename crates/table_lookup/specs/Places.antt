-- Looking a number up: what is found.
use Rattle.std.specs.Prelude.{◌≡◌, List, ℕ, ◌<◌, length, get_or, Option, Some, None}
use Rattle.std.proofs.Math.Option.{Option as PaperOption, none, some}
use Rattle.model.specs.Link.{VirtualLink, link_at, place_of}

-- as the paper has it
abbrev pub view_place : Option ℕ → PaperOption ℕ
view_place (Some i) = some i
view_place None = none

-- the first n numbers rise strictly
abbrev pub Rising : List ℕ → ℕ → Type 0
Rising numbers n = (i j : ℕ) → i < j → j < n → get_or numbers i 0 < get_or numbers j 0

-- n links, whose numbers these are
pub record Named (numbers : List ℕ) (n : ℕ) (links : List VirtualLink) : Type 0 where
  pub count : length links ≡ n
  pub number : (i : ℕ) → i < n → (link_at links i).number ≡ get_or numbers i 0

-- the place of a number among the links whose numbers these are
pub record Found (numbers : List ℕ) (n number : ℕ) (r : Option ℕ) : Type 0 where
  pub place : (links : List VirtualLink) → Named numbers n links → place_of number links ≡ view_place r
  pub below : (i : ℕ) → r ≡ Some i → i < n
