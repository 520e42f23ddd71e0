-- What stands before a link; what links reserve, line by line.
use Rattle.std.specs.Prelude.{◌≡◌, List, ℕ, zero, suc, get_or}
use Rattle.std.proofs.Math.Option.{Option, none, some}
use Rattle.model.specs.Basics.{first_met}
use Rattle.model.specs.Link.{VirtualLink}
use Rattle.model.specs.Table.{reserved_on, line_checks}

-- the previous number of the link that has so many before it: the first has none
unfoldable pub previous_of : ℕ → ℕ → Option ℕ
previous_of zero previous = none
previous_of (suc k) previous = some previous

-- the sums are what links reserve, of every line; behind the last sum, 0
abbrev pub SumsOf : List ℕ → List VirtualLink → Type 0
SumsOf sums links = (ℓ : ℕ) → get_or sums ℓ 0 ≡ reserved_on links ℓ

-- r is what so many lines meet, whatever the links whose sums these are
abbrev pub OversoldBy : List ℕ → ℕ → ℕ → Type 0
OversoldBy sums lines r = (links : List VirtualLink) → SumsOf sums links → r ≡ first_met (line_checks lines links)
