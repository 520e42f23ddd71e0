-- What the links of some priorities put on each line.
use Rattle.std.specs.Prelude.{◌≡◌, Bool, ◌&&◌, List, ℕ, ◌+◌, ◌-◌, ◌*◌, ◌<◌, min, leb, length, get_or}
use Rattle.model.specs.Basics.{sum_to}
use Rattle.model.specs.Link.{VirtualLink, sum_over, greatest_over}
use Rattle.model.specs.Arrival.{frame_curve, on_line}
use Rattle.bounds_arrivals.specs.declared.Loads.{Loads}

-- a priority from low to high, and the links that have one
unfoldable pub within : ℕ → ℕ → ℕ → Bool
within low high p = leb low p && leb p high

abbrev pub between : ℕ → ℕ → VirtualLink → Bool
between low high v = within low high v.priority

-- a weight on lengths: all but the first cut bytes count
abbrev pub less : ℕ → ℕ → ℕ
less cut n = n - cut

-- the bytes of the members of a set on line ℓ in a window of w, and the longest of their frames
abbrev pub line_sum : (ℕ → ℕ) → (VirtualLink → Bool) → List VirtualLink → ℕ → ℕ → ℕ
line_sum weight set links ℓ w = sum_over (on_line set ℓ) (λ v. weight v.greatest * frame_curve v w) links

abbrev pub line_top : (ℕ → ℕ) → (VirtualLink → Bool) → List VirtualLink → ℕ → ℕ
line_top weight set links ℓ = greatest_over (on_line set ℓ) (λ v. weight v.greatest) links

pub record Loaded (weight : ℕ → ℕ) (set : VirtualLink → Bool) (links : List VirtualLink) (w : ℕ) (l : Loads) : Type 0 where
  pub sums24 : length l.sums ≡ 24
  pub tops24 : length l.tops ≡ 24
  pub sum : (ℓ : ℕ) → ℓ < 24 → get_or l.sums ℓ 0 ≡ line_sum weight set links ℓ w
  pub top : (ℓ : ℕ) → ℓ < 24 → get_or l.tops ℓ 0 ≡ line_top weight set links ℓ

-- the sum over lines of the smaller of the sum, and w plus the longest
unfoldable pub flow : Loads → ℕ → ℕ → ℕ
flow l lines w = sum_to (λ ℓ. min (get_or l.sums ℓ 0) (w + get_or l.tops ℓ 0)) lines
