-- Arrival curves: the most that may arrive in a window of w ticks.
use Rattle.std.specs.Prelude.{Bool, ◌&&◌, List, ℕ, ◌+◌, ◌*◌, ◌/◌, min, eqb}
use Rattle.model.specs.Basics.{provided, sum_to}
use Rattle.model.specs.Link.{VirtualLink, bag, any_of, sum_over, greatest_over}

-- "N_v(w) = 1 + floor((w + J) / B)"
unfoldable pub frame_curve : VirtualLink → ℕ → ℕ
frame_curve v w = 1 + (w + v.jitter) / bag v

-- the members of a set that are on line ℓ
unfoldable pub on_line : (VirtualLink → Bool) → ℕ → VirtualLink → Bool
on_line set ℓ v = set v && eqb v.line ℓ

-- "the smaller of: the sum of L × N_v(w) over its members on that line; and w plus the greatest L of those members
-- (serialization). A line without members adds 0". A frame of L wire bytes counts for weight L in both members: for what it occupies of
-- a buffer in A_p, for itself in A_up
unfoldable pub line_curve : (ℕ → ℕ) → (VirtualLink → Bool) → List VirtualLink → ℕ → ℕ → ℕ
line_curve weight set links ℓ w =
    provided (any_of (on_line set ℓ) links)
    (min (sum_over (on_line set ℓ) (λ v. weight v.greatest * frame_curve v w) links) (w + greatest_over (on_line set ℓ) (λ v. weight v.greatest) links))

-- "For a set of virtual links, A(w) is the sum over lines"
unfoldable pub arrival_curve : (ℕ → ℕ) → (VirtualLink → Bool) → ℕ → List VirtualLink → ℕ → ℕ
arrival_curve weight set lines links w = sum_to (λ ℓ. line_curve weight set links ℓ w) lines
