-- The frames that passed the police check, stored or dropped, the latest first, and sums over them.
use mathlib.Core.Bool.{Bool}
use mathlib.Core.List.{List, [], ◌∷◌, Memᴰ}
use Prim.Native.Nat.{ℕ, ◌+◌, ◌≤◌, ◌<◌}
use lib.Dec.{eqb, leb}
use Rattle.model.specs.Basics.{provided}
use Rattle.model.specs.Link.{VirtualLink}
use Rattle.model.specs.Arrival.{on_line}

pub record Passed : Type 0 where
  pub link : VirtualLink
  pub length : ℕ
  pub tick : ℕ

abbrev pub passed_frame : VirtualLink → ℕ → ℕ → Passed
passed_frame v len t = record { link = v; length = len; tick = t }

-- what a table lets pass: a frame of one of its links, no longer than its greatest, on one of its lines
pub record Proper (lines : ℕ) (links : List VirtualLink) (p : Passed) : Type 0 where
  pub member : Memᴰ p.link links
  pub short : p.length ≤ p.link.greatest
  pub line_below : p.link.line < lines

unfoldable pub total : (Passed → ℕ) → List Passed → ℕ
total g [] = 0
total g (p ∷ h) = g p + total g h

-- 1 for a frame of link v at tick s or later
unfoldable pub counts : VirtualLink → ℕ → Passed → ℕ
counts v s p = provided (eqb v.number p.link.number) (provided (leb s p.tick) 1)

-- how many frames of link v passed from tick s on
unfoldable pub cnt : VirtualLink → List Passed → ℕ → ℕ
cnt v h s = total (counts v s) h

-- the weight of a frame of a set of links at tick s or later, and of one on line ℓ
unfoldable pub set_length : (ℕ → ℕ) → (VirtualLink → Bool) → ℕ → Passed → ℕ
set_length weight set s p = provided (set p.link) (provided (leb s p.tick) (weight p.length))

unfoldable pub line_length : (ℕ → ℕ) → (VirtualLink → Bool) → ℕ → ℕ → Passed → ℕ
line_length weight set ℓ s p = provided (on_line set ℓ p.link) (provided (leb s p.tick) (weight p.length))
