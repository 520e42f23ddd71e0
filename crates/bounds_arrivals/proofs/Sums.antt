-- Sums and the greatest over links, one link more at the end; and what a line adds. For any set of links and any weight.
use mathlib.Core.Path.{◌≡◌, refl}
use mathlib.Core.Bool.{Bool, true, false}
use mathlib.Core.List.{List, [], ◌∷◌, ◌++◌}
use Prim.Native.Nat.{ℕ, zero, suc, ◌+◌, ◌<◌, min, max}
use native.Mathlib.Numerals.{add-one}
use native.Mathlib.Omega.{arith}
use lib.ListN.{length, take}
use lib.Seq.{take-suc}
use Rattle.model.specs.Basics.{provided, sum_to}
use Rattle.model.specs.Link.{VirtualLink, blank_link, link_at, any_of, sum_over, greatest_over}
use Rattle.model.specs.Arrival.{on_line, line_curve}
use Rattle.model.proofs.Curves.{sum_over_none}
use Rattle.bounds_arrivals.specs.Loads.{line_sum, line_top}

pub sum_to_eq : (f g : ℕ → ℕ) (n : ℕ) → ((k : ℕ) → k < n → f k ≡ g k) → sum_to f n ≡ sum_to g n
unfolding sum_to
sum_to_eq f g zero h = refl
sum_to_eq f g (suc n) h = omega (arith, sum_to_eq f g n (λ k l. h k (omega arith)), h n (omega arith))

module _ (set : VirtualLink → Bool) (f : VirtualLink → ℕ) where
  sum_snoc : (links : List VirtualLink) (v : VirtualLink) → sum_over set f (links ++ (v ∷ [])) ≡ sum_over set f links + provided (set v) (f v)
  unfolding sum_over
  sum_snoc [] v = omega arith
  sum_snoc (u ∷ links) v = omega (arith, sum_snoc links v)

  greatest_snoc : (links : List VirtualLink) (v : VirtualLink) → greatest_over set f (links ++ (v ∷ [])) ≡ max (greatest_over set f links) (provided (set v) (f v))
  unfolding greatest_over
  greatest_snoc [] v = omega arith
  greatest_snoc (u ∷ links) v = omega (arith, greatest_snoc links v)

  module _ (links : List VirtualLink) (i : ℕ) (h : i < length links) where
    pub sum_more : sum_over set f (take (i + 1) links) ≡ sum_over set f (take i links) + provided (set (link_at links i)) (f (link_at links i))
    sum_more = rw (add-one, take-suc links i blank_link h) (sum_snoc (take i links) (link_at links i))

    pub greatest_more : greatest_over set f (take (i + 1) links) ≡ max (greatest_over set f (take i links)) (provided (set (link_at links i)) (f (link_at links i)))
    greatest_more = rw (add-one, take-suc links i blank_link h) (greatest_snoc (take i links) (link_at links i))

-- a set may be another test that agrees on the links
pub greatest_same : (set other : VirtualLink → Bool) (f : VirtualLink → ℕ) (links : List VirtualLink)
    → ((i : ℕ) → i < length links → set (link_at links i) ≡ other (link_at links i)) → greatest_over set f links ≡ greatest_over other f links
unfolding greatest_over
greatest_same set other f [] h = refl
greatest_same set other f (v ∷ links) h = rw (h 0 (omega arith), greatest_same set other f links (λ i l. h (suc i) (omega arith)))

-- a line without members has the sum 0, so the test on members may go
module _ (weight : ℕ → ℕ) (set : VirtualLink → Bool) (links : List VirtualLink) (ℓ w : ℕ) where
  pub line_is : line_curve weight set links ℓ w ≡ min (line_sum weight set links ℓ w) (w + line_top weight set links ℓ)
  unfolding line_curve provided
  line_is = go (any_of (on_line set ℓ) links) refl
    where
      go : (b : Bool) → any_of (on_line set ℓ) links ≡ b
          → provided (any_of (on_line set ℓ) links) (min (line_sum weight set links ℓ w) (w + line_top weight set links ℓ)) ≡ min (line_sum weight set links ℓ w) (w + line_top weight set links ℓ)
      go true q = rw q
      go false q = let z : line_sum weight set links ℓ w ≡ 0 = sum_over_none (on_line set ℓ) _ links q in rw q (omega arith)
