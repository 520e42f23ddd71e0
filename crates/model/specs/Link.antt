-- Virtual links, and sums over them.
use Rattle.std.specs.Prelude.{Bool, true, false, cond, List, [], ◌∷◌, ℕ, ◌+◌, ◌*◌, ◌^◌, min, max, eqb, get_or}
use Rattle.std.proofs.Math.Option.{Option, none, some}
use Rattle.model.specs.Basics.{provided, further}

-- "A virtual link v has a number (16 bits), a line, a priority, a BAG code k from 0 to 7, least and greatest length
-- (the greatest is L), and jitter J in ticks"
pub record VirtualLink : Type 0 where
  pub number : ℕ
  pub line : ℕ
  pub priority : ℕ
  pub code : ℕ
  pub least : ℕ
  pub greatest : ℕ
  pub jitter : ℕ

-- "Its BAG is B": "definition and code take 12,500 × 2^code". A code above 7 meets check 4, and has the BAG of 7
unfoldable pub bag_of : ℕ → ℕ
bag_of code = 12_500 * 2 ^ min code 7

-- "12,500; 25,000; 50,000; 100,000; 200,000; 400,000; 800,000; 1,600,000 ticks (1 to 128 ms)": the standard's table, by codes.
-- That the formula gives it is the theorem BagConstants
abbrev pub standard_bags : List ℕ
standard_bags = 12_500 ∷ 25_000 ∷ 50_000 ∷ 100_000 ∷ 200_000 ∷ 400_000 ∷ 800_000 ∷ 1_600_000 ∷ []

abbrev pub bag : VirtualLink → ℕ
bag v = bag_of v.code

-- what stands at no place of a table
abbrev pub blank_link : VirtualLink
blank_link = record { number = 0; line = 0; priority = 0; code = 0; least = 0; greatest = 0; jitter = 0 }

abbrev pub link_at : List VirtualLink → ℕ → VirtualLink
link_at links i = get_or links i blank_link

-- the place of a number in the table, or none
unfoldable pub place_of : ℕ → List VirtualLink → Option ℕ
place_of n [] = none
place_of n (v ∷ links) = cond (eqb v.number n) (some 0) (further (place_of n links))

-- A set of virtual links is a test. Over the members of a set among the links: they themselves, in order; whether there is one; a sum; the
-- greatest, 0 if there is none
unfoldable pub members_of : (VirtualLink → Bool) → List VirtualLink → List VirtualLink
members_of set [] = []
members_of set (v ∷ links) = cond (set v) (v ∷ members_of set links) (members_of set links)

unfoldable pub any_of : (VirtualLink → Bool) → List VirtualLink → Bool
any_of set [] = false
any_of set (v ∷ links) = cond (set v) true (any_of set links)

unfoldable pub sum_over : (VirtualLink → Bool) → (VirtualLink → ℕ) → List VirtualLink → ℕ
sum_over set f [] = 0
sum_over set f (v ∷ links) = provided (set v) (f v) + sum_over set f links

unfoldable pub greatest_over : (VirtualLink → Bool) → (VirtualLink → ℕ) → List VirtualLink → ℕ
greatest_over set f [] = 0
greatest_over set f (v ∷ links) = max (provided (set v) (f v)) (greatest_over set f links)
