-- Words that the definitions share: a sum, the greatest, the first and the last that pass a test, the first check that is met.
use Rattle.std.specs.Prelude.{Bool, true, false, cond, ◌&&◌, List, [], ◌∷◌, ℕ, zero, suc, ◌+◌, max}
use Rattle.std.proofs.Math.Option.{Option, none, some}

-- the number where the test holds, else 0
unfoldable pub provided : Bool → ℕ → ℕ
provided true n = n
provided false n = 0

-- f 0 + .. + f (n − 1)
unfoldable pub sum_to : (ℕ → ℕ) → ℕ → ℕ
sum_to f zero = 0
sum_to f (suc n) = sum_to f n + f n

-- the greatest of f 0, .., f (n − 1); 0 if n is 0
unfoldable pub greatest_to : (ℕ → ℕ) → ℕ → ℕ
greatest_to f zero = 0
greatest_to f (suc n) = max (greatest_to f n) (f n)

-- the test holds of 0, .., n − 1
unfoldable pub all_to : (ℕ → Bool) → ℕ → Bool
all_to test zero = true
all_to test (suc n) = all_to test n && test n

-- every condition of the list holds
unfoldable pub all_hold : List Bool → Bool
all_hold [] = true
all_hold (b ∷ bs) = b && all_hold bs

-- the first of a, a + 1, .., a + n − 1 that passes the test
unfoldable pub first_from : (ℕ → Bool) → ℕ → ℕ → Option ℕ
first_from test zero a = none
first_from test (suc n) a = let later = first_from test n (suc a) in cond (test a) (some a) later

-- the last of 0, .., n − 1 that passes the test
unfoldable pub last_below : (ℕ → Bool) → ℕ → Option ℕ
last_below test zero = none
last_below test (suc n) = let earlier = last_below test n in cond (test n) (some n) earlier

-- a place in a list, one further on
unfoldable pub further : Option ℕ → Option ℕ
further none = none
further (some i) = some (suc i)

-- f 0, .., f 7
abbrev pub eight {ℓ} : {A : Type ℓ} → (ℕ → A) → List A
eight f = f 0 ∷ f 1 ∷ f 2 ∷ f 3 ∷ f 4 ∷ f 5 ∷ f 6 ∷ f 7 ∷ []

-- "Entries of a record behind its counts are no part of a table or queue": the n entries before a count. Where the array ends before
-- the count, blanks stand for what is missing, so that a count that is too large shows as the length that it is
unfoldable pub entries {ℓ} : {A : Type ℓ} → A → ℕ → List A → List A
entries blank zero l = []
entries blank (suc n) [] = blank ∷ entries blank n []
entries blank (suc n) (x ∷ l) = x ∷ entries blank n l

-- so it is of every element
pub data Each {A : Type 0} (P : A → Type 0) : List A → Type 0 where
  done : Each P []
  also : {a : A} {l : List A} → P a → Each P l → Each P (a ∷ l)

-- a check of the paper's table of refusals: its number, and whether it is met
pub record Check : Type 0 where
  pub number : ℕ
  pub met : Bool

abbrev pub check : ℕ → Bool → Check
check n b = record { number = n; met = b }

-- "The first that applies is the answer, alone"; 0 if none does
unfoldable pub first_met : List Check → ℕ
first_met [] = 0
first_met (c ∷ cs) = cond c.met c.number (first_met cs)

-- of two refusals in order, 0 being none
unfoldable pub first_refusal : ℕ → ℕ → ℕ
first_refusal zero n = n
first_refusal (suc k) n = suc k
