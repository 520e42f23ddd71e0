-- The greatest value of a function of windows, and where it first occurs.
use Rattle.std.specs.Prelude.{ℕ, suc, ◌+◌, ◌-◌, ◌≤◌, ◌<◌}

-- no rise of f from start to last is greater than the rise before it
abbrev pub Bends : (ℕ → ℕ) → ℕ → ℕ → Type 0
Bends f start last = (k : ℕ) → start ≤ k → suc (suc k) ≤ last → f k + f (suc (suc k)) ≤ f (suc k) + f (suc k)

-- the first greatest value of f from start to last is at k
pub record Crest (f : ℕ → ℕ) (start last k : ℕ) : Type 0 where
  pub from : start ≤ k
  pub until : k ≤ last
  pub before : (j : ℕ) → start ≤ j → j < k → f j < f k
  pub all : (j : ℕ) → start ≤ j → j ≤ last → f j ≤ f k

-- the greatest of g 0, .., g (n − 1) is m, first at w; 0 at 0 if n is 0
pub record Highest (g : ℕ → ℕ) (n m w : ℕ) : Type 0 where
  pub all : (k : ℕ) → k < n → g k ≤ m
  pub hit : m ≤ g w
  pub early : (k : ℕ) → k < w → g k < m
  pub inside : w ≤ n - 1
