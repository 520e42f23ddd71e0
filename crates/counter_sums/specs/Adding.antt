-- What the parts of the addition promise, and what they ask.
use Rattle.std.specs.Prelude.{◌≡◌, true, List, ℕ, ◌+◌, ◌*◌, ◌≤◌, leb, length, get_or}
use Rattle.model.specs.Units.{full_count}
use Rattle.model.specs.Counters.{every_count}
use Rattle.counters.specs.View.{view_counts}

-- the count of the link at a place, by its verdict
abbrev pub count_in : List ℕ → ℕ → ℕ → ℕ
count_in counts i verdict = get_or counts (4 * i + verdict) 0

-- the counts of a record: those of the first n links, and the unknown one, are at most full
pub record Few (counts : List ℕ) (unknown n : ℕ) : Type 0 where
  pub sized : length counts ≡ 1024
  pub links : n ≤ 256
  pub each : every_count (λ count. leb count full_count) n (view_counts n counts unknown) ≡ true
