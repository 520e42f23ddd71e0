-- The call on a port record that adds its counts up.
use Rattle.std.specs.Prelude.{Bool, true, false, List, [], ℕ, length}
use Rattle.model.specs.Basics.{provided}
use Rattle.model.specs.Table.{Table}
use Rattle.model.specs.Counters.{Counters, link_sums, grand_total, none_full}
use Rattle.model.specs.Port.{Port}
use Rattle.model.specs.Fitness.{fit}

pub record Sums : Type 0 where
  -- 0, or the number of the refusal
  pub refused : ℕ
  -- "each link's sum", in the table's order
  pub sums : List ℕ
  -- whether there is "a grand total", and what it is, else 0
  pub has_total : Bool
  pub total : ℕ

-- "A call on a fit record (else 10)", of n links
unfoldable pub sums_if : Bool → ℕ → Counters → Sums
sums_if false n c = record { refused = 10; sums = []; has_total = false; total = 0 }
sums_if true n c = record { refused = 0; sums = link_sums n c; has_total = none_full n c; total = provided (none_full n c) (grand_total n c) }

unfoldable pub sums : Table → Port → Sums
sums t s = sums_if (fit t s) (length t.links) s.counters
