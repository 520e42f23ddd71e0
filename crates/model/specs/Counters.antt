-- Where the frames went: counts by virtual link and verdict, and their sums.
use Rattle.std.specs.Prelude.{Bool, cond, ◌&&◌, List, [], ◌∷◌, ◌++◌, ℕ, zero, suc, ◌+◌, ltb, get_or, set, replicate}
use Rattle.std.proofs.Math.Option.{Option, none, some}
use Rattle.model.specs.Basics.{sum_to, all_to}
use Rattle.model.specs.Units.{full_count}

-- "The port record gains, for each virtual link, four counts, one per verdict, and one count for frames with an unknown number"
pub record Counters : Type 0 where
  -- in the table's order; of each link stored, filtered, policed and dropped, so that a count's place is its verdict
  pub links : List (List ℕ)
  pub unknown : ℕ

abbrev pub verdicts : ℕ
verdicts = 4

abbrev pub counts_of : Counters → ℕ → List ℕ
counts_of c i = get_or c.links i []

abbrev pub count_at : Counters → ℕ → ℕ → ℕ
count_at c i verdict = get_or (counts_of c i) verdict 0

-- of so many links, all 0
abbrev pub none_counted : ℕ → Counters
none_counted n = record { links = replicate n (replicate verdicts 0); unknown = 0 }

-- "a count at 2^52 rises no more"
unfoldable pub risen : ℕ → ℕ
risen n = cond (ltb n full_count) (suc n) n

-- a frame, by the place of its number's link and its verdict
unfoldable pub counted : Option ℕ → ℕ → Counters → Counters
counted none verdict c = record { links = c.links; unknown = risen c.unknown }
counted (some i) verdict c = record { links = set c.links i (set (counts_of c i) verdict (risen (count_at c i verdict))); unknown = c.unknown }

-- so it is of every count of the first n links, and of the unknown one
unfoldable pub every_count : (ℕ → Bool) → ℕ → Counters → Bool
every_count test n c = all_to (λ i. all_to (λ verdict. test (count_at c i verdict)) verdicts) n && test c.unknown

-- ---- sums

-- "each link's sum", of its four counts
unfoldable pub link_sum : Counters → ℕ → ℕ
link_sum c i = sum_to (count_at c i) verdicts

-- of the first n links
unfoldable pub link_sums : ℕ → Counters → List ℕ
link_sums zero c = []
link_sums (suc n) c = link_sums n c ++ (link_sum c n ∷ [])

-- "a grand total, unknown numbers included"
unfoldable pub grand_total : ℕ → Counters → ℕ
grand_total n c = sum_to (link_sum c) n + c.unknown

-- "In a record handed in, .. a record with such a count has no grand total": none of them is at 2^52
unfoldable pub none_full : ℕ → Counters → Bool
none_full n c = every_count (λ count. ltb count full_count) n c
