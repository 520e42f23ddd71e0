-- Counts that stand side by side in a list of numbers, and the counters of the model.
use Rattle.std.specs.Prelude.{List, [], ◌∷◌, ℕ, zero, suc, ◌+◌, get_or}
use Rattle.model.specs.Counters.{Counters}

-- the four numbers from a place on
unfoldable pub four_at : List ℕ → ℕ → List ℕ
four_at l at = get_or l (at + 0) 0 ∷ get_or l (at + 1) 0 ∷ get_or l (at + 2) 0 ∷ get_or l (at + 3) 0 ∷ []

-- those of n links, one link's some numbers after those of the one before
unfoldable pub rows_from : (stride at n : ℕ) → List ℕ → List (List ℕ)
rows_from stride at zero l = []
rows_from stride at (suc n) l = four_at l at ∷ rows_from stride (at + stride) n l

-- of a port record: four numbers a link, and the unknown count beside them
abbrev pub view_counts : ℕ → List ℕ → ℕ → Counters
view_counts n counts unknown = record { links = rows_from 4 0 n counts; unknown = unknown }

-- of a lent flat list: five numbers a link, of which the last is not used; the unknown count stands behind those of 256 links
abbrev pub view_tallies : ℕ → List ℕ → Counters
view_tallies n tallies = record { links = rows_from 5 0 n tallies; unknown = get_or tallies 1280 0 }
