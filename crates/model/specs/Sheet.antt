-- The printed sheet, as bytes.
use Rattle.std.specs.Prelude.{cond, ℕ, zero, suc, ◌+◌, ◌-◌, ◌*◌, ◌/◌, ◌%◌, eqb, ltb, take}
use mathlib.Core.List.{List, [], ◌∷◌, ◌++◌, flat_map}
use Prim.Native.Char.{code}
use Prim.Native.String.{String, [] as ended, ◌∷◌ as ◌then◌}
use Rattle.model.specs.Basics.{eight, first_refusal}
use Rattle.model.specs.Table.{Table, size_of}
use Rattle.model.specs.TableFile.{read_table}
use Rattle.model.specs.Bounds.{bounds_refusal, hold, bound, window}

-- the bytes of a text
unfoldable pub text : String → List ℕ
text ended = []
text (c then s) = code c ∷ text s

-- "Numerals here are base ten": the digits of n, of which there are at most k, the highest first
unfoldable pub digits : ℕ → ℕ → List ℕ
digits zero n = []
digits (suc k) n =
    let higher = digits k (n / 10) in
    cond (ltb n 10) ((48 + n) ∷ []) (higher ++ ((48 + n % 10) ∷ []))

unfoldable pub numeral : ℕ → List ℕ
numeral n = digits (suc n) n

-- a − b, "which may be below zero": '-' only below zero, no '+'
unfoldable pub difference : ℕ → ℕ → List ℕ
difference a b = cond (ltb a b) (text "-" ++ numeral (b - a)) (numeral (a - b))

-- "fill = 1000 × bound / size rounded up; where size is 0 fill is `-`"
unfoldable pub fill : ℕ → ℕ → List ℕ
fill bound size = cond (eqb size 0) (text "-") (numeral ((1_000 * bound + size - 1) / size))

-- "priority, bound, hold, size, spare = size − bound, .. and fill"; "a column named window between hold and size"
unfoldable pub sheet_line : ℕ → ℕ → ℕ → ℕ → ℕ → List ℕ
sheet_line priority bound hold window size =
    numeral priority
    ++ text " "
    ++ numeral bound
    ++ text " "
    ++ numeral hold
    ++ text " "
    ++ numeral window
    ++ text " "
    ++ numeral size
    ++ text " "
    ++ difference size bound
    ++ text " "
    ++ fill bound size
    ++ text "\n"

unfoldable pub header : List ℕ
header = text "priority bound hold window size spare fill\n"

-- "`refused N`, or a header and eight lines"
unfoldable pub sheet_or : ℕ → Table → List ℕ
sheet_or zero t = header ++ flat_map (λ p. sheet_line p (bound t p) (hold t p) (window t p) (size_of t p)) (eight (λ p. p))
sheet_or (suc n) t = text "refused " ++ numeral (suc n) ++ text "\n"

-- "The program sheet reads a table file on standard input (at most 4,653 bytes of it)"
unfoldable pub sheet : List ℕ → List ℕ
sheet input =
    let r = read_table (take 4_653 input) in
    sheet_or (first_refusal r.refused (bounds_refusal r.table)) r.table
