-- The lines of the sheet, from the numbers of the eight priorities.
use Rattle.std.specs.Prelude.{◌≡◌, List, [], ◌++◌, ℕ, zero, suc, ◌+◌, ◌≤◌, length, get_or}
use Rattle.arrayvec.specs.ArrayString.{ArrayString}
use Rattle.model.specs.Sheet.{text, numeral, sheet_line, header}

-- a part, of at most so many bytes, was put behind a text
pub record Put (before after : ArrayString) (part : List ℕ) (most : ℕ) : Type 0 where
  pub bytes : after.bytes ≡ before.bytes ++ part
  pub few : length after.bytes ≤ length before.bytes + most

-- a number and the blank behind it
abbrev pub column : ℕ → List ℕ
column n = numeral n ++ text " "

-- all columns before spare
abbrev pub columns : ℕ → ℕ → ℕ → ℕ → ℕ → List ℕ
columns priority bound hold window size = column priority ++ column bound ++ column hold ++ column window ++ column size

-- the lines of the priorities 0 to n − 1
unfoldable pub lines_to : List ℕ → List ℕ → List ℕ → List ℕ → ℕ → List ℕ
lines_to bounds holds windows sizes zero = []
lines_to bounds holds windows sizes (suc p) =
    lines_to bounds holds windows sizes p ++ sheet_line p (get_or bounds p 0) (get_or holds p 0) (get_or windows p 0) (get_or sizes p 0)

abbrev pub table_lines : List ℕ → List ℕ → List ℕ → List ℕ → List ℕ
table_lines bounds holds windows sizes = header ++ lines_to bounds holds windows sizes 8

abbrev pub refusal_line : ℕ → List ℕ
refusal_line n = text "refused " ++ numeral n ++ text "\n"
