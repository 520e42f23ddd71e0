-- The sheet of a whole file, and what is shown of an outcome.
use Rattle.std.specs.Prelude.{List, ℕ, Result, Ok, Err}
use Rattle.arrayvec.specs.ArrayString.{ArrayString}
use Rattle.model.specs.Basics.{first_refusal}
use Rattle.model.specs.TableFile.{read_table}
use Rattle.model.specs.Bounds.{bounds_refusal}
use Rattle.model.specs.Sheet.{sheet_or}
use Rattle.refusal.specs.declared.Refusal.{Refusal}
use Rattle.refusal.specs.Numbers.{number_of}
use Rattle.sheet_lines.specs.Lines.{refusal_line}

-- `sheet`, of bytes that are all read
abbrev pub sheet_of : List ℕ → List ℕ
sheet_of file = let r = read_table file in sheet_or (first_refusal r.refused (bounds_refusal r.table)) r.table

-- a text, or the line of a refusal
abbrev pub shown : Result ArrayString Refusal → List ℕ
shown (Ok text) = text.bytes
shown (Err refusal) = refusal_line (number_of refusal)
