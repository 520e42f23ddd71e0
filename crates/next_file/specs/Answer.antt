-- What the file for the next port answers.
use Rattle.std.specs.Prelude.{◌≡◌, List, ℕ}
use Rattle.model.specs.TableFile.{Writing}
use Rattle.table_file.specs.Answers.{Writing as WritingRecord}

-- a size above what the checks allow, as one above it: no number is cut
abbrev pub size_cap : ℕ
size_cap = 16_385

-- the answer and the whole output afterwards are those of the model
pub record Wrote (w : Writing) (after : List ℕ) (r : WritingRecord) : Type 0 where
  pub refused : r.refused ≡ w.refused
  pub written : r.written ≡ w.written
  pub output : after ≡ w.output
