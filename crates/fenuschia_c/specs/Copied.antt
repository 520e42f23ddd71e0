-- A file read and its table written again.
use Rattle.std.specs.Prelude.{◌≡◌, List, ℕ, zero, suc}
use Rattle.model.specs.Table.{Table}
use Rattle.model.specs.TableFile.{read_table, Writing, write_table}

-- what the writer does, or the reader's refusal, with nothing written
unfoldable pub copy_or : ℕ → Table → List ℕ → Writing
copy_or zero t output = write_table t output
copy_or (suc n) t output = record { refused = suc n; written = 0; output = output }

unfoldable pub copy_of : List ℕ → List ℕ → Writing
copy_of file output = copy_or (read_table file).refused (read_table file).table output

-- the answer is 0 or the number of the refusal, and the whole output afterwards is the model's
pub record Copied (file before after : List ℕ) (refused : ℕ) : Type 0 where
  pub answer : refused ≡ (copy_of file before).refused
  pub output : after ≡ (copy_of file before).output
