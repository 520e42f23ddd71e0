-- What a lent output holds once bytes are laid down in it.
use Rattle.std.specs.Prelude.{List, ◌++◌, ℕ, ◌+◌, length, take, drop}

-- bytes from place at on; the rest stays
unfoldable pub laid : ℕ → List ℕ → List ℕ → List ℕ
laid at bytes output = take at output ++ bytes ++ drop (at + length bytes) output
