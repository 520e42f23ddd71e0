-- The room of the sheet's text.
use Rattle.std.specs.Prelude.{ℕ, ◌+◌, ◌*◌}

-- the most bytes of a line, and of a sheet: the header, and a line for each priority
abbrev pub most_line : ℕ
most_line = 72

abbrev pub header_length : ℕ
header_length = 43

abbrev pub text_room : ℕ
text_room = header_length + 8 * most_line
