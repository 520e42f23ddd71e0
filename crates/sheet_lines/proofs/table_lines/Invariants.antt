use Rattle.std.proofs.Common.{◌≡◌, ◌++◌, ◌+◌, ◌*◌, ◌≤◌}
use Rattle.arrayvec.specs.ArrayString.{array_string_len}
use Rattle.model.specs.Sheet.{header}
use Rattle.sheet_numerals.specs.Room.{header_length, most_line}
use Rattle.sheet_lines.specs.Lines.{lines_to}
use Rattle.sheet_lines.proofs.table_lines.Given as goal

abbrev pub invariant-loop-p : goal.invariant-loop-p
invariant-loop-p l =
    (array_string_len l.out ≤ header_length + most_line * l.p)
    × (l.out.bytes ≡ header ++ lines_to l.of.bounds l.of.holds l.of.windows l.sizes l.p)
