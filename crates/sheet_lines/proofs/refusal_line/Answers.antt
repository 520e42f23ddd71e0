use Rattle.std.proofs.Common.{◌∙◌, arith, length, ap}
use Rattle.model.specs.Sheet.{text}
use Rattle.sheet_numerals.proofs.Numerals.{decimal_is}
use Rattle.sheet_lines.proofs.Columns.{ten_digits}
use Rattle.sheet_lines.proofs.refusal_line.Goals as goal

pub put_number-requires : goal.put_number-requires
put_number-requires c = omega (arith, ap length c.new-out.ensures, ten_digits)

pub returns : goal.returns
unfolding text
returns c = c.put_number.ensures.bytes ∙ rw (c.push_str.ensures.bytes, c.new-out.ensures, decimal_is c.args.number (omega arith))
