use Rattle.std.proofs.Common.{arith, decimal}
use Rattle.model.specs.Sheet.{text}
use Rattle.sheet_numerals.proofs.Numerals.{decimal_is}
use Rattle.sheet_lines.proofs.Columns.{printed, ten_digits}
use Rattle.sheet_lines.proofs.put_column.Goals as goal

pub put_number-requires : goal.put_number-requires
put_number-requires c = omega (arith, ten_digits)

pub returns : goal.returns
unfolding text
returns c = printed (decimal c.args.n) _ _ 11 c.put_number.ensures.bytes (decimal_is c.args.n (omega arith)) (omega (arith, ten_digits))
