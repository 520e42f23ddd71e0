use Rattle.std.proofs.Common.{arith, decimal}
use Rattle.model.specs.Sheet.{text}
use Rattle.sheet_numerals.proofs.Numerals.{decimal_is}
use Rattle.sheet_lines.proofs.Columns.{printed, then_put, one_digit}
use Rattle.sheet_lines.proofs.Row.put_columns.Goals as goal

pub put_number-requires : goal.put_number-requires
put_number-requires c = omega (arith, one_digit)

pub put_column-requires : goal.put_column-requires
put_column-requires c = omega (arith, one_digit)

pub put_column-requires-2 : goal.put_column-requires-2
put_column-requires-2 c = omega (arith, one_digit)

pub put_column-requires-3 : goal.put_column-requires-3
put_column-requires-3 c = omega (arith, one_digit)

pub put_column-requires-4 : goal.put_column-requires-4
put_column-requires-4 c = omega (arith, one_digit)

pub returns : goal.returns
unfolding text
returns c =
    let priority = printed (decimal c.args.priority) _ _ 2 c.put_number.ensures.bytes (decimal_is c.args.priority (omega arith)) (omega (arith, one_digit)) in
    then_put (then_put (then_put (then_put priority c.put_column.ensures) c.put_column-2.ensures) c.put_column-3.ensures) c.put_column-4.ensures
