use Rattle.std.proofs.Common.{arith}
use Rattle.model.specs.Sheet.{text}
use Rattle.sheet_lines.proofs.Columns.{printed, put_dash, thirteen_digits}
use Rattle.sheet_lines.proofs.Row.put_fill.Goals as goal

pub returns-then-self-eq0 : goal.returns-then-self-eq0
unfolding text
returns-then-self-eq0 c = put_dash c.args.self.bound c.args.self.size c.if-self-eq0.true c.push_str.ensures.bytes

pub put_number-requires : goal.put_number-requires
put_number-requires c = omega (arith, thirteen_digits)

pub returns : goal.returns
unfolding text
returns c = printed _ _ _ 14 c.put_number.ensures.bytes c.per_mille.ensures.0 (omega (arith, thirteen_digits))
