use Rattle.std.proofs.Common.{arith}
use Rattle.model.specs.Sheet.{text}
use Rattle.sheet_lines.proofs.Columns.{printed, spare_there}
use Rattle.sheet_lines.proofs.Row.put_spare.Goals as goal

pub put_number-requires : goal.put_number-requires
put_number-requires c =
    let spare = spare_there c.args.self.size c.args.self.bound (omega arith) (omega arith) c.spare.result c.spare.ensures in
    omega (arith, spare.few)

pub returns : goal.returns
unfolding text
returns c =
    let spare = spare_there c.args.self.size c.args.self.bound (omega arith) (omega arith) c.spare.result c.spare.ensures in
    printed _ _ _ 12 c.put_number.ensures.bytes spare.printed (omega (arith, spare.few))
