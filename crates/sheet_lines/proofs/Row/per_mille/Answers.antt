use Rattle.std.proofs.Common.{arith}
use Rattle.sheet_lines.proofs.Columns.{fill_part, part_few}
use Rattle.sheet_lines.proofs.Row.per_mille.Goals as goal

pub returns : goal.returns
returns c =
    let bound = c.args.self.bound in
    let size = c.args.self.size in
    rw (c.div_ceil.ensures, c.from.ensures, c.from-2.ensures) (fill_part bound size c.requires (omega arith) (omega arith), part_few bound size c.requires (omega arith))
