use Rattle.sheet_lines.proofs.Columns.{then_put, same_put, line_is}
use Rattle.sheet_lines.proofs.Row.put_line.Goals as goal

pub returns : goal.returns
returns c =
    same_put (then_put (then_put c.put_columns.ensures c.put_spare.ensures) c.put_fill.ensures)
    (line_is c.args.priority c.args.self.bound c.args.self.hold c.args.self.window c.args.self.size)
