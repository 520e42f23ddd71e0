use borrow.Author.Rules.{rules}
use Rattle.tandem.proofs.Lines.{line_past, many_lines, line_there}
use Rattle.tandem.proofs.check_line.Goals as goal

pub returns-then-lines-line : goal.returns-then-lines-line
returns-then-lines-line c = line_past c.args.line c.args.lines (search rules)

pub returns-then-lines-gt24 : goal.returns-then-lines-gt24
returns-then-lines-gt24 c = many_lines c.args.line c.args.lines (search rules) (search rules)

pub returns : goal.returns
returns c = line_there c.args.line c.args.lines (search rules) (search rules)
