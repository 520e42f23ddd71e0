use native.Mathlib.Omega.{arith}
use Rattle.table.proofs.Ranges.{no_line, many_lines, no_link, links_within}
use Rattle.table.proofs.checks.counts_in_range.Goals as goal

pub returns-then-lines-lt1 : goal.returns-then-lines-lt1
returns-then-lines-lt1 c = no_line c.args.lines c.args.count (omega arith)

pub returns-then-lines-gt24 : goal.returns-then-lines-gt24
returns-then-lines-gt24 c = many_lines c.args.lines c.args.count (omega arith) (omega arith)

pub returns-then-count-lt1 : goal.returns-then-count-lt1
returns-then-count-lt1 c = no_link c.args.lines c.args.count (omega arith) (omega arith) (omega arith)

pub returns : goal.returns
returns c = links_within c.args.lines c.args.count (omega arith) (omega arith) (omega arith)
