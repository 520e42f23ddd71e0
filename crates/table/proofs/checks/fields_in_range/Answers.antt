use native.Mathlib.Omega.{arith}
use Rattle.table.specs.View.{view_link}
use Rattle.table.proofs.Ranges.{line_past, priority_past, code_past, least_below, least_above_greatest, greatest_past, jitter_within}
use Rattle.table.proofs.checks.fields_in_range.Goals as goal

pub returns-then-lines-from : goal.returns-then-lines-from
returns-then-lines-from c = λ n h. line_past c.args.lines (view_link n c.args.link) h (omega arith)

pub returns-then-link-gt7 : goal.returns-then-link-gt7
returns-then-link-gt7 c = λ n h. priority_past c.args.lines (view_link n c.args.link) h (omega arith) (omega arith)

pub returns-then-link-gt7-2 : goal.returns-then-link-gt7-2
returns-then-link-gt7-2 c = λ n h. code_past c.args.lines (view_link n c.args.link) h (omega arith) (omega arith) (omega arith)

pub returns-then-link-lt-LEAST_LENGTH : goal.returns-then-link-lt-LEAST_LENGTH
returns-then-link-lt-LEAST_LENGTH c = λ n h. least_below c.args.lines (view_link n c.args.link) h (omega arith) (omega arith) (omega arith) (omega arith)

pub returns-then-link : goal.returns-then-link
returns-then-link c = λ n h. least_above_greatest c.args.lines (view_link n c.args.link) h (omega arith) (omega arith) (omega arith) (omega arith) (omega arith)

pub returns-then-link-gt-GREATEST_LENGTH : goal.returns-then-link-gt-GREATEST_LENGTH
returns-then-link-gt-GREATEST_LENGTH c = λ n h. greatest_past c.args.lines (view_link n c.args.link) h (omega arith) (omega arith) (omega arith) (omega arith) (omega arith) (omega arith)

pub returns : goal.returns
returns c = λ n h. jitter_within c.args.lines (view_link n c.args.link) h (omega arith) (omega arith) (omega arith) (omega arith) (omega arith) (omega arith)
