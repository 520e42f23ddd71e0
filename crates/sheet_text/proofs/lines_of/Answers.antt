use Rattle.std.proofs.Common.{◌∙◌}
use Rattle.refusal.proofs.Numbers.{passed_on}
use Rattle.sheet_text.proofs.Whole.{file_refused, bounds_refused, lines_are}
use Rattle.sheet_text.proofs.lines_of.Goals as goal

pub returns-in_err-t : goal.returns-in_err-t
returns-in_err-t c = rw (passed_on _ _ c.from_residual.ensures.1) (file_refused c.args.file.now _ c.in_err-t.ensures)

pub returns-in_err-b : goal.returns-in_err-b
returns-in_err-b c = rw (passed_on _ _ c.from_residual-in_err-b.ensures.1) (bounds_refused c.args.file.now _ c.in_ok-t.ensures _ c.in_err-b.ensures)

pub returns : goal.returns
returns c = c.table_lines.ensures ∙ lines_are c.args.file.now _ c.in_ok-t.ensures _ c.in_ok-b.ensures
