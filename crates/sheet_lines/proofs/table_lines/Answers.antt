use Rattle.std.proofs.Common.{◌∙◌, arith, ap, length}
use Rattle.model.specs.Sheet.{text, header}
use Rattle.sheet_lines.proofs.Columns.{none_there, one_there, all_there}
use Rattle.sheet_lines.proofs.table_lines.Goals as goal

pub loop-p-init : goal.loop-p-init
unfolding text header
loop-p-init c = (omega (arith, ap length c.new-out.ensures), none_there _ _ _ _ _ (c.push_str.ensures.bytes ∙ rw c.new-out.ensures))

pub put_line-requires : goal.put_line-requires
put_line-requires c = (omega arith, omega arith)

pub loop-p-preserved : goal.loop-p-preserved
loop-p-preserved c = (omega (arith, c.put_line.ensures.few), one_there _ _ _ _ c.loop-p.p _ _ _ c.loop-p.invariant.1 c.put_line.ensures)

pub returns : goal.returns
returns c = all_there _ _ _ _ _ _ (omega arith) c.loop-p.invariant.1
