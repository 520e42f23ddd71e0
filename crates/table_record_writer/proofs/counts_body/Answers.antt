use native.Mathlib.Omega.{arith}
use Rattle.table_record_writer.proofs.Written.{counts_laid}
use Rattle.table_record_writer.proofs.counts_body.Goals as goal

pub returns : goal.returns
returns c = counts_laid c.args.lines c.args.count c.args.out.now c.write.new.s c.write-2.new.s (omega arith) c.write.ensures c.write-2.ensures
