use native.Mathlib.Omega.{arith}
use Rattle.table_record_writer.proofs.Written.{header_laid}
use Rattle.table_record_writer.proofs.header.Goals as goal

pub returns : goal.returns
returns c = header_laid c.args.at c.args.len c.args.kind c.args.out.now c.write.new.s c.write-2.new.s (omega arith) c.write.ensures c.write-2.ensures
