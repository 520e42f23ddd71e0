use native.Mathlib.Omega.{arith}
use Rattle.model.specs.TableFile.{counts_body}
use Rattle.model.proofs.FileWrite.{length-counts_body}
use Rattle.table_record_writer.proofs.Written.{record_laid}
use Rattle.table_record_writer.proofs.counts_record.Goals as goal

pub returns : goal.returns
returns c = record_laid 1 6 0 (counts_body c.args.lines c.args.count) c.args.out.now c.header.new.out c.counts_body.new.out (rw length-counts_body) (omega (arith, length-counts_body c.args.lines c.args.count)) c.header.ensures c.counts_body.ensures
