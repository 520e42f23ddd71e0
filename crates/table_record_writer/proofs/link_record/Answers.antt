use native.Mathlib.Omega.{arith}
use Rattle.model.specs.TableFile.{link_body}
use Rattle.model.proofs.FileWrite.{length-link_body}
use Rattle.table.specs.View.{view_link}
use Rattle.table_record_writer.proofs.Written.{record_laid}
use Rattle.table_record_writer.proofs.link_record.Goals as goal

pub returns : goal.returns
returns c =
    let v = view_link c.args.number c.args.link in
    record_laid 2 16 c.args.at (link_body v) c.args.out.now c.header.new.out c.link_body.new.out (rw (length-link_body v)) (omega (arith, length-link_body v)) c.header.ensures c.link_body.ensures
