use mathlib.Core.Path.{◌≡◌, ◌∙◌}
use native.Mathlib.Omega.{arith}
use lib.ListN.{length}
use Rattle.model.specs.TableFile.{sizes_body}
use Rattle.model.proofs.FileWrite.{length-sizes_body}
use Rattle.table_record_writer.proofs.Written.{record_laid}
use Rattle.table_record_writer.proofs.sizes_record.Goals as goal

pub returns : goal.returns
returns c =
    let n : length c.args.sizes ≡ 8 = c.well_formed.1.1.0.1.0.1 in
    let k : length (sizes_body c.args.sizes) ≡ 32 = length-sizes_body c.args.sizes ∙ rw n in
    record_laid 3 34 c.args.at (sizes_body c.args.sizes) c.args.out.now c.header.new.out c.sizes_body.new.out (rw k) (omega arith) c.header.ensures c.sizes_body.ensures
