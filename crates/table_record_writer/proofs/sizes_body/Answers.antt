use mathlib.Core.Path.{◌≡◌, refl, ◌∙◌}
use Prim.Native.Nat.{◌*◌}
use native.Mathlib.Omega.{arith}
use lib.ListN.{length}
use Rattle.model.specs.TableFile.{to_bytes, sizes_body}
use Rattle.model.proofs.Bytes.{length-to_bytes}
use Rattle.table_record_writer.proofs.Written.{first_laid, more_laid, all_laid}
use Rattle.table_record_writer.proofs.sizes_body.Goals as goal

pub loop-p-init : goal.loop-p-init
loop-p-init c = (refl, first_laid (to_bytes 4) 4 (length-to_bytes 4) 0 c.args.sizes c.args.out.now)

pub loop-p-preserved : goal.loop-p-preserved
loop-p-preserved c =
    let n : length c.args.sizes ≡ 8 = c.well_formed.1.0.1.0.1 in
    (c.write.auto.s ∙ c.loop-p.invariant.0, more_laid (to_bytes 4) 4 (length-to_bytes 4) 0 c.args.sizes c.loop-p.p (4 * c.loop-p.p) 0 c.args.out.now c.loop-p.out c.write.new.s (omega arith) (omega arith) (omega arith) c.loop-p.invariant.1 c.write.ensures)

pub returns : goal.returns
unfolding sizes_body
returns c =
    let n : length c.args.sizes ≡ 8 = c.well_formed.1.0.1.0.1 in
    all_laid (to_bytes 4) 4 (length-to_bytes 4) 0 c.args.sizes c.loop-p.p c.args.out.now c.loop-p.out (omega arith) c.loop-p.invariant.1
