use mathlib.Core.Path.{refl}
use Prim.Native.Nat.{◌+◌, ◌*◌}
use native.Mathlib.Omega.{arith}
use Rattle.refusal.proofs.Numbers.{number_not_0, passed_on}
use Rattle.table.specs.View.{view_table}
use Rattle.table.proofs.Shape.{sized}
use Rattle.table_file.proofs.Answers.{table_refused, no_room, wrote_all, count_few, length_shown, file_laid}
use Rattle.table_file.proofs.writer.write.Goals as goal

pub returns-in_err-check : goal.returns-in_err-check
returns-in_err-check c = rw (passed_on _ _ c.from_residual.ensures.1) (table_refused (view_table c.args.t) c.args.out.now _ c.in_err-check.ensures (number_not_0 _))

pub returns-then-out-at : goal.returns-then-out-at
returns-then-out-at c = no_room (view_table c.args.t) c.args.out.now _ c.in_ok-check.ensures refl (omega (arith, length_shown c.args.t))

pub link_records-requires : goal.link_records-requires
link_records-requires c = let few = count_few c.args.t _ c.in_ok-check.ensures refl in omega arith

pub returns : goal.returns
returns c =
    let t = c.args.t in
    let out = c.args.out.now in
    let n = length_shown t in
    wrote_all (view_table t) out _ c.in_ok-check.ensures refl (8 + 18 * c.from.result + 36) c.sizes_record.new.out (omega arith) (omega arith)
    (file_laid t out c.counts_record.new.out c.link_records.new.out c.sizes_record.new.out (sized t _ c.well_formed.0).sizes (omega arith)
    c.counts_record.ensures c.link_records.ensures (rw c.from.ensures at c.sizes_record.ensures))
