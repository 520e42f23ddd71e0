use mathlib.Core.Path.{◌≡◌, refl, ◌∙◌}
use Prim.Native.Nat.{◌+◌, ◌*◌}
use native.Mathlib.Omega.{arith}
use lib.ListN.{get_or}
use Rattle.model.specs.Link.{blank_link}
use Rattle.table.specs.View.{view_links}
use Rattle.little_endian.specs.Output.{laid}
use Rattle.table_record_writer.specs.Records.{link_record}
use Rattle.table.proofs.Shape.{sized, count_shown, link_shown}
use Rattle.table_record_writer.proofs.Written.{first_laid, more_laid, all_laid, length-link_record}
use Rattle.table_record_writer.proofs.link_records.Goals as goal

pub loop-i-init : goal.loop-i-init
loop-i-init c = (c.from-n.ensures, refl, first_laid link_record 18 length-link_record 8 (view_links c.args.t) c.args.out.now)

pub loop-i-preserved : goal.loop-i-preserved
loop-i-preserved c =
    let t = c.args.t in
    let i = c.loop-i.i in
    let shown = link_shown t i (sized t _ c.well_formed.1.0) (omega arith) (omega arith) in
    let wrote : c.link_record.new.out ≡ laid (8 + 18 * i) (link_record (get_or (view_links t) i blank_link)) c.loop-i.out = rw shown c.link_record.ensures in (
      c.loop-i.invariant.0,
      c.link_record.auto.out ∙ c.loop-i.invariant.1,
      more_laid link_record 18 length-link_record 8 (view_links t) i (8 + 18 * i) blank_link c.args.out.now c.loop-i.out c.link_record.new.out (omega (arith, count_shown t)) refl
          (omega arith) c.loop-i.invariant.2 wrote,
    )

pub returns : goal.returns
returns c = all_laid link_record 18 length-link_record 8 (view_links c.args.t) c.loop-i.i c.args.out.now c.loop-i.out (omega (arith, count_shown c.args.t)) c.loop-i.invariant.2
