use Rattle.table.specs.View.{view_link}
use Rattle.table_record_writer.proofs.Written.{link_laid}
use Rattle.table_record_writer.proofs.link_body.Goals as goal

pub returns : goal.returns
returns c =
    link_laid (view_link c.args.number c.args.link) c.args.out.now c.write.new.s c.write-2.new.s c.write-3.new.s c.write-4.new.s c.write-5.new.s c.write-6.new.s c.write-7.new.s c.write-8.new.s
    c.requires c.write.ensures c.write-2.ensures c.write-3.ensures c.write-4.ensures c.write-5.ensures c.write-6.ensures c.write-7.ensures c.write-8.ensures
