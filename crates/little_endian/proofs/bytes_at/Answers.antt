use Rattle.little_endian.proofs.Numbers.{short_read}
use Rattle.little_endian.proofs.bytes_at.Goals as goal

pub returns : goal.returns
returns g c = short_read c.args.at g.row.K _ c.args.s.now c.copy_from_slice.new.self c.min.ensures c.copy_from_slice.ensures.after c.in_default.ensures.cases
