use Prim.Native.Nat.{◌+◌, ◌-◌}
use native.Mathlib.Omega.{arith}
use Rattle.little_endian.proofs.Numbers.{part_laid}
use Rattle.little_endian.proofs.put_bytes.Goals as goal

pub returns : goal.returns
returns g c = part_laid c.args.at (c.args.at + g.row.K - c.args.at) c.args.s.now c.copy_from_slice.new.self c.args.bytes c.copy_from_slice.ensures.after (omega arith)
