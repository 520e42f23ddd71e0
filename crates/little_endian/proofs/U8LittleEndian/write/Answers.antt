use mathlib.Core.Path.{◌∙◌}
use native.Mathlib.Omega.{arith}
use Rattle.little_endian.proofs.Numbers.{one_byte}
use Rattle.little_endian.proofs.U8LittleEndian.write.Goals as goal

pub returns : goal.returns
returns c = rw (c.to_le_bytes.ensures ∙ one_byte c.args.self (omega arith)) at c.put_bytes.ensures
