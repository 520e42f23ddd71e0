use mathlib.Core.Path.{◌∙◌}
use native.Mathlib.Omega.{arith}
use Rattle.little_endian.proofs.Numbers.{summed}
use Rattle.little_endian.proofs.U64LittleEndian.read.Goals as goal

pub returns : goal.returns
returns c = c.from_le_bytes.ensures ∙ summed 7 c.bytes_at.result (omega arith) ∙ c.bytes_at.ensures
