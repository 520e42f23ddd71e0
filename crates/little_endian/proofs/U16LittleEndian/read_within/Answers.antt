use mathlib.Core.Path.{◌∙◌}
use native.Mathlib.Omega.{arith}
use Rattle.little_endian.proofs.Numbers.{summed}
use Rattle.little_endian.proofs.U16LittleEndian.read_within.Goals as goal

pub returns : goal.returns
returns c = c.from_le_bytes.ensures ∙ summed 1 c.bytes_within.result (omega arith) ∙ c.bytes_within.ensures
