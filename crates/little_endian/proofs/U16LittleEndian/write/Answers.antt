use mathlib.Core.Path.{◌∙◌}
use Rattle.little_endian.proofs.Numbers.{split}
use Rattle.little_endian.proofs.U16LittleEndian.write.Goals as goal

pub returns : goal.returns
returns c = rw (c.to_le_bytes.ensures ∙ split 2 c.args.self) at c.put_bytes.ensures
