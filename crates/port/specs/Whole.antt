-- The arrays of a port record that the code holds have their lengths.
use Rattle.std.specs.Prelude.{◌≡◌, length}
use Rattle.table.proofs.Shape.{Sized}
use Rattle.port.specs.declared.Port.{Port as PortRecord}

pub record Whole (p : PortRecord) : Type 0 where
  pub table : Sized p.table
  pub queues : length p.queues ≡ 8
  pub lines : length p.gate.line_ticks ≡ 24
  pub accounts : length p.gate.accounts ≡ 256
  pub counts : length p.counts ≡ 1024
