use mathlib.Core.Path.{◌≡◌}
use mathlib.Core.List.{flat_map}
use lib.ListN.{length, take}
use Rattle.model.specs.TableFile.{to_bytes}
use Rattle.little_endian.specs.Output.{laid}
use Rattle.table_record_writer.proofs.sizes_body.Given as goal

abbrev pub invariant-loop-p : goal.invariant-loop-p
invariant-loop-p l = (length l.out ≡ length l.initial.out) × (l.out ≡ laid 0 (flat_map (to_bytes 4) (take l.p l.sizes)) l.initial.out)
