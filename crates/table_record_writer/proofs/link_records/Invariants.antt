use mathlib.Core.Path.{◌≡◌}
use mathlib.Core.List.{flat_map}
use lib.ListN.{length, take}
use Rattle.table.specs.View.{view_links}
use Rattle.little_endian.specs.Output.{laid}
use Rattle.table_record_writer.specs.Records.{link_record}
use Rattle.table_record_writer.proofs.link_records.Given as goal

abbrev pub invariant-loop-i : goal.invariant-loop-i
invariant-loop-i l = (l.n ≡ l.t.count) × (length l.out ≡ length l.initial.out) × (l.out ≡ laid 8 (flat_map link_record (take l.i (view_links l.t))) l.initial.out)
