-- The first i rows of counts are in the list.
use mathlib.Core.Path.{◌≡◌}
use lib.ListN.{length}
use Rattle.flat_record.proofs.Rows.{Laid}
use Rattle.flat_record.proofs.put_counts.Given as goal

abbrev pub invariant-loop-i : goal.invariant-loop-i
invariant-loop-i l = (length l.tallies ≡ 1281) × Laid l.tallies l.counts l.i
