-- The first i rows of counts are those of the list.
use mathlib.Core.Path.{◌≡◌}
use lib.ListN.{length}
use Rattle.flat_record.proofs.Rows.{Taken}
use Rattle.flat_record.proofs.counts_of.Given as goal

abbrev pub invariant-loop-i : goal.invariant-loop-i
invariant-loop-i l = (length l.counts ≡ 1024) × Taken l.counts l.tallies l.i
