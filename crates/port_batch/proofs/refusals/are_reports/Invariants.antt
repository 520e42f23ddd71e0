use mathlib.Core.Path.{◌≡◌}
use Prim.Native.Nat.{◌*◌}
use lib.ListN.{drop}
use Rattle.model.specs.Batch.{are_reports}
use Rattle.port_batch.proofs.refusals.are_reports.Given as goal

abbrev pub invariant-loop-i : goal.invariant-loop-i
invariant-loop-i l = are_reports (drop (5 * l.i) l.reports) ≡ are_reports l.reports
