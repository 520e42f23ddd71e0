use mathlib.Core.Path.{◌≡◌}
use lib.ListN.{drop}
use Rattle.model.specs.Fitness.{frames_fit}
use Rattle.table.specs.View.{view_table}
use Rattle.port_scheduler.specs.View.{view_queue}
use Rattle.port_queue_fitness.proofs.load_fits.Given as goal

abbrev pub invariant-loop-i : goal.invariant-loop-i
invariant-loop-i l = frames_fit (view_table l.t) l.priority l.clock 0 (view_queue l.q) ≡ frames_fit (view_table l.t) l.priority l.clock l.low (drop l.i (view_queue l.q))
