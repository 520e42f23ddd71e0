-- Nobody starts, since one sends or time is up; or whoever waits starts.
use mathlib.Core.Path.{sym, ◌∙◌}
use native.Mathlib.Omega.{arith}
use Rattle.port_scheduler.specs.View.{view_queues}
use Rattle.port_scheduler.proofs.Shape.{queues_eight}
use Rattle.port_scheduler.proofs.Shown.{length_shown}
use Rattle.port_scheduler.proofs.Starts.{no_start, starts_if}
use Rattle.port_scheduler.proofs.sender_from.Goals as goal

pub returns-then-is_some : goal.returns-then-is_some
returns-then-is_some c = no_start (view_queues c.args.queues) c.args.tick c.args.time c.args.sender c.is_some.ensures c.then-is_some.either c.requires.1 (omega arith)

pub returns : goal.returns
returns c =
    starts_if (view_queues c.args.queues) c.args.tick c.args.time c.args.sender (sym c.is_some.ensures ∙ c.if-is_some.false) c.start_if_any.ensures
    (length_shown c.args.queues ∙ queues_eight c.args.queues _ c.well_formed.0) c.requires.0 (omega arith)
