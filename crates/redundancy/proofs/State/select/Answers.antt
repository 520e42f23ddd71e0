-- The decision, and its part by the frames alone.
use Rattle.redundancy.specs.View.{view_state, view_decision}
use Rattle.redundancy.proofs.Selecting.{selecting}
use Rattle.redundancy.proofs.State.select.Goals as goal

pub returns : goal.returns
returns c = selecting c.args.a c.args.b (view_state c.args.self) (view_decision c.decide-decision.result) c.part-part.result.now c.decide-decision.ensures c.part-part.ensures
