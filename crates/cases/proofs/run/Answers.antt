use Rattle.std.proofs.Common.{of_calls, rules}
use Rattle.cases.proofs.Turns.{one_more}
use Rattle.cases.proofs.run.Given as given
use Rattle.cases.proofs.run.Goals as goal

pub loop-turn-preserved : goal.loop-turn-preserved
loop-turn-preserved g c = (
  search of_calls,
  one_more (given.F-step g) c.args.next c.loop-turn.next c.next.new.self c.next.result c.loop-turn.turn (search rules) c.next.ensures c.loop-turn.invariant.1,
)
