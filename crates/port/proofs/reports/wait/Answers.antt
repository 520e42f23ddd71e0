use Rattle.port.proofs.Answers.{waits}
use Rattle.port.proofs.reports.wait.Goals as goal

pub returns : goal.returns
returns c = waits c.args.p.now c.args.tick c.advance.ensures
