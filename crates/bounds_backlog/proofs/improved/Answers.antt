use Rattle.bounds_backlog.proofs.Improving.{improved_by, improved_not}
use Rattle.bounds_backlog.proofs.improved.Goals as goal

pub returns-then-backlog_by-best : goal.returns-then-backlog_by-best
returns-then-backlog_by-best c = improved_not c.args.s c.backlog_by.result c.args.best c.requires.order c.backlog_by.ensures c.if-backlog_by-best.true

pub returns : goal.returns
returns c = improved_by c.args.s c.crest-k.result c.backlog_by-v.result c.args.best c.raised.result c.crest-k.ensures c.backlog_by-v.ensures c.raised.ensures
