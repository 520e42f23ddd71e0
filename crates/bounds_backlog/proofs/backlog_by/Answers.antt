use Rattle.bounds_backlog.proofs.Improving.{backlog_is}
use Rattle.bounds_backlog.proofs.backlog_by.Goals as goal

pub returns : goal.returns
returns c =
    let a = c.args in
    backlog_is a.s a.w a.sent c.min.result c.total-a.result c.total-u.result c.saturating_sub.result c.saturating_sub-left.result
    c.total-a.ensures.0 c.total-u.ensures.0 c.saturating_sub.ensures c.saturating_sub-left.ensures c.min.ensures
