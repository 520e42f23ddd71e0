use Rattle.refusal.proofs.Numbers.{number_not_0, passed_on}
use Rattle.port.proofs.Answers.{arrived, still_whole, counts_it, frames}
use Rattle.port.proofs.reports.frame.Goals as goal

pub returns-in_err-freed : goal.returns-in_err-freed
returns-in_err-freed c = rw (passed_on _ _ c.from_residual.ensures.1) (c.in_err-freed.ensures.answered (number_not_0 _))

pub judge-verdict-requires : goal.judge-verdict-requires
judge-verdict-requires c = (still_whole c.args.p.now c.requires c.args.tick c.args.line c.args.number c.args.«length» c.in_ok-freed.ensures, arrived c.args.p.now c.requires c.args.tick c.args.line c.args.number c.args.«length» c.in_ok-freed.ensures)

pub count-requires : goal.count-requires
count-requires c = counts_it c.args.p.now c.requires c.args.tick c.args.line c.args.number c.args.«length» c.in_ok-freed.ensures c.judge-verdict.ensures

pub returns : goal.returns
returns c = frames c.args.p.now c.requires c.args.tick c.args.line c.args.number c.args.«length» c.in_ok-freed.ensures c.judge-verdict.result c.judge-verdict.ensures c.count.ensures
