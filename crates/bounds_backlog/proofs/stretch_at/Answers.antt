use Rattle.bounds_backlog.proofs.Stretching.{stretched}
use Rattle.bounds_backlog.proofs.stretch_at.Goals as goal

pub returns : goal.returns
returns c =
    let s = c.args.s in
    stretched c.args.t.table c.args.t.passes s.priority s.blocking s.longest s.last c.args.w c.requires.0 c.requires.1
    c.loads_of-own.result c.loads_of-up.result (rw c.one.ensures at c.loads_of-own.ensures) (rw c.up_to.ensures at c.loads_of-up.ensures) c.steady.result c.min.result c.steady.ensures.0 c.steady.ensures.1 c.min.ensures
    c.from.result c.from.ensures
