use mathlib.Core.Path.{◌∙◌}
use borrow.Author.Tests.{lt-leb}
use Rattle.bounds_arrivals.proofs.Fitting.{member_low, member_from}
use Rattle.bounds_arrivals.proofs.Priorities.has.Goals as goal

pub returns-then-self-l : goal.returns-then-self-l
returns-then-self-l c =
    let a = c.args in
    member_from a.self.low a.self.high a.l.priority c.if-self-l.true

pub returns-else-self-l : goal.returns-else-self-l
returns-else-self-l c =
    let a = c.args in
    lt-leb a.self.low a.l.priority c.if-self-l.false ∙ member_low a.self.low a.self.high a.l.priority c.if-self-l.false
