-- Of A, of B, or none.
use mathlib.Core.Path.{◌∙◌}
use Rattle.redundancy.proofs.Rules.{part_refused, part_left, part_a, part_b}
use Rattle.redundancy.proofs.Decision.part.Goals as goal
use Rattle.redundancy.proofs.Decision.part.Goals.{in_default-via-in-Ok+else-taken, in_default-via-in_default}

pub returns-in-A : goal.returns-in-A
returns-in-A c = c.without_last.ensures ∙ part_a c.args.self c.args.a.now c.args.b.now c.in-Ok.taken c.in-Ok.is c.if-taken.true c.in-A.is

pub returns-in-B : goal.returns-in-B
returns-in-B c = c.without_last-in-B.ensures ∙ part_b c.args.self c.args.a.now c.args.b.now c.in-Ok.taken c.in-Ok.is c.if-taken.true c.in-B.is

pub returns-in_default : goal.returns-in_default
returns-in_default c =
    elim c.in_default.branch [
      | in_default-via-in-Ok+else-taken w ↦ part_left c.args.self c.args.a.now c.args.b.now w.in-Ok.taken w.in-Ok.is w.if-taken.false
      | in_default-via-in_default w ↦ part_refused c.args.self c.args.a.now c.args.b.now w.in_default.field-0 w.in_default.is
    ]
