-- None before, the last expired, number 0, or one of 127.
use mathlib.Core.Path.{◌∙◌}
use native.Mathlib.Omega.{arith}
use Rattle.redundancy.proofs.Rules.{new_first, new_expired, new_zero, new_next}
use Rattle.redundancy.proofs.is_new.Goals as goal

pub returns-then-skew-saturating_sub : goal.returns-then-skew-saturating_sub
returns-then-skew-saturating_sub c = new_expired c.args.skew c.args.last c.args.frame c.in-Some.before c.in-Some.is (omega arith)

pub returns-then-frame-eq0 : goal.returns-then-frame-eq0
returns-then-frame-eq0 c = new_zero c.args.skew c.args.last c.args.frame c.in-Some.before c.in-Some.is (omega arith) (omega arith) c.if-frame-eq0.true

pub returns-in-None : goal.returns-in-None
returns-in-None c = new_first c.args.skew c.args.last c.args.frame c.in-None.is

pub returns-else-frame-eq0 : goal.returns-else-frame-eq0
returns-else-frame-eq0 c = c.is_among.ensures ∙ new_next c.args.skew c.args.last c.args.frame c.in-Some.before c.in-Some.is (omega arith) c.if-frame-eq0.false
