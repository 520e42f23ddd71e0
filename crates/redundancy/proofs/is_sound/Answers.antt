-- The first, number 0, or one of two.
use mathlib.Core.Path.{◌∙◌}
use borrow.Author.Tests.{eq-eqb}
use Rattle.redundancy.proofs.Rules.{sound_first, sound_zero, sound_next}
use Rattle.redundancy.proofs.is_sound.Goals as goal

pub returns-in-None : goal.returns-in-None
returns-in-None c = sound_first c.args.previous c.args.number c.in-None.is

pub returns-then-number-eq0 : goal.returns-then-number-eq0
returns-then-number-eq0 c =
    rw (eq-eqb c.args.number 0 c.if-number-eq0.true) (sound_zero c.args.previous c.in-Some.before c.args.number c.in-Some.is c.if-number-eq0.true)

pub returns-else-number-eq0 : goal.returns-else-number-eq0
returns-else-number-eq0 c = c.is_among.ensures ∙ sound_next c.args.previous c.in-Some.before c.args.number c.in-Some.is c.if-number-eq0.false
