use mathlib.Core.Path.{sym, ◌∙◌}
use native.Mathlib.Omega.{arith}
use Rattle.table.specs.View.{view_link}
use Rattle.table.proofs.Refusals.{fields_bad, first_link, not_rising, rising}
use Rattle.table.proofs.checks.check_link.Goals as goal

pub returns-then-not-fields_in_range : goal.returns-then-not-fields_in_range
returns-then-not-fields_in_range c = fields_bad c.args.lines c.args.before c.args.previous (view_link c.args.number c.args.link) (sym (c.fields_in_range.ensures c.args.number (omega arith)) ∙ c.if-not-fields_in_range.true)

pub returns-then-before-eq0 : goal.returns-then-before-eq0
returns-then-before-eq0 c = first_link c.args.lines c.args.before c.args.previous (view_link c.args.number c.args.link) (sym (c.fields_in_range.ensures c.args.number (omega arith)) ∙ c.if-not-fields_in_range.false) c.if-before-eq0.true

pub returns-then-number-previous : goal.returns-then-number-previous
returns-then-number-previous c = not_rising c.args.lines c.args.before c.args.previous (view_link c.args.number c.args.link) (sym (c.fields_in_range.ensures c.args.number (omega arith)) ∙ c.if-not-fields_in_range.false) c.if-before-eq0.false (omega arith)

pub returns : goal.returns
returns c = rising c.args.lines c.args.before c.args.previous (view_link c.args.number c.args.link) (sym (c.fields_in_range.ensures c.args.number (omega arith)) ∙ c.if-not-fields_in_range.false) c.if-before-eq0.false (omega arith)
