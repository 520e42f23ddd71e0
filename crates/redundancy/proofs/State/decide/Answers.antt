-- Refused with 17; or A or B, refused with 18 or taken.
use mathlib.Core.Path.{sym, ◌∙◌}
use Rattle.redundancy.specs.View.{view_state}
use Rattle.redundancy.proofs.Rules.{decide_none, decide_a_late, decide_a_taken, decide_b_late, decide_b_taken}
use Rattle.redundancy.proofs.State.decide.Goals as goal

pub returns-then-are_empty : goal.returns-then-are_empty
returns-then-are_empty c = c.refused.ensures ∙ sym (decide_none (view_state c.args.self) c.args.a c.args.b (sym c.are_empty.ensures ∙ c.if-are_empty.true))

pub returns-then-a-self : goal.returns-then-a-self
returns-then-a-self c =
    c.refused-then-a-self.ensures
    ∙ sym (decide_a_late (view_state c.args.self) c.args.a c.args.b (sym c.are_empty.ensures ∙ c.if-are_empty.false) (sym c.is_a_taken.ensures ∙ c.if-is_a_taken.true) c.if-a-self.true)

pub returns-then-is_a_taken : goal.returns-then-is_a_taken
returns-then-is_a_taken c =
    (rw (c.with_number.ensures.0, c.with_number.ensures.1) at c.taken.ensures)
    ∙ sym (decide_a_taken (view_state c.args.self) c.args.a c.args.b (sym c.are_empty.ensures ∙ c.if-are_empty.false) (sym c.is_a_taken.ensures ∙ c.if-is_a_taken.true) c.if-a-self.false)

pub returns-then-b-self : goal.returns-then-b-self
returns-then-b-self c =
    c.refused-then-b-self.ensures
    ∙ sym (decide_b_late (view_state c.args.self) c.args.a c.args.b (sym c.are_empty.ensures ∙ c.if-are_empty.false) (sym c.is_a_taken.ensures ∙ c.if-is_a_taken.false) c.if-b-self.true)

pub returns : goal.returns
returns c =
    (rw (c.with_number-2.ensures.0, c.with_number-2.ensures.1) at c.taken-2.ensures)
    ∙ sym (decide_b_taken (view_state c.args.self) c.args.a c.args.b (sym c.are_empty.ensures ∙ c.if-are_empty.false) (sym c.is_a_taken.ensures ∙ c.if-is_a_taken.false) c.if-b-self.false)
