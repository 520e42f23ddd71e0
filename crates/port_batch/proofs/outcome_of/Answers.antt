use mathlib.Core.Path.{refl}
use Rattle.refusal.proofs.Numbers.{passed_on}
use Rattle.port_batch.proofs.Outcomes.{call_refused, answers_fit, fits, call_unfit, call_answered}
use Rattle.port_batch.proofs.outcome_of.Goals as goal

pub returns-in_err-check : goal.returns-in_err-check
returns-in_err-check c =
    let a = c.args in
    rw (passed_on _ _ c.from_residual.ensures.1) (call_refused a.port.now a.reports.now a.answers.now a.list.now c.in_err-check.ensures _ refl)

pub refuse_each-requires : goal.refuse_each-requires
refuse_each-requires c =
    let a = c.args in
    answers_fit a.port.now a.reports.now a.answers.now a.list.now c.in_ok-check.ensures refl

pub returns-in_default : goal.returns-in_default
returns-in_default c =
    let a = c.args in
    call_unfit a.port.now a.reports.now a.answers.now a.list.now c.in_ok-check.ensures refl c.in_default.ensures c.refuse_each.ensures

pub answered-requires : goal.answered-requires
answered-requires c =
    let a = c.args in
    (c.requires, fits a.port.now a.reports.now a.answers.now a.list.now c.in_ok-check.ensures refl c.in-Some.ensures, answers_fit a.port.now a.reports.now a.answers.now a.list.now c.in_ok-check.ensures refl)

pub returns : goal.returns
returns c =
    let a = c.args in
    call_answered a.port.now a.reports.now a.answers.now a.list.now c.in_ok-check.ensures refl c.answered.ensures
