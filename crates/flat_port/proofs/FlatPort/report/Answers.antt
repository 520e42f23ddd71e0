use mathlib.Core.Path.{refl, ap, ◌∙◌}
use Prim.Native.Nat.{ℕ, ◌+◌, ◌-◌}
use native.Mathlib.Omega.{arith}
use Rattle.refusal.proofs.Numbers.{number_not_0, passed_on}
use Rattle.port_refusals.specs.Reports.{view_report}
use Rattle.port_refusals.specs.Verdicts.{verdict_of}
use Rattle.table.specs.View.{view_table}
use Rattle.flat_port.proofs.Judged.{Sized, stored_most}
use Rattle.flat_port.proofs.Verdicts.{lines_shown}
use Rattle.flat_port.proofs.Standing.{clocked, few_held}
use Rattle.flat_port.proofs.Reporting.{refused, not_refused, can_advance, few_freed, waits, arrived, frames}
use Rattle.flat_port.proofs.FlatPort.report.Goals as goal

pub check-requires : goal.check-requires
check-requires c =
    let z : Sized c.args.self.now.lists = record { ticks = omega arith; accounts = omega arith } in
    rw (c.from-lines.ensures, lines_shown c.args.table.now) (clocked (view_table c.args.table.now) c.args.self.now c.requires z)

pub returns-in_err-check : goal.returns-in_err-check
returns-in_err-check c =
    rw (passed_on _ _ c.from_residual.ensures.1)
    (refused c.requires (view_report c.args.report) c.args.list.now (c.from-lines.ensures ∙ lines_shown c.args.table.now) c.in_err-check.ensures (number_not_0 _))

pub advance-moved-requires : goal.advance-moved-requires
advance-moved-requires c =
    let r = view_report c.args.report in
    let ok = not_refused c.requires r c.args.list.now (c.from-lines.ensures ∙ lines_shown c.args.table.now) c.in_ok-check.ensures refl in
    (can_advance c.requires r c.args.list.now ok c.tick_of-time.ensures, c.requires.holds)

pub overflow_sub-left : goal.overflow_sub-left
overflow_sub-left c =
    let r = view_report c.args.report in
    let ok = not_refused c.requires r c.args.list.now (c.from-lines.ensures ∙ lines_shown c.args.table.now) c.in_ok-check.ensures refl in
    let a = c.advance-moved.ensures in
    few_freed c.requires r c.args.list.now ok c.tick_of-time.ensures c.advance-moved.result.sender c.advance-moved.new.rings (a.0, a.1, a.2, a.3)

pub returns-in_default : goal.returns-in_default
returns-in_default c =
    let r = view_report c.args.report in
    let ok = not_refused c.requires r c.args.list.now (c.from-lines.ensures ∙ lines_shown c.args.table.now) c.in_ok-check.ensures refl in
    let a = c.advance-moved.ensures in
    rw c.set.ensures
    (waits c.requires r c.args.list.now ok c.tick_of-time.ensures c.advance-moved.result.sender c.advance-moved.new.rings (a.0, a.1, a.2, a.3) (ap view_report c.in_default.is))

pub judge-verdict-requires : goal.judge-verdict-requires
judge-verdict-requires c =
    let r = view_report c.args.report in
    let ok = not_refused c.requires r c.args.list.now (c.from-lines.ensures ∙ lines_shown c.args.table.now) c.in_ok-check.ensures refl in
    let a = c.advance-moved.ensures in
    arrived c.requires r c.args.list.now ok c.tick_of-time.ensures c.advance-moved.result.sender c.advance-moved.new.rings (a.0, a.1, a.2, a.3) (ap view_report c.in-Frame.is)

pub overflow_add-left : goal.overflow_add-left
overflow_add-left c = omega (arith, few_held (view_table c.args.table.now) c.args.self.now c.requires, c.stored.ensures, stored_most (verdict_of c.judge-verdict.result))

pub returns : goal.returns
returns c =
    let r = view_report c.args.report in
    let ok = not_refused c.requires r c.args.list.now (c.from-lines.ensures ∙ lines_shown c.args.table.now) c.in_ok-check.ensures refl in
    let a = c.advance-moved.ensures in
    rw c.set-2.ensures
    (frames c.requires r c.args.list.now ok c.tick_of-time.ensures c.advance-moved.result.sender c.advance-moved.new.rings (a.0, a.1, a.2, a.3) (ap view_report c.in-Frame.is)
    c.judge-verdict.ensures.gives (ap (λ (m : ℕ). c.args.self.now.state.frames - c.advance-moved.result.frames + m) c.stored.ensures))
