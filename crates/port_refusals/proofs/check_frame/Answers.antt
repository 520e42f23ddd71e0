use mathlib.Core.Path.{sym, ap, ◌∙◌}
use native.Mathlib.Omega.{arith}
use Rattle.model.proofs.Entries.{get_d_entries}
use Rattle.port_refusals.specs.Reports.{view_report}
use Rattle.port_refusals.proofs.Refused.{no_frame, no_line, wrong_length, short, overlaps, in_order}
use Rattle.port_refusals.proofs.check_frame.Goals as goal

pub returns-in_default : goal.returns-in_default
returns-in_default c = no_frame c.args.lines c.args.ticks.now c.in_default.field-0 (ap view_report c.in_default.is)

pub returns-then-lines-line : goal.returns-then-lines-line
returns-then-lines-line c =
    let a = c.args in
    let r = c.in-Frame in
    no_line a.lines a.ticks.now r.time r.line r.field-2 r.length (ap view_report r.is) (omega arith)

pub returns-then-not-is_length : goal.returns-then-not-is_length
returns-then-not-is_length c =
    let a = c.args in
    let r = c.in-Frame in
    wrong_length a.lines a.ticks.now r.time r.line r.field-2 r.length (ap view_report r.is) (omega arith) (sym c.is_length.ensures ∙ c.if-not-is_length.true)

pub overflow_add-ticks : goal.overflow_add-ticks
overflow_add-ticks c =
    let a = c.args in
    let r = c.in-Frame in
    omega (
      arith,
      c.requires.early r.line (omega arith),
      get_d_entries 0 a.lines a.ticks.now r.line (omega arith),
      short a.lines a.ticks.now r.time r.line r.field-2 r.length (ap view_report r.is) (omega arith) (sym c.is_length.ensures ∙ c.if-not-is_length.false),
    )

pub returns-then-time-ticks : goal.returns-then-time-ticks
returns-then-time-ticks c =
    let a = c.args in
    let r = c.in-Frame in
    overlaps a.lines a.ticks.now r.time r.line r.field-2 r.length (ap view_report r.is) (omega arith) (sym c.is_length.ensures ∙ c.if-not-is_length.false) (omega arith)

pub returns : goal.returns
returns c =
    let a = c.args in
    let r = c.in-Frame in
    in_order a.lines a.ticks.now r.time r.line r.field-2 r.length (ap view_report r.is) (omega arith) (sym c.is_length.ensures ∙ c.if-not-is_length.false) (omega arith)
