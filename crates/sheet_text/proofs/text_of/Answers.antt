use Rattle.std.proofs.Common.{◌∙◌, ap}
use Rattle.sheet_lines.specs.Lines.{refusal_line}
use Rattle.sheet_text.proofs.Whole.{sheet_is}
use Rattle.sheet_text.proofs.text_of.Goals as goal

pub returns-in-Ok : goal.returns-in-Ok
returns-in-Ok c = c.in-Ok.ensures ∙ sheet_is c.args.input.now c.min-end.result c.min-end.ensures

pub returns-in-Err : goal.returns-in-Err
returns-in-Err c =
    c.refusal_line.ensures
    ∙ ap refusal_line c.number.ensures
    ∙ c.in-Err.ensures
    ∙ sheet_is c.args.input.now c.min-end.result c.min-end.ensures
