-- The refusal is that of the reader.
use mathlib.Core.Path.{sym, ap, ◌∙◌}
use Rattle.table_file.specs.Answers.{Reading}
use Rattle.table_file.proofs.Answers.{told_read}
use Rattle.fenuschia_c.proofs.file.fenuschia_read.Goals as goal

pub returns : goal.returns
returns c = c.number_or_0.ensures ∙ sym (told_read c.read.result) ∙ ap (λ (x : Reading). x.refused) c.read.ensures
