use mathlib.Core.Path.{◌∙◌}
use native.Mathlib.Omega.{arith}
use Rattle.table.specs.View.{view_link}
use Rattle.port_filter.proofs.Filtering.{other_line, too_short, not_too_long}
use Rattle.port_filter.proofs.admits.Goals as goal

pub returns-then-from-line : goal.returns-then-from-line
returns-then-from-line c = λ n. other_line (view_link n c.args.link) c.args.line c.args.«length» (λ e. c.if-from-line.true (c.from.ensures ∙ e))

pub returns-then-from-length : goal.returns-then-from-length
returns-then-from-length c = λ n. rw c.from-then-from-length.ensures (not_too_long (view_link n c.args.link) c.args.line c.args.«length» (omega arith) (omega arith))

pub returns-else-from-length : goal.returns-else-from-length
returns-else-from-length c = λ n. rw c.from-2.ensures (too_short (view_link n c.args.link) c.args.line c.args.«length» (omega arith) (omega arith))
