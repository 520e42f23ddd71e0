use mathlib.Core.Path.{refl, sym, ◌∙◌}
use Rattle.refusal.proofs.Numbers.{number_not_0, passed_on}
use Rattle.table_record_reader.proofs.Due.{counts_header, counts_out, counts_in}
use Rattle.table_record_reader.proofs.counts_at.Goals as goal

pub returns-in_err-check_header : goal.returns-in_err-check_header
returns-in_err-check_header c = rw (passed_on _ _ c.from_residual.ensures.1) (counts_header c.args.rest.now _ c.in_err-check_header.ensures (number_not_0 _))

pub returns-then-not-counts_in_range : goal.returns-then-not-counts_in_range
returns-then-not-counts_in_range c = counts_out c.args.rest.now _ c.in_ok-check_header.ensures refl c.read-lines.result c.read-count.result c.read-lines.ensures c.read-count.ensures (sym c.counts_in_range.ensures ∙ c.if-not-counts_in_range.true)

pub returns : goal.returns
returns c = counts_in c.args.rest.now _ c.in_ok-check_header.ensures refl c.read-lines.result c.read-count.result c.read-lines.ensures c.read-count.ensures (sym c.counts_in_range.ensures ∙ c.if-not-counts_in_range.false)
