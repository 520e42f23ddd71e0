use mathlib.Core.Path.{◌∙◌}
use native.Mathlib.Omega.{arith}
use Rattle.refusal.proofs.Numbers.{passed_on}
use Rattle.table_record_reader.specs.Records.{due_at}
use Rattle.table_file.proofs.ReadSteps.{counts_refused, counts_go, link_refused, link_go, sold_refused, none_sold_found, sizes_refused, read_whole}
use Rattle.table_file.proofs.walk.read.Goals as goal

pub returns-in_default : goal.returns-in_default
returns-in_default c =
    counts_refused c.args.file.now c.next-first.result c.refused.result (c.next-first.ensures ∙ (λ i. due_at (c.start-w.ensures.0 i).now (c.start-w.ensures.1 i) 0 0 0)) c.in_default.not-Counts c.refused.ensures

pub loop-i-init : goal.loop-i-init
loop-i-init c =
    let e = c.next-first.ensures ∙ (λ i. due_at (c.start-w.ensures.0 i).now (c.start-w.ensures.1 i) 0 0 0) in (
      c.from-n.ensures,
      omega arith,
      rw (c.advanced-w.ensures.0, c.advanced-w.ensures.1, c.start-w.ensures.0, c.start-w.ensures.1) (counts_go c.args.file.now c.next-first.result c.in-Counts.lines c.in-Counts.count e c.in-Counts.is c.blank_link-links.result c.blank_link-links.ensures),
    )

pub returns-in_default-record : goal.returns-in_default-record
returns-in_default-record c = link_refused c.loop-i.invariant.2 c.next-record.result c.next-record.ensures (omega arith) c.refused-in_default-record.result c.in_default-record.not-Link c.refused-in_default-record.ensures

pub loop-i-preserved : goal.loop-i-preserved
loop-i-preserved c =
    let found = c.in-Link in (
      c.loop-i.invariant.0,
      omega arith,
      rw (c.advanced-w-in-loop-i.ensures.0, c.advanced-w-in-loop-i.ensures.1) (link_go c.loop-i.invariant.2 c.next-record.result c.next-record.ensures (omega arith) found.number found.link found.is c.loop-i.i (omega arith)),
    )

pub returns-in_err-check_lines : goal.returns-in_err-check_lines
returns-in_err-check_lines c = rw (passed_on _ _ c.from_residual.ensures.1) (sold_refused c.loop-i.invariant.2 (omega arith) _ _ c.in_err-check_lines.ensures)

pub returns-in_default-last : goal.returns-in_default-last
returns-in_default-last c =
    sizes_refused c.loop-i.invariant.2 (omega arith) c.next-last.result c.next-last.ensures (none_sold_found c.loop-i.invariant.2 (omega arith) _ c.in_ok-check_lines.ensures) c.refused-in_default-last.result c.in_default-last.not-Sizes c.refused-in_default-last.ensures

pub returns : goal.returns
returns c =
    let found = c.in-Sizes in
    read_whole c.loop-i.invariant.2 (omega arith) c.next-last.result c.next-last.ensures (none_sold_found c.loop-i.invariant.2 (omega arith) _ c.in_ok-check_lines.ensures) found.sizes found.is
