use mathlib.Core.Path.{◌∙◌}
use native.Mathlib.Omega.{arith}
use Rattle.table.proofs.PassingRecord.{counts_pass}
use Rattle.overload_core.proofs.Reducing.{reduced_start, reduced_end, kept_recorded, leaves, keeps}
use Rattle.overload_core.proofs.reduction.reduced.Goals as goal
use Rattle.overload_core.proofs.reduction.reduced.Goals.{then-not-lacks, else-not-lacks}

pub loop-i-init : goal.loop-i-init
loop-i-init c = reduced_start c.args.t.table c.linkless-kept.result c.linkless-kept.ensures

pub overflow_add-i : goal.overflow_add-i
overflow_add-i c = omega (arith, (counts_pass c.args.t.table c.args.t.passes).links_most)

pub joined-trial-requires : goal.joined-trial-requires
joined-trial-requires c =
    let few = c.loop-i.invariant.few in
    let most = (counts_pass c.args.t.table c.args.t.passes).links_most in
    (omega arith, omega arith, omega arith, omega arith)

pub bounds-t-at : goal.bounds-t-at
bounds-t-at c = omega (arith, (counts_pass c.args.t.table c.args.t.passes).links_most)

pub bounds-t-at-then-not-lacks : goal.bounds-t-at-then-not-lacks
bounds-t-at-then-not-lacks c = omega (arith, (counts_pass c.args.t.table c.args.t.passes).links_most)

pub pushed-more-requires : goal.pushed-more-requires
pushed-more-requires c = (kept_recorded c.args.t.table c.args.t.passes c.loop-i.invariant (omega arith), omega (arith, c.loop-i.invariant.few, (counts_pass c.args.t.table c.args.t.passes).links_most))

pub loop-i-preserved : goal.loop-i-preserved
loop-i-preserved c =
    elim c.if-not-lacks.branch [
      | then-not-lacks w ↦ keeps c.args.t.table c.args.t.passes c.loop-i.invariant (omega arith) c.joined-trial.result c.joined-trial.ensures c.lacks.result c.lacks.ensures w.if-not-lacks.true _ (w.kept-is ∙ rw w.from-at.ensures at w.pushed-more.ensures)
      | else-not-lacks w ↦ leaves c.args.t.table c.args.t.passes c.loop-i.invariant (omega arith) c.joined-trial.result c.joined-trial.ensures c.lacks.result c.lacks.ensures w.if-not-lacks.false _ w.kept-is
    ]

pub returns : goal.returns
returns c = reduced_end c.args.t.table c.loop-i.invariant (omega arith)
