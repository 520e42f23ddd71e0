use mathlib.Core.Path.{sym, ◌∙◌}
use native.Mathlib.Omega.{arith}
use Rattle.table.specs.View.{view_links}
use Rattle.table.proofs.PassingRecord.{entry_fits}
use Rattle.bounds_arrivals.specs.Loads.{between}
use Rattle.bounds_arrivals.proofs.Loading.{longest_none, longest_skip, longest_step, longest_all}
use Rattle.bounds_arrivals.proofs.longest.Goals as goal
use Rattle.bounds_arrivals.proofs.longest.Goals.{then-has, else-has}

pub loop-l-init : goal.loop-l-init
loop-l-init c = (longest_none (between c.args.of.low c.args.of.high) (view_links c.args.t.table), omega arith)

pub loop-l-preserved : goal.loop-l-preserved
loop-l-preserved c =
    let t = c.args.t in
    let i = c.loop-l.l-index in
    let e = c.links-l-items.ensures.same i (omega arith) in
    let m = rw e at c.has.ensures in
    elim c.if-has.branch [
      | then-has w ↦
          let x = rw e at w.from.ensures in (
            rw w.top-is (longest_step t.table t.passes c.args.of.low c.args.of.high i (omega arith) c.loop-l.top c.loop-l.invariant.0 (sym w.if-has.true ∙ m) w.from.result w.max-top.result x w.max-top.ensures),
            rw w.top-is (omega (arith, (entry_fits t.table t.passes i (omega arith)).greatest_most, x, w.max-top.ensures)),
          )
      | else-has w ↦ (
        rw w.top-is (longest_skip t.table t.passes c.args.of.low c.args.of.high i (omega arith) c.loop-l.top c.loop-l.invariant.0 (sym w.if-has.false ∙ m)),
        rw w.top-is (omega arith),
      )
    ]

pub returns : goal.returns
returns c = (longest_all c.args.t.table (between c.args.of.low c.args.of.high) c.loop-l.l-index c.loop-l.top (omega arith) c.loop-l.invariant.0, omega arith)
