use mathlib.Core.Path.{◌≡◌}
use Prim.Native.Nat.{◌+◌}
use native.Mathlib.Omega.{arith}
use Rattle.model.specs.Bounds.{backlog}
use Rattle.table.specs.View.{view_table}
use Rattle.bounds_backlog.proofs.Highest.{highest_none}
use Rattle.bounds_backlog.proofs.peak_of.Goals as goal

pub loop-w-init : goal.loop-w-init
loop-w-init c = (omega arith, highest_none (backlog (view_table c.args.t.table) c.args.s.priority))

pub stretch_at-stretch-requires : goal.stretch_at-stretch-requires
stretch_at-stretch-requires c = (c.requires, omega arith)

pub improved-best-requires : goal.improved-best-requires
improved-best-requires c = c.stretch_at-stretch.ensures.steep

pub overflow_add-w : goal.overflow_add-w
overflow_add-w c =
    let r = c.stretch_at-stretch.ensures in
    omega (arith, r.steep.last_most)

pub loop-w-smaller : goal.loop-w-smaller
loop-w-smaller c =
    let r = c.stretch_at-stretch.ensures in
    omega (arith, r.start_is, r.within, r.steep.order)

pub loop-w-preserved : goal.loop-w-preserved
loop-w-preserved c =
    let r = c.stretch_at-stretch.ensures in
    (omega (arith, r.within), c.improved-best.ensures.lift (backlog (view_table c.args.t.table) c.args.s.priority) r.same (rw r.start_is c.loop-w.invariant.1))

pub returns : goal.returns
returns c =
    let e : c.loop-w.w ≡ c.args.s.last + 1 = omega arith in
    rw e at c.loop-w.invariant.1
