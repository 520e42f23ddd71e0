use mathlib.Core.Path.{refl, ◌∙◌}
use Prim.Native.Nat.{◌+◌}
use native.Mathlib.Omega.{arith}
use Rattle.table.specs.View.{view_table}
use Rattle.bounds_arrivals.proofs.Views.{up_arrivals_lem}
use Rattle.bounds.proofs.Climbing.{unheld_start, unheld_climb, is_hold, climbed_none}
use Rattle.bounds.proofs.busy.hold_of.Goals as goal

pub loop-last-init : goal.loop-last-init
loop-last-init c = unheld_start (view_table c.args.t.table) c.args.p

pub arrivals-requires : goal.arrivals-requires
arrivals-requires c = omega arith

pub overflow_add-n : goal.overflow_add-n
overflow_add-n c = omega arith

pub overflow_add-last : goal.overflow_add-last
overflow_add-last c = omega arith

pub overflow_add-result : goal.overflow_add-result
overflow_add-result c = omega arith

pub returns-then-n-last : goal.returns-then-n-last
returns-then-n-last c =
    let a = c.arrivals.result in
    is_hold (view_table c.args.t.table) c.args.p c.loop-last.last (c.args.b + a) c.args.b a c.loop-last.invariant c.requires.0 ((rw c.up_to.ensures at c.arrivals.ensures.0) ∙ up_arrivals_lem c.args.t.table c.args.p c.loop-last.last) refl (omega arith) (omega arith)

pub overflow_sub-last : goal.overflow_sub-last
overflow_sub-last c = omega arith

pub loop-last-smaller : goal.loop-last-smaller
loop-last-smaller c = omega arith

pub loop-last-preserved : goal.loop-last-preserved
loop-last-preserved c =
    let a = c.arrivals.result in
    unheld_climb (view_table c.args.t.table) c.args.p c.loop-last.last (c.args.b + a) c.args.b a c.loop-last.invariant c.requires.0 ((rw c.up_to.ensures at c.arrivals.ensures.0) ∙ up_arrivals_lem c.args.t.table c.args.p c.loop-last.last) refl (omega arith)

pub returns : goal.returns
returns c =
    let a = c.args in
    climbed_none (view_table a.t.table) a.p c.loop-last.last c.loop-last.invariant (omega arith)
