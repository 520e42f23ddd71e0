use mathlib.Core.Path.{◌≡◌, ◌∙◌}
use Prim.Native.Nat.{◌-◌}
use native.Mathlib.Omega.{arith}
use Rattle.model.specs.Bounds.{longest}
use Rattle.table.specs.View.{view_table}
use Rattle.bounds_arrivals.proofs.Views.{longest_is}
use Rattle.bounds.proofs.Limiting.{none_of, some_of, limited_idle, limited_busy, bound_fits, given_hold}
use Rattle.bounds.proofs.limits.limits_of.Goals as goal
use Rattle.bounds.proofs.limits.limits_of.Goals.{After-longest-m}

own_longest : (c : After-longest-m) → c.longest-m.result ≡ longest (view_table c.args.t.table) c.args.p
own_longest c = (rw c.one.ensures at c.longest-m.ensures.0) ∙ longest_is c.args.t.table c.args.p

pub returns-then-m-eq0 : goal.returns-then-m-eq0
returns-then-m-eq0 c =
    let t = c.args.t in
    limited_idle (view_table t.table) c.args.p c.in_ok-hold.hold c.in_ok-hold.ensures (none_of t.table c.args.p c.longest-m.result (own_longest c.before) t.passes c.if-m-eq0.true)

pub peak_of-peak-requires : goal.peak_of-peak-requires
peak_of-peak-requires c =
    given_hold (view_table c.args.t.table) c.args.p c.blocking_of-b.result c.longest-m.result c.in_ok-hold.hold c.in_ok-hold.ensures c.blocking_of-b.ensures.0 (own_longest c.before) (omega arith) (omega arith)

pub overflow_cast-result-3 : goal.overflow_cast-result-3
overflow_cast-result-3 c =
    let h = c.in_ok-hold.hold in
    let i = c.in_ok-hold.ensures in
    let p = c.peak_of-peak in
    let few = own_longest c.before.before.before in
    omega (arith, bound_fits (view_table c.args.t.table) c.args.p h i (h - 1) p.result.backlog p.result.window (omega (arith, i.least_is)) p.ensures (omega (arith, c.longest-m.ensures.1)))

pub returns : goal.returns
returns c =
    let h = c.in_ok-hold.hold in
    let i = c.in_ok-hold.ensures in
    let p = c.peak_of-peak in
    limited_busy (view_table c.args.t.table) c.args.p h i (h - 1) p.result.backlog p.result.window (omega (arith, i.least_is)) p.ensures
    (some_of c.args.t.table c.args.p c.longest-m.result ((rw c.one.ensures at c.longest-m.ensures.0) ∙ longest_is c.args.t.table c.args.p) (omega arith))
