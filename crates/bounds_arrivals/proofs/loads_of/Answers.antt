use mathlib.Core.Path.{sym, ◌∙◌}
use Prim.Native.Nat.{◌≤◌, ◌<◌}
use native.Mathlib.Omega.{arith}
use Rattle.table.specs.View.{view_links}
use Rattle.table.proofs.PassingRecord.{entry_fits}
use Rattle.bounds_arrivals.specs.Loads.{between, less}
use Rattle.bounds_arrivals.proofs.Fitting.{product_few, place_in}
use Rattle.bounds_arrivals.proofs.Loading.{loads_of, load_none, load_skip, load_step, sum_fits, load_all}
use Rattle.bounds_arrivals.proofs.loads_of.Goals as goal
use Rattle.bounds_arrivals.proofs.loads_of.Goals.{then-has, else-has}

pub loop-l-init : goal.loop-l-init
loop-l-init c =
    let a = c.args in
    load_none (less a.cut) (between a.of.low a.of.high) (view_links a.t.table) a.w

pub frames-requires : goal.frames-requires
frames-requires c =
    let i = c.loop-l.l-index in
    let f = entry_fits c.args.t.table c.args.t.passes i (omega arith) in
    rw (c.links-l-items.ensures.same i (omega arith)) (f.code_most, f.jitter_most, c.requires)

-- the place is a line, and what is added is no more than a frame of the greatest length 16 times
place : (c : goal.After-frames) → c.from-k.result < 24
place c =
    let i = c.loop-l.l-index in
    place_in c.args.t.table c.args.t.passes i (omega arith) _ (c.links-l-items.ensures.same i (omega arith)) c.from-k.result c.from-k.ensures

kept : (c : goal.After-frames) → c.saturating_sub-kept.result ≤ 1_538
kept c =
    let i = c.loop-l.l-index in
    let x = rw (c.links-l-items.ensures.same i (omega arith)) at c.from-wire.ensures in
    omega (arith, (entry_fits c.args.t.table c.args.t.passes i (omega arith)).greatest_most)

pub overflow_mul-sums : goal.overflow_mul-sums
overflow_mul-sums c = omega (arith, product_few c.saturating_sub-kept.result c.frames.result (kept c) c.frames.ensures.1)

pub offset_bounds-sums-k : goal.offset_bounds-sums-k
offset_bounds-sums-k c = omega (arith, place c)

pub bounds-sums-k : goal.bounds-sums-k
bounds-sums-k c = place c

pub overflow_add-sums : goal.overflow_add-sums
overflow_add-sums c =
    let t = c.args.t in
    let i = c.loop-l.l-index in
    let k = rw (c.links-l-items.ensures.same i (omega arith)) at c.from-k.ensures in
    let few = sum_fits t.table t.passes c.args.of.low c.args.of.high c.args.cut c.args.w c.loop-l.sums c.loop-l.tops i (omega arith) c.loop-l.invariant c.requires in
    omega (arith, product_few c.saturating_sub-kept.result c.frames.result (kept c) c.frames.ensures.1, rw (← k) at few)

pub bounds-sums-k-then-has : goal.bounds-sums-k-then-has
bounds-sums-k-then-has c = place c

pub offset_bounds-tops-k : goal.offset_bounds-tops-k
offset_bounds-tops-k c = omega (arith, place c)

pub bounds-tops-k : goal.bounds-tops-k
bounds-tops-k c = place c

pub offset_bounds-tops-k-then-has : goal.offset_bounds-tops-k-then-has
offset_bounds-tops-k-then-has c = omega (arith, place c.before)

pub bounds-tops-k-then-has : goal.bounds-tops-k-then-has
bounds-tops-k-then-has c = place c.before

pub loop-l-preserved : goal.loop-l-preserved
loop-l-preserved c =
    let t = c.args.t in
    let of = c.args.of in
    let i = c.loop-l.l-index in
    let e = c.links-l-items.ensures.same i (omega arith) in
    let m = rw e at c.has.ensures in
    elim c.if-has.branch [
      | then-has w ↦
          let k = rw e at w.from-k.ensures in
          let x = rw e at w.from-wire.ensures in
          let n = rw e at w.frames.ensures.0 in
          rw (w.sums-is, w.tops-is, k)
          (load_step t.table t.passes of.low of.high c.args.cut c.args.w c.loop-l.sums c.loop-l.tops i (omega arith) c.loop-l.invariant
          (sym w.if-has.true ∙ m) w.saturating_sub-kept.result w.frames.result w.max.result (rw x at w.saturating_sub-kept.ensures) n (rw k at w.max.ensures))
      | else-has w ↦
          rw (w.sums-is, w.tops-is)
          (load_skip t.table t.passes of.low of.high c.args.cut c.args.w c.loop-l.sums c.loop-l.tops i (omega arith) c.loop-l.invariant (sym w.if-has.false ∙ m))
    ]

pub returns : goal.returns
returns c =
    let of = c.args.of in
    load_all c.args.t.table c.args.t.passes (between of.low of.high) c.args.cut c.args.w c.requires (loads_of c.loop-l.sums c.loop-l.tops) c.loop-l.l-index (omega arith) c.loop-l.invariant
