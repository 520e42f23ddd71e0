use mathlib.Core.Path.{sym, ◌∙◌}
use native.Mathlib.Omega.{arith}
use lib.ListN.{get_or}
use Rattle.table.specs.View.{view_table}
use Rattle.table.proofs.Shape.{sized}
use Rattle.jitter_margin.proofs.Putting.{in_array, fits_shown}
use Rattle.jitter_margin.proofs.Halving.{halved_start, half_fits, half_breaks, halved_end}
use Rattle.jitter_margin.proofs.fitting.how_many.Goals as goal

pub loop-low-init : goal.loop-low-init
loop-low-init c = halved_start _ _

pub overflow_sub-half : goal.overflow_sub-half
overflow_sub-half c = omega arith

pub overflow_add-half : goal.overflow_add-half
overflow_add-half c = omega (arith, c.loop-low.invariant.most)

pub with_jitter-u-requires : goal.with_jitter-u-requires
with_jitter-u-requires c = in_array c.args.t.table (sized c.args.t.table _ c.well_formed.0.1.1.0) c.args.t.passes c.args.i c.requires

pub overflow_add-low : goal.overflow_add-low
overflow_add-low c = omega (arith, c.loop-low.invariant.most)

pub loop-low-smaller-then-suffice : goal.loop-low-smaller-then-suffice
loop-low-smaller-then-suffice c = omega arith

pub loop-low-preserved-then-suffice : goal.loop-low-preserved-then-suffice
loop-low-preserved-then-suffice c =
    half_fits (view_table c.args.t.table) (get_or c.args.t.table.numbers c.args.i 0) c.loop-low.low c.loop-low.high _ c.loop-low.invariant (omega arith) (omega arith)
    (fits_shown c.args.t.table (sized c.args.t.table _ c.well_formed.0.1.1.0) c.args.t.passes c.args.i c.requires _ c.with_jitter-u.result c.with_jitter-u.ensures _ (sym c.if-suffice.true ∙ c.suffice.ensures))

pub loop-low-smaller : goal.loop-low-smaller
loop-low-smaller c = omega arith

pub loop-low-preserved : goal.loop-low-preserved
loop-low-preserved c =
    half_breaks (view_table c.args.t.table) (get_or c.args.t.table.numbers c.args.i 0) c.loop-low.low c.loop-low.high _ c.loop-low.invariant (omega arith) (omega arith)
    (fits_shown c.args.t.table (sized c.args.t.table _ c.well_formed.0.1.1.0) c.args.t.passes c.args.i c.requires _ c.with_jitter-u.result c.with_jitter-u.ensures _ (sym c.if-suffice.false ∙ c.suffice.ensures))

pub returns : goal.returns
returns c = record { last = halved_end _ _ c.loop-low.low c.loop-low.high c.loop-low.invariant (omega arith); most = omega (arith, c.loop-low.invariant.order, c.loop-low.invariant.most) }
