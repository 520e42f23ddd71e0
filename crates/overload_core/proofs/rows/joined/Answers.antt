use native.Mathlib.Omega.{arith}
use Rattle.table.proofs.Shape.{sized}
use Rattle.overload_core.proofs.Filling.{joined_start, joined_more, joined_end}
use Rattle.overload_core.proofs.rows.joined.Goals as goal

pub loop-i-init : goal.loop-i-init
loop-i-init c = (omega arith, omega arith, rw (c.from-many.ensures, c.from-i.ensures) (joined_start c.args.t c.args.front (sized c.args.front _ c.well_formed.0) c.args.k c.args.from))

pub offset_bounds-t-i : goal.offset_bounds-t-i
offset_bounds-t-i c = omega arith

pub bounds-t-i : goal.bounds-t-i
bounds-t-i c = omega arith

pub offset_bounds-t-i-in-loop-i : goal.offset_bounds-t-i-in-loop-i
offset_bounds-t-i-in-loop-i c = omega arith

pub bounds-t-i-in-loop-i : goal.bounds-t-i-in-loop-i
bounds-t-i-in-loop-i c = omega arith

pub offset_bounds-numbers-many : goal.offset_bounds-numbers-many
offset_bounds-numbers-many c = omega arith

pub bounds-numbers-many : goal.bounds-numbers-many
bounds-numbers-many c = omega arith

pub offset_bounds-links-many : goal.offset_bounds-links-many
offset_bounds-links-many c = omega arith

pub bounds-links-many : goal.bounds-links-many
bounds-links-many c = omega arith

pub overflow_add-many : goal.overflow_add-many
overflow_add-many c = omega arith

pub loop-i-preserved : goal.loop-i-preserved
loop-i-preserved c = (omega arith, omega arith, joined_more c.args.t c.loop-i.invariant.2 (sized c.args.t _ c.well_formed.1.1.0) (omega arith) c.requires.3 (omega arith))

pub overflow_cast-result : goal.overflow_cast-result
overflow_cast-result c = omega arith

pub returns : goal.returns
returns c = joined_end c.args.t c.args.front c.args.k c.args.from c.requires.0 c.loop-i.invariant.2 (omega arith)
