use mathlib.Core.Path.{refl, ap, ◌∙◌}
use mathlib.Core.List.{List}
use Prim.Native.Nat.{ℕ}
use lib.ListN.{get_or}
use native.Mathlib.Omega.{arith}
use Rattle.flat_batch.proofs.Turning.{starts, over_all, room_left, room_after, turns}
use Rattle.flat_batch.proofs.run.Goals as goal

pub loop-i-init : goal.loop-i-init
loop-i-init c = starts c.args.reports.now c.args.answers.now c.args.list.now c.requires.0 c.requires.1 (omega arith) (omega arith)

pub overflow_mul-i : goal.overflow_mul-i
overflow_mul-i c = omega (arith, c.loop-i.invariant.some_left)

pub report_at-report-requires : goal.report_at-report-requires
report_at-report-requires c = (omega (arith, c.loop-i.invariant.some_left), λ h. omega (arith, c.loop-i.invariant.some_left))

pub overflow_mul-written : goal.overflow_mul-written
overflow_mul-written c = omega (arith, room_left c.loop-i.invariant, c.loop-i.invariant.list_short, c.loop-i.invariant.list_long)

pub offset_bounds-list-written : goal.offset_bounds-list-written
offset_bounds-list-written c = omega (arith, room_left c.loop-i.invariant, c.loop-i.invariant.list_short, c.loop-i.invariant.list_long)

pub slice_bounds-report-count : goal.slice_bounds-report-count
slice_bounds-report-count c = omega (arith, room_left c.loop-i.invariant, c.loop-i.invariant.list_short, c.loop-i.invariant.list_long)

pub report-outcome-requires : goal.report-outcome-requires
report-outcome-requires c = c.loop-i.invariant.progress.stands

pub overflow_mul-i-in-loop-i : goal.overflow_mul-i-in-loop-i
overflow_mul-i-in-loop-i c = omega (arith, c.loop-i-test.true, c.loop-i.invariant.reports_short, c.loop-i.invariant.enough, c.loop-i.invariant.answers_long)

pub overflow_add-written : goal.overflow_add-written
overflow_add-written c =
    omega (
      arith,
      c.loop-i.invariant.list_short,
      c.loop-i.invariant.list_long,
      ap (λ (l : List ℕ). get_or l 2 0) c.numbers-answer.ensures,
      room_after c.loop-i.invariant (omega (arith, c.loop-i-test.true)) c.report_at-report.ensures c.report-outcome.ensures refl (omega arith),
    )

pub loop-i-preserved : goal.loop-i-preserved
loop-i-preserved c = turns c.loop-i.invariant (omega (arith, c.loop-i-test.true)) c.report_at-report.ensures c.report-outcome.ensures c.still-accepted.ensures (ap (λ (l : List ℕ). get_or l 2 0) c.numbers-answer.ensures) (c.copy_from_slice.ensures.after ∙ c.numbers-answer.ensures) refl refl (omega arith) (omega arith)

pub shape_of-answers : goal.shape_of-answers
shape_of-answers c = omega (arith, c.loop-i.invariant.answers_long)

pub shape_of-list : goal.shape_of-list
shape_of-list c = omega (arith, c.loop-i.invariant.list_long)

pub returns : goal.returns
returns c = rw c.then_some.ensures (over_all c.loop-i.invariant (omega arith))
