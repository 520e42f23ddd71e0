use mathlib.Core.Path.{sym, ap}
use mathlib.Core.List.{List, ◌++◌}
use Prim.Native.Nat.{ℕ, ◌*◌, ◌≤◌}
use native.Mathlib.Omega.{arith}
use lib.ListN.{length, get_or, drop, replicate, length-replicate}
use lib.Seq.{length-take-le}
use Rattle.batch_bytes.proofs.Turning.{starts, over_all, few, within_after, room_after, turns}
use Rattle.batch_bytes.proofs.run.Goals as goal

pub loop-i-init : goal.loop-i-init
loop-i-init c = starts c.args.reports.now c.args.answers.now c.args.list.now (replicate 6144 0) c.requires.0 c.requires.1 (length-replicate {A = ℕ} 6144 0) (omega arith) (omega arith)

pub overflow_mul-i : goal.overflow_mul-i
overflow_mul-i c = omega (arith, c.loop-i.invariant.reports_short, c.loop-i.invariant.some_left)

pub report_at-report-requires : goal.report_at-report-requires
report_at-report-requires c = (omega (arith, c.loop-i.invariant.some_left), λ h. omega (arith, c.loop-i.invariant.some_left))

pub overflow_mul-written : goal.overflow_mul-written
overflow_mul-written c = omega (arith, c.loop-i.invariant.within, c.loop-i.invariant.list_short)

pub overflow_sub-whole : goal.overflow_sub-whole
overflow_sub-whole c = omega (arith, c.loop-i.invariant.within)

pub slice_bounds-room-end : goal.slice_bounds-room-end
slice_bounds-room-end c = omega (arith, c.loop-i.invariant.room_long, c.min-most.ensures)

pub slice_bounds-report-end : goal.slice_bounds-report-end
slice_bounds-report-end c = sym (length-take-le _ _ (omega (arith, c.loop-i.invariant.room_long, c.min-most.ensures)))

pub report-outcome-requires : goal.report-outcome-requires
report-outcome-requires c = c.loop-i.invariant.progress.stands

pub overflow_mul-i-in-loop-i : goal.overflow_mul-i-in-loop-i
overflow_mul-i-in-loop-i c = omega (arith, c.loop-i-test.true, c.loop-i.invariant.reports_short)

pub put_numbers-requires : goal.put_numbers-requires
put_numbers-requires c = omega (arith, c.loop-i-test.true, c.loop-i.invariant.enough, c.loop-i.invariant.answers_long)

pub overflow_mul-room : goal.overflow_mul-room
overflow_mul-room c = omega (arith, ap (λ (l : List ℕ). get_or l 2 0) c.numbers-answer.ensures, few c.loop-i.invariant c.min-most.result c.report-outcome.ensures (omega arith) (omega (arith, c.min-most.ensures)), c.min-most.ensures)

pub slice_bounds-room-end-in-loop-i : goal.slice_bounds-room-end-in-loop-i
slice_bounds-room-end-in-loop-i c = omega (arith, ap (λ (l : List ℕ). get_or l 2 0) c.numbers-answer.ensures, few c.loop-i.invariant c.min-most.result c.report-outcome.ensures (omega arith) (omega (arith, c.min-most.ensures)), room_after c.loop-i.invariant c.min-most.result c.report-outcome.ensures (omega arith) (omega (arith, c.min-most.ensures)), c.min-most.ensures)

pub slice_bounds-put_numbers-end-in-loop-i : goal.slice_bounds-put_numbers-end-in-loop-i
slice_bounds-put_numbers-end-in-loop-i c = sym (length-take-le _ _ (omega (arith, ap (λ (l : List ℕ). get_or l 2 0) c.numbers-answer.ensures, few c.loop-i.invariant c.min-most.result c.report-outcome.ensures (omega arith) (omega (arith, c.min-most.ensures)), room_after c.loop-i.invariant c.min-most.result c.report-outcome.ensures (omega arith) (omega (arith, c.min-most.ensures)), c.min-most.ensures)))

pub overflow_mul-written-in-loop-i : goal.overflow_mul-written-in-loop-i
overflow_mul-written-in-loop-i c = omega (arith, c.loop-i.invariant.within, c.loop-i.invariant.list_short)

pub put_numbers-requires-in-loop-i : goal.put_numbers-requires-in-loop-i
put_numbers-requires-in-loop-i c =
    let all : 3 * get_or c.numbers-answer.result 2 0 ≤ length (c.report-outcome.new.list ++ drop c.min-most.result c.loop-i.room) = omega (arith, ap (λ (l : List ℕ). get_or l 2 0) c.numbers-answer.ensures, few c.loop-i.invariant c.min-most.result c.report-outcome.ensures (omega arith) (omega (arith, c.min-most.ensures)), room_after c.loop-i.invariant c.min-most.result c.report-outcome.ensures (omega arith) (omega (arith, c.min-most.ensures)), c.min-most.ensures) in
    rw (length-take-le _ _ all) (omega (arith, ap (λ (l : List ℕ). get_or l 2 0) c.numbers-answer.ensures, within_after c.loop-i.invariant (omega (arith, c.loop-i-test.true)) c.report_at-report.ensures c.min-most.ensures c.report-outcome.ensures (omega arith), c.loop-i.invariant.list_long))

pub overflow_add-written : goal.overflow_add-written
overflow_add-written c = omega (arith, ap (λ (l : List ℕ). get_or l 2 0) c.numbers-answer.ensures, within_after c.loop-i.invariant (omega (arith, c.loop-i-test.true)) c.report_at-report.ensures c.min-most.ensures c.report-outcome.ensures (omega arith), c.loop-i.invariant.list_short)

pub loop-i-preserved : goal.loop-i-preserved
loop-i-preserved c = turns c.loop-i.invariant (omega (arith, c.loop-i-test.true)) c.report_at-report.ensures c.min-most.ensures c.report-outcome.ensures (omega arith) c.still-accepted.ensures (ap (λ (l : List ℕ). get_or l 2 0) c.numbers-answer.ensures) c.numbers-answer.ensures c.put_numbers.ensures c.put_numbers-in-loop-i.ensures (omega arith) (omega arith)

pub shape_of-answers : goal.shape_of-answers
shape_of-answers c = c.loop-i.invariant.answers_long

pub shape_of-list : goal.shape_of-list
shape_of-list c = c.loop-i.invariant.list_long

pub returns : goal.returns
returns c = rw c.then_some.ensures (over_all c.loop-i.invariant (omega (arith, c.loop-i-test.false)))
