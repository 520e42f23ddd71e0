-- What the checks of an accepted report tell.
use mathlib.Core.Path.{◌≡◌}
use mathlib.Core.Bool.{true}
use mathlib.Core.List.{[], ◌∷◌}
use Prim.Native.Nat.{ℕ, ◌+◌, ◌*◌, ◌≤◌}
use borrow.Author.Tests.{not-false, ltb-false, leb-true, leb-false}
use Rattle.model.specs.Units.{last_tick, least_length, greatest_length}
use Rattle.model.specs.Table.{Table}
use Rattle.model.specs.Machine.{frames_held}
use Rattle.model.specs.Port.{Port, line_tick}
use Rattle.model.specs.Fitness.{fit}
use Rattle.model.specs.Report.{Report, wait, frame, tick_of, frame_checks, report_checks, room_check, all_checks, report_refusal}
use Rattle.model.proofs.Checks.{all_true, none_back, first_none}
use Rattle.model.proofs.Refusals.{unrefused}
use Rattle.model.proofs.Stepping.{Timely, Arrives}

module _ (t : Table) (s : Port) (room : ℕ) where
  module _ (r : Report) (e : report_refusal t s r room ≡ 0) where
    pub fit_port : fit t s ≡ true
    unfolding all_checks
    fit_port = not-false (fit t s) (unrefused t s r room e).0

    pub timely : Timely s (tick_of r)
    unfolding all_checks report_checks
    timely =
        let pass = unrefused t s r room e in
        record { from = ltb-false (tick_of r) s.scheduler.clock pass.1.1.0; soon = ltb-false last_tick (tick_of r) pass.1.0 }

    pub enough : 3 * frames_held s.scheduler.queues ≤ room
    unfolding all_checks report_checks
    enough =
        ltb-false room (3 * frames_held s.scheduler.queues)
        (none_back (frame_checks t.lines s.gate.line_ticks r) (room_check (frames_held s.scheduler.queues) room ∷ []) (unrefused t s r room e).1.1.1).0

    -- a wait at its tick is accepted too
    pub waits_too : report_refusal t s (wait (tick_of r)) room ≡ 0
    unfolding report_refusal all_checks report_checks frame_checks tick_of
    waits_too =
        let pass = unrefused t s r room e in
        first_none (all_checks t s (wait (tick_of r)) room) (
          pass.0,
          (
            pass.1.0,
            (
              pass.1.1.0,
              none_back (frame_checks t.lines s.gate.line_ticks r) (room_check (frames_held s.scheduler.queues) room ∷ []) pass.1.1.1,
            ),
          ),
        )

  pub arrives : (time line number len : ℕ) → report_refusal t s (frame time line number len) room ≡ 0 → Arrives t s time line len
  unfolding all_checks report_checks frame_checks
  arrives time line number len e =
      let pass = unrefused t s (frame time line number len) room e in
      let all = all_true _ (not-false _ pass.1.1.1.1.0) in
      record {
        line_in = leb-false t.lines line pass.1.1.1.0;
        long = leb-true least_length len all.0;
        short = leb-true len greatest_length all.1.0;
        spaced = ltb-false time (line_tick s.gate.line_ticks line + len) pass.1.1.1.1.1.0;
      }
