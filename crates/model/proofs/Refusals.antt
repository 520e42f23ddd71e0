-- The refusals of a report in three: 10; then 11 to 15, of a port that is fit; then 16.
use mathlib.Core.Path.{◌≡◌, sym, ◌∙◌}
use mathlib.Core.Bool.{true, false}
use mathlib.Core.List.{List, [], ◌∷◌, ◌++◌}
use Prim.Native.Nat.{ℕ}
use native.Mathlib.Omega.{arith}
use Rattle.model.specs.Basics.{Check, first_met, first_refusal}
use Rattle.model.specs.Table.{Table}
use Rattle.model.specs.Machine.{frames_held}
use Rattle.model.specs.Port.{Port}
use Rattle.model.specs.Fitness.{fit}
use Rattle.model.specs.Report.{Report, wait, frame, fit_check, frame_checks, report_checks, room_check, all_checks, report_refusal}
use Rattle.model.proofs.Checks.{first_here, first_later, Numbered, Apart, first_apart, NoneMet, none_met, first_append}

-- ---- 11 to 15, by the clock, the line count and the line ticks
module _ (clock lines : ℕ) (ticks : List ℕ) where
  pub checks_numbered : (r : Report) → Numbered (report_checks clock lines ticks r)
  unfolding report_checks frame_checks
  checks_numbered (wait time) = omega arith
  checks_numbered (frame time line number len) = omega arith

  checks_apart : (frames room : ℕ) (r : Report) → Apart 10 (report_checks clock lines ticks r ++ (room_check frames room ∷ []))
  unfolding report_checks frame_checks
  checks_apart frames room (wait time) = omega arith
  checks_apart frames room (frame time line number len) = omega arith

-- ---- all of them
module _ (t : Table) (s : Port) (r : Report) (room : ℕ) where
  abbrev those : List Check
  those = report_checks s.scheduler.clock t.lines s.gate.line_ticks r

  abbrev last : Check
  last = room_check (frames_held s.scheduler.queues) room

  pub refusal_unfit : fit t s ≡ false → report_refusal t s r room ≡ 10
  unfolding report_refusal all_checks
  refusal_unfit e = first_here (fit_check t s) (those ++ (last ∷ [])) (rw e)

  pub refusal_fit : fit t s ≡ true
      → report_refusal t s r room ≡ first_refusal (first_met (report_checks s.scheduler.clock t.lines s.gate.line_ticks r)) (first_met (room_check (frames_held s.scheduler.queues) room ∷ []))
  unfolding report_refusal all_checks
  refusal_fit e =
      first_later (fit_check t s) (those ++ (last ∷ [])) (rw e)
      ∙ first_append those (last ∷ []) (checks_numbered s.scheduler.clock t.lines s.gate.line_ticks r)

  -- a fit port is not refused with 10
  pub refusal_apart : fit t s ≡ true → report_refusal t s r room ≡ 10 → ⊥
  unfolding report_refusal all_checks
  refusal_apart e x =
      first_apart 10 (those ++ (last ∷ [])) (omega arith) (checks_apart s.scheduler.clock t.lines s.gate.line_ticks (frames_held s.scheduler.queues) room r)
      (sym (first_later (fit_check t s) (those ++ (last ∷ [])) (rw e)) ∙ x)

  -- a report that is not refused meets none
  pub unrefused : report_refusal t s r room ≡ 0 → NoneMet (all_checks t s r room)
  unfolding report_refusal all_checks report_checks frame_checks
  unrefused e = none_met (all_checks t s r room) (go r) e
    where
      go : (x : Report) → Numbered (all_checks t s x room)
      go (wait time) = omega arith
      go (frame time line number len) = omega arith
