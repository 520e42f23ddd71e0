-- Example C: a buffer filled with 256 frames.
use mathlib.Core.Path.{◌≡◌, refl}
use mathlib.Core.Bool.{true}
use mathlib.Core.List.{List, [], ◌∷◌, ◌++◌, map, reverse}
use Prim.Native.Nat.{ℕ}
use lib.ListN.{length, replicate}
use Rattle.model.specs.Basics.{first_met}
use Rattle.model.specs.Table.{Table, table_refusal}
use Rattle.model.specs.Machine.{frames_held, queue_of}
use Rattle.model.specs.Port.{Port, fresh, mark_of}
use Rattle.model.specs.Fitness.{fit}
use Rattle.model.specs.Report.{Call, Stepped, report_checks, room_check, all_checks, report_refusal, accepted_or, step}
use Rattle.model.specs.Run.{History, run}
use Rattle.model.specs.Examples.{table_c, calls_c, short_links, burst, bursts, Correct}
use Rattle.model.specs.Examples as example
use Rattle.model.proofs.Fitness.{never_unfit}
use Rattle.model.proofs.Examples.{the_port}
use Rattle.model.proofs.ClimbedExamples.{the_checks}

-- ---- of a table that passes, reports find the port fit, so that the test need not be computed
abbrev step_fit : Table → Port → Call → Stepped
step_fit t s c =
    accepted_or (first_met (report_checks s.scheduler.clock t.lines s.gate.line_ticks c.report ++ (room_check (frames_held s.scheduler.queues) (length c.list) ∷ []))) t s c

step_fit_lem : (t : Table) (s : Port) (c : Call) → fit t s ≡ true → step t s c ≡ step_fit t s c
unfolding step report_refusal all_checks first_met
step_fit_lem t s c e = rw e

unfoldable run_fit : Table → List Call → History
run_fit t [] = record { port = fresh t; log = [] }
run_fit t (c ∷ calls) =
    let before = run_fit t calls in
    let s = step_fit t before.port c in
    record { port = s.port; log = record { report = c.report; answer = s.answer; list = s.list } ∷ before.log }

run_is : (t : Table) → table_refusal t ≡ 0 → (calls : List Call) → run t calls ≡ run_fit t calls
unfolding run run_fit
run_is t e [] = refl
run_is t e (c ∷ calls) = rw (step_fit_lem t (run t calls).port c (never_unfit t e calls).0, run_is t e calls)

-- names for all that the filling computes with
the_fill : ℕ
unfolding the_port run_fit short_links burst bursts
the_fill = 0

c_passes : table_refusal table_c ≡ 0
unfolding the_checks short_links
c_passes = refl

answers_c : map (λ e. e.answer) (run_fit table_c (reverse calls_c)).log ≡ replicate (length calls_c) (record { refused = 0; verdict = 0; frames = 0; bytes = 0 })
unfolding the_fill
answers_c = refl

port_c : ((run_fit table_c (reverse calls_c)).port.scheduler.clock ≡ 2_841)
    × (length (queue_of (run_fit table_c (reverse calls_c)).port.scheduler.queues 0) ≡ 256)
    × (mark_of (run_fit table_c (reverse calls_c)).port 0 ≡ 16_384)
unfolding the_fill
port_c = (refl, refl, refl)

pub filled_c : Correct example.filled_c
unfolding Correct
filled_c = rw (run_is table_c c_passes (reverse calls_c)) (answers_c, port_c.0, port_c.1, port_c.2, rw (← run_is table_c c_passes (reverse calls_c)) (never_unfit table_c c_passes (reverse calls_c)).0)
