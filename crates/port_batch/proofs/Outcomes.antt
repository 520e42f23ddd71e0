-- What the call comes to: refused, each report refused with 10, or answered.
use Rattle.std.specs.Prelude.{Option, Some, None, Ok, Err}
use Rattle.std.specs.Bool.{then_some}
use mathlib.Core.Path.{◌≡◌, refl, sym, ◌∙◌}
use mathlib.Core.List.{List}
use Prim.Native.Nat.{ℕ, zero, suc, ◌*◌, ◌/◌, ◌≤◌}
use lib.ListN.{length}
use Rattle.model.specs.Batch.{reports_in, batch_refusal, batch_or, answer_batch, over}
use Rattle.model.specs.Machine.{frames_held}
use Rattle.model.specs.Fitness.{fit}
use Rattle.refusal.specs.declared.Refusal.{Refusal}
use Rattle.refusal.specs.Numbers.{number_of}
use Rattle.refusal.proofs.Numbers.{number_not_0}
use Rattle.port.specs.declared.Port.{Port as PortRecord}
use Rattle.port.specs.View.{view_port_table, view_port}
use Rattle.port.proofs.Refused.{none_fails, some_passes}
use Rattle.port_batch.specs.declared.Batched.{Batched as BatchedRecord}
use Rattle.port_batch.specs.Promised.{outcome_from, Batches, Fit, Answered, unfit}
use Rattle.port_batch.proofs.Refusing.{has_room, untouched, unfit_batch, report_count}

module _ (p : PortRecord) (reports answers list : List ℕ) {n : ℕ} (e : n ≡ batch_refusal reports (length answers)) where
  refused_outcome : (m : ℕ) → (m ≡ 0 → ⊥) →
      batch_or m (view_port_table p) (view_port p) reports answers list ≡ record { refused = m; port = view_port p; answers = answers; list = list; departures = 0 }
  unfolding batch_or
  refused_outcome zero z = absurd (z refl)
  refused_outcome (suc m) z = refl

  pub call_refused : (r : Refusal) → n ≡ number_of r → Batches p reports answers answers list list (record { outcome = Err r; port = p })
  unfolding answer_batch
  call_refused r q =
      record {
        gives = rw (← e, q, refused_outcome (number_of r) (number_not_0 r)) (record { refused = refl; departures = refl; port = refl; answers_are = refl; list_is = refl; table = refl; lines_behind = refl; accounts_behind = refl; counts_behind = refl });
        same = λ x. refl;
        same_port = λ x. refl;
      }

  module _ (z : n ≡ 0) where
    passes : batch_refusal reports (length answers) ≡ 0
    passes = sym e ∙ z

    outcome_is : outcome_from p reports answers list ≡ batch_or 0 (view_port_table p) (view_port p) reports answers list
    unfolding answer_batch
    outcome_is = rw passes

    pub answers_fit : 3 * (length reports / 5) ≤ length answers
    answers_fit = has_room reports (length answers) passes

    pub call_answered : {answers' list' : List ℕ} {r : BatchedRecord} → Answered p reports answers answers' list list' r → Batches p reports answers answers' list list' r
    unfolding batch_or
    call_answered k = record { gives = rw outcome_is k.gives; same = λ x. absurd (x k.gives.refused); same_port = k.same_port }

    abbrev tested : Option ℕ
    tested = then_some (fit (view_port_table p) (view_port p)) (frames_held (view_port p).scheduler.queues)

    pub fits : {n : ℕ} → Some n ≡ tested → Fit p n
    unfolding view_port
    fits x = let y = some_passes _ _ _ x in record { fits = y.0; frames_are = y.1 }

    pub call_unfit : None ≡ tested → {answers' : List ℕ} → answers' ≡ over (unfit (length reports / 5)) answers → Batches p reports answers answers' list list (record { outcome = Ok 0; port = p })
    unfolding batch_or
    call_unfit bad {answers'} q =
        let b = unfit_batch (view_port_table p) (view_port p) (none_fails _ _ bad) (reports_in reports) list in
        let u = untouched (view_port_table p) (view_port p) (reports_in reports) list b.refused in
        record {
          gives =
              rw outcome_is
              (record {
                refused = refl;
                departures = sym u.freed;
                port = sym u.port;
                answers_are = rw (b.answers, report_count reports) q;
                list_is = rw u.written;
                table = refl;
                lines_behind = refl;
                accounts_behind = refl;
                counts_behind = refl;
              });
          same = λ y. absurd (y refl);
          same_port = λ y. refl;
        }
