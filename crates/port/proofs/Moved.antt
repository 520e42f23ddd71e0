-- The advance of a port record, and of the model's port.
use mathlib.Core.Path.{◌≡◌, refl, sym, ap, ◌∙◌}
use mathlib.Core.List.{List}
use Prim.Native.Nat.{ℕ, zero, suc}
use lib.ListN.{length}
use Rattle.model.specs.Machine.{Scheduler, at, advance}
use Rattle.model.specs.Report.{Report, wait, tick_of, report_refusal, judge_report, counted_by, refusal, accepted_or, step, Stepped}
use Rattle.model.proofs.QueueSteps.{advance_clock}
use Rattle.model.proofs.Stepping.{Timely, moved_to}
use Rattle.model.proofs.Fitness.{fit_is}
use Rattle.port_policing.specs.Gate.{view_gate}
use Rattle.port_scheduler.specs.declared.Moved.{Moved}
use Rattle.port_scheduler.specs.View.{view_queues, view_marks, view_sender}
use Rattle.port_scheduler.specs.Promised.{Ready, advance_from, Advanced}
use Rattle.port_scheduler.proofs.Callers.{fit_ready}
use Rattle.std.specs.Prelude.{None, Ok, Err}
use Rattle.refusal.specs.declared.Refusal.{Refusal}
use Rattle.refusal.specs.Numbers.{number_of}
use Rattle.refusal.proofs.Numbers.{number_not_0}
use Rattle.port.specs.declared.Port.{Port as PortRecord}
use Rattle.port.specs.declared.Answer.{Answer as AnswerRecord}
use Rattle.port.specs.View.{view_port_table, view_port}
use Rattle.port.specs.Promised.{step_from, Answered}
use Rattle.port.specs.Advancing.{Reached, Begun}
use Rattle.model.proofs.Accepted.{fit_port, timely, enough, waits_too}

-- not refused, being lent a list of that length
abbrev pub NotRefused : PortRecord → Report → ℕ → Type 0
NotRefused p r room = report_refusal (view_port_table p) (view_port p) r room ≡ 0

pub accepts : (p : PortRecord) (r : Report) (before : List ℕ) → NotRefused p r (length before)
    → step_from p r before ≡ accepted_or 0 (view_port_table p) (view_port p) (record { report = r; list = before })
unfolding step
accepts p r before ok = rw ok

-- ---- a wait that is not refused
abbrev pub arrived_at : PortRecord → ℕ → Moved → AnswerRecord
arrived_at p time m =
    record {
      outcome = Ok (record { verdict = None; frames = m.frames; bytes = m.bytes });
      port = record { table = p.table; clock = time; queues = m.queues; sender = m.sender; gate = p.gate; counts = p.counts; unknown = p.unknown };
    }

module _ (p : PortRecord) (time room : ℕ) (ok : NotRefused p (wait time) room) where
  soon : Timely (view_port p) time
  unfolding tick_of
  soon = timely (view_port_table p) (view_port p) room (wait time) ok

  pub ready : Ready p.queues p.sender p.clock time room
  unfolding view_port
  ready =
      fit_ready (view_port_table p) (view_port p) (fit_is (view_port_table p) (view_port p) (fit_port (view_port_table p) (view_port p) room (wait time) ok)) refl
      soon.from soon.soon (enough (view_port_table p) (view_port p) room (wait time) ok)

module _ (p : PortRecord) (time : ℕ) {before after : List ℕ} {m : Moved} (ok : NotRefused p (wait time) (length before))
    (moves : Advanced (advance_from time p.clock p.queues p.sender) (view_marks p.queues) before after m) where
  abbrev here : Scheduler
  here = at p.clock (view_queues p.queues) (view_sender p.sender)

  there : at time (view_queues m.queues) (view_sender m.sender) ≡ (advance time here).scheduler
  unfolding view_port
  there =
      rw (moves.queues, moves.sender)
      (ap (λ (c : ℕ). at c (advance time here).scheduler.queues (advance time here).scheduler.sender) (sym (advance_clock time here (soon p time (length before) ok).from)))

  moved : view_port (arrived_at p time m).port ≡ moved_to (view_port p) time
  unfolding view_port
  moved =
      ap (λ (s : Scheduler). record { scheduler = s; marks = view_marks m.queues; gate = view_gate p.table p.gate; counters = (view_port p).counters }) there
      ∙ ap (λ (marks : List ℕ). record { scheduler = (advance time here).scheduler; marks = marks; gate = view_gate p.table p.gate; counters = (view_port p).counters }) moves.marks

  pub reaches : length m.queues ≡ 8 → Reached p time before after (arrived_at p time m)
  unfolding accepted_or judge_report counted_by tick_of view_port
  reaches eight =
      let e = accepts p (wait time) before ok in
      record {
        accepted = refl;
        waited =
            record {
              answer = rw (moves.frames, moves.bytes) (ap (λ (s : Stepped). s.answer) (sym e));
              judged = refl;
              port = moved ∙ ap (λ (s : Stepped). s.port) (sym e);
              list = moves.list ∙ ap (λ (s : Stepped). s.list) (sym e);
              same = λ refused. absurd (refused refl);
              table = refl;
              lines_behind = refl;
              accounts_behind = refl;
              counts_behind = refl;
            };
        clock = refl;
        queues = eight;
        gate = refl;
        counts = refl;
      }

-- ---- any report
module _ (p : PortRecord) (r : Report) where
  refuses : {before : List ℕ} (x : Refusal) → number_of x ≡ report_refusal (view_port_table p) (view_port p) r (length before) →
      Answered p r before before (record { outcome = Err x; port = p })
  unfolding step accepted_or
  refuses {before} x e =
      let n : ℕ = number_of x in
      let z : (n ≡ 0 → ⊥) = number_not_0 x in
      record {
        answer = rw (← e) (ap (λ (s : Stepped). s.answer) (go n z));
        judged = tt;
        port = rw (← e) (ap (λ (s : Stepped). s.port) (go n z));
        list = rw (← e) (ap (λ (s : Stepped). s.list) (go n z));
        same = λ x. refl;
        table = refl;
        lines_behind = refl;
        accounts_behind = refl;
        counts_behind = refl;
      }
    where
      go : (k : ℕ) → (k ≡ 0 → ⊥) → ◌≡◌ {A = Stepped} (record { port = view_port p; answer = refusal k; list = before }) (accepted_or k (view_port_table p) (view_port p) (record { report = r; list = before }))
      go zero x = absurd (x refl)
      go (suc k) x = refl

  pub begun_refused : {before : List ℕ} (x : Refusal) → number_of x ≡ report_refusal (view_port_table p) (view_port p) r (length before) →
      Begun p r before before (record { outcome = Err x; port = p })
  begun_refused x e = record { refused = e; answered = λ z. refuses x e; reached = λ z. absurd (number_not_0 x z) }

  module _ (before : List ℕ) (ok : 0 ≡ report_refusal (view_port_table p) (view_port p) r (length before)) {time : ℕ} (at_tick : time ≡ tick_of r) where
    pub wait_accepted : NotRefused p (wait time) (length before)
    wait_accepted = rw at_tick (waits_too (view_port_table p) (view_port p) (length before) r (sym ok))

    pub begun_reached : {after : List ℕ} {a : AnswerRecord} → Reached p time before after a → Begun p r before after a
    begun_reached k = record { refused = k.accepted ∙ ok; answered = λ x. absurd (x k.accepted); reached = λ x. rw (← at_tick) k }
