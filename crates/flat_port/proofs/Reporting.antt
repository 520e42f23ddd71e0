-- A report on flat lists and the model's step: refused, a wait, a frame.
use Rattle.std.specs.Prelude.{Option}
use mathlib.Core.Path.{◌≡◌, refl, sym, ap, ◌∙◌}
use mathlib.Core.Bool.{true}
use mathlib.Core.List.{List}
use Prim.Native.Nat.{ℕ, zero, suc, ◌+◌, ◌-◌, ◌≤◌}
use native.Mathlib.Omega.{arith}
use lib.ListN.{length}
use Rattle.model.specs.Table.{Table}
use Rattle.model.specs.Machine.{Scheduler, at, advance, frames_held}
use Rattle.model.specs.Port.{Port, with_scheduler}
use Rattle.model.specs.Fitness.{fit}
use Rattle.model.specs.Report.{Report, wait, frame, tick_of, report_refusal, Judged, judge_report, counted_by, refusal, accepted_or, Stepped, step}
use Rattle.model.proofs.QueueSteps.{advance_clock}
use Rattle.model.proofs.Stepping.{Timely, moved_to, Arrives}
use Rattle.model.proofs.Accepted.{timely, enough, waits_too, arrives}
use Rattle.model.proofs.Theorems.{fitness_kept}
use Rattle.port_scheduler.specs.declared.Sending.{Sending}
use Rattle.port_scheduler.specs.View.{view_sender}
use Rattle.flat_queues.specs.declared.Rings.{Rings}
use Rattle.flat_queues.specs.View.{Eight, queues_in as queues_of_rings}
use Rattle.flat_scheduler.specs.Promised.{Holds, Ready, Advanced}
use Rattle.flat_port.specs.declared.State.{State}
use Rattle.flat_port.specs.declared.Lists.{Lists}
use Rattle.flat_port.specs.declared.FlatPort.{FlatPort}
use Rattle.flat_port.specs.Lists.{queues_in, view_lists, view_flat, Held, Stands}
use Rattle.flat_port.specs.Promised.{Arrived, stored_by, judge_counted, Behind, Gives, Reported, step_of, Reports, refusal_by}
use Rattle.flat_port.proofs.Standing.{passes, ready, roomy, by_parts}

abbrev pub port_of : Lists → ℕ → Option Sending → ℕ → FlatPort
port_of l clock sender frames = record { lists = l; state = record { clock = clock; sender = sender; frames = frames } }

abbrev pub reported : ℕ → ℕ → ℕ → Reported
reported refused verdict frames = record { refused = refused; verdict = verdict; frames = frames }

-- after an advance
abbrev pub moved_lists : Lists → Rings → Lists
moved_lists l rings = record { rings = rings; ticks = l.ticks; accounts = l.accounts; tallies = l.tallies }

module _ {t : Table} {p : FlatPort} (k : Stands t p) (r : Report) (before : List ℕ) where
  abbrev here : Port
  here = view_flat t p

  abbrev l : Lists
  l = p.lists

  abbrev s : State
  s = p.state

  refused_step : (n : ℕ) → n ≡ report_refusal t here r (length before) → (n ≡ 0 → ⊥) → step_of t p r before ≡ record { port = here; answer = refusal n; list = before }
  unfolding step accepted_or
  refused_step n e x = rw (← e) (go n x)
    where
      go : (m : ℕ) → (m ≡ 0 → ⊥) → accepted_or m t here (record { report = r; list = before }) ≡ record { port = here; answer = refusal m; list = before }
      go zero x = absurd (x refl)
      go (suc m) x = refl

  is_refused : {n : ℕ} → n ≡ report_refusal t here r (length before) → (n ≡ 0 → ⊥) → Reports t p r before before (reported n 0 0) p
  is_refused {n} e x =
      let q = refused_step n e x in
      record {
        refused = ap (λ (x : Stepped). x.answer.refused) (sym q);
        verdict = ap (λ (x : Stepped). x.answer.verdict) (sym q);
        frames = ap (λ (x : Stepped). x.answer.frames) (sym q);
        list = ap (λ (x : Stepped). x.list) (sym q);
        port = ap (λ (x : Stepped). x.port) (sym q);
        stands = k;
        behind = record { lines = refl; accounts = refl; tallies = λ j a b. refl };
      }

  -- the refusal that the code finds, by its own count of lines
  module _ {lines n : ℕ} (le : lines ≡ t.lines) (e : n ≡ refusal_by s lines l.ticks r (length before)) where
    refusal_is : n ≡ report_refusal t here r (length before)
    refusal_is = (rw le at e) ∙ by_parts t p k r (length before)

    pub refused : (n ≡ 0 → ⊥) → Reports t p r before before (reported n 0 0) p
    refused = is_refused refusal_is

    pub not_refused : n ≡ 0 → report_refusal t here r (length before) ≡ 0
    not_refused x = sym refusal_is ∙ x

  module _ (ok : report_refusal t here r (length before) ≡ 0) where
    soon : Timely here (tick_of r)
    soon = timely t here (length before) r ok

    pub can_advance : {time : ℕ} → time ≡ tick_of r → Ready (queues_in l) (view_sender s.sender) s.clock time (length before)
    can_advance e = rw e (ready t p k soon.from soon.soon (enough t here (length before) r ok))

    accepted_step : step_of t p r before ≡ accepted_or 0 t here (record { report = r; list = before })
    unfolding step
    accepted_step = rw ok

    module _ {time : ℕ} (te : time ≡ tick_of r) (sender : Option Sending) (rings : Rings) {freed : ℕ} {after : List ℕ}
        (m : Advanced (queues_in l) (advance time (at s.clock (queues_in l) (view_sender s.sender))) (queues_of_rings rings) (view_sender sender) freed before after
        × Holds rings.held (queues_of_rings rings) × (rings.marks ≡ l.rings.marks) × Eight l.rings) where
      abbrev l₁ : Lists
      l₁ = moved_lists l rings

      there : at time (queues_of_rings rings) (view_sender sender) ≡ (advance (tick_of r) here.scheduler).scheduler
      there =
          let moved = rw te at m.0 in
          rw (te, moved.queues_are, moved.sender_is)
          (ap (λ (c : ℕ). at c (advance (tick_of r) here.scheduler).scheduler.queues (advance (tick_of r) here.scheduler).scheduler.sender)
          (sym (advance_clock (tick_of r) here.scheduler soon.from)))

      moved_shown : view_lists t time (view_sender sender) l₁ ≡ moved_to here (tick_of r)
      moved_shown = rw m.2 (ap (λ (x : Scheduler). with_scheduler here x) there)

      still_fit : (q : Port) → q ≡ (step_of t p r before).port → fit t q ≡ true
      still_fit q e = rw e (fitness_kept t here (record { report = r; list = before }) m.3.queues m.3.marks k.fits).0

      pub few_freed : freed ≤ s.frames
      few_freed = omega (arith, m.0.none_lost, k.frames)

      frames_left : s.frames - freed ≡ frames_held (queues_of_rings rings)
      frames_left = omega (arith, m.0.none_lost, k.frames)

      -- verdict and port are those that the model gives to the port that has advanced
      -- an answer that is not refused
      abbrev judgement : Judged
      judgement = judge_counted t r (moved_to here (tick_of r))

      accepted : {verdict left : ℕ} {l₂ : Lists} → verdict ≡ judgement.verdict → view_lists t time (view_sender sender) l₂ ≡ judgement.port → Held l₂ → left ≡ frames_held (queues_in l₂) →
          Behind t l l₂ → Reports t p r before after (reported 0 verdict freed) (port_of l₂ time sender left)
      unfolding accepted_or
      accepted {verdict} {left} {l₂} v x holds n behind =
          let e = sym accepted_step in
          let q = x ∙ ap (λ (x : Stepped). x.port) e in
          let moved = rw te at m.0 in
          record {
            refused = ap (λ (x : Stepped). x.answer.refused) e;
            verdict = v ∙ ap (λ (x : Stepped). x.answer.verdict) e;
            frames = moved.frames_are ∙ ap (λ (x : Stepped). x.answer.frames) e;
            list = moved.list_is ∙ ap (λ (x : Stepped). x.list) e;
            port = q;
            stands = record { holds = holds; frames = n; fits = still_fit (view_lists t time (view_sender sender) l₂) q };
            behind = behind;
          }

      pub waits : {until : ℕ} → r ≡ wait until → Reports t p r before after (reported 0 0 freed) (port_of l₁ time sender (s.frames - freed))
      unfolding judge_report counted_by
      waits {until} e = accepted (rw e) (moved_shown ∙ rw e) m.1 frames_left (record { lines = refl; accounts = refl; tallies = λ j a b. refl })

      module _ {when line number len : ℕ} (e : r ≡ frame when line number len) where
        ok' : report_refusal t here (frame when line number len) (length before) ≡ 0
        ok' = rw e at ok

        -- a wait at that tick keeps fitness, and leaves the port that is judged
        fit_there : fit t (view_lists t time (view_sender sender) l₁) ≡ true
        unfolding step accepted_or judge_report counted_by tick_of
        fit_there =
            let w : report_refusal t here (wait (tick_of r)) (length before) ≡ 0 = waits_too t here (length before) r ok in
            rw (moved_shown) (rw w at (fitness_kept t here (record { report = wait (tick_of r); list = before }) m.3.queues m.3.marks k.fits).0)

        pub arrived : Arrived t l₁ line len
        arrived =
            let a : Arrives t here when line len = arrives t here (length before) when line number len ok' in
            record {
              table = passes t p k;
              holds = m.1;
              line_in = a.line_in;
              room = roomy t time (view_sender sender) l₁ len m.1 fit_there a.long;
            }

        pub frames : {verdict left : ℕ} {l₂ : Lists} → Gives t l₁ (judge_counted t (frame time line number len)) verdict l₂ → left ≡ (s.frames - freed) + stored_by verdict →
            Reports t p r before after (reported 0 verdict freed) (port_of l₂ time sender left)
        unfolding tick_of
        frames {verdict} {left} {l₂} g n =
            let same : time ≡ when = te ∙ ap tick_of e in
            let h = rw same at g in
            accepted
            (g.verdict_is time (view_sender sender) ∙ rw (moved_shown, e, same))
            (g.port time (view_sender sender) ∙ rw (moved_shown, e, same))
            g.holds
            (n ∙ rw frames_left (sym g.frames))
            (record { lines = g.behind.lines; accounts = g.behind.accounts; tallies = g.behind.tallies })
