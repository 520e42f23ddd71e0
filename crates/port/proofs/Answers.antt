-- The answer to a wait, and to a frame.
use mathlib.Core.Path.{◌≡◌, refl, sym, ap, ◌∙◌}
use mathlib.Core.Bool.{true}
use mathlib.Core.List.{List}
use Prim.Native.Nat.{ℕ, zero, suc}
use native.Mathlib.Omega.{arith}
use lib.ListN.{length, length-map}
use Rattle.model.specs.Machine.{advance}
use Rattle.model.specs.Table.{table_refusal}
use Rattle.model.specs.Link.{place_of}
use Rattle.model.specs.Counters.{counted}
use Rattle.model.specs.Port.{with_counters}
use Rattle.model.specs.Fitness.{fit}
use Rattle.model.specs.Report.{wait, frame, tick_of, Answer, bytes_freed, Judged, judge_report, counted_by, accepted_or, Stepped}
use Rattle.model.proofs.Stepping.{Arrives, moved_to}
use Rattle.model.proofs.Theorems.{fitness_kept}
use Rattle.table.specs.View.{view_links, view_table}
use Rattle.port_scheduler.specs.declared.Queue.{Queue}
use Rattle.port_scheduler.proofs.Shown.{length_shown}
use Rattle.port.specs.declared.Port.{Port as PortRecord}
use Rattle.std.specs.Prelude.{Ok, Some}
use Rattle.refusal.specs.Numbers.{number_or_0}
use Rattle.port_refusals.specs.declared.Verdict.{Verdict}
use Rattle.port_refusals.specs.Verdicts.{verdict_of}
use Rattle.table.proofs.Shape.{Sized}
use Rattle.port.specs.declared.Accepted.{Accepted as AcceptedRecord}
use Rattle.port.specs.declared.Answer.{Answer as AnswerRecord}
use Rattle.port.specs.View.{view_port_table, view_port}
use Rattle.port.specs.Promised.{Answered}
use Rattle.port.specs.Advancing.{Reached, Begun}
use Rattle.port.specs.Judging.{JudgedRecord, Arrived, Judges}
use Rattle.port.specs.Counting.{Counts}
use Rattle.port.specs.Whole.{Whole}
use Rattle.model.proofs.Accepted.{fit_port, arrives, waits_too}
use Rattle.port.proofs.Moved.{NotRefused, accepts}
use borrow.Author.Tests.{eqb-true}
use Rattle.model.proofs.Checks.{all_true}

-- ---- a wait
pub waits : (p : PortRecord) (time : ℕ) {before after : List ℕ} {a : AnswerRecord} → Begun p (wait time) before after a → Answered p (wait time) before after a
unfolding tick_of
waits p time {before} {after} {a} b = go (number_or_0 a.outcome) refl
  where
    go : (n : ℕ) → number_or_0 a.outcome ≡ n → Answered p (wait time) before after a
    go zero e = (b.reached e).waited
    go (suc n) e = b.answered (λ z. omega arith)

-- ---- a frame that is not refused
module _ (p : PortRecord) (w : Whole p) (time line number len : ℕ) {before after : List ℕ} {freed : AcceptedRecord} {moved : PortRecord}
    (b : Begun p (frame time line number len) before after (record { outcome = Ok freed; port = moved })) where
  ok : NotRefused p (frame time line number len) (length before)
  ok = sym b.refused

  reached : Reached p time before after (record { outcome = Ok freed; port = moved })
  unfolding tick_of
  reached = b.reached refl

  wait_ok : NotRefused p (wait time) (length before)
  unfolding tick_of
  wait_ok = waits_too (view_port_table p) (view_port p) (length before) (frame time line number len) ok

  table_is : moved.table ≡ p.table
  table_is = reached.waited.table

  eight_queues : length (view_port p).scheduler.queues ≡ 8
  unfolding view_port
  eight_queues = length_shown p.queues ∙ w.queues

  eight_marks : length (view_port p).marks ≡ 8
  unfolding view_port
  eight_marks = length-map p.queues (λ (q : Queue). q.mark) ∙ w.queues

  -- by the theorem that fitness is kept, of a wait
  still_fit : fit (view_port_table moved) (view_port moved) ≡ true
  still_fit =
      rw (reached.waited.port, table_is)
      (fitness_kept (view_port_table p) (view_port p) (record { report = wait time; list = before }) eight_queues eight_marks
      (fit_port (view_port_table p) (view_port p) (length before) (wait time) wait_ok)).0

  pub arrived : Arrived moved line len
  unfolding view_table
  arrived =
      let k : Arrives (view_port_table p) (view_port p) time line len = arrives (view_port_table p) (view_port p) (length before) time line number len ok in
      record { fit_port = still_fit; line_in = rw table_is k.line_in; long = k.long; short = k.short }

  -- the model's port at the tick of the report
  moved_is : view_port moved ≡ moved_to (view_port p) time
  unfolding accepted_or judge_report counted_by tick_of
  moved_is = reached.waited.port ∙ ap (λ (s : Stepped). s.port) (accepts p (wait time) before wait_ok)

  abbrev verdict : Judged
  verdict = judge_report (view_port_table p) (moved_to (view_port p) time) (frame time line number len)

  verdict_is : judge_report (view_port_table moved) (view_port moved) (frame moved.clock line number len) ≡ verdict
  verdict_is = rw (moved_is, table_is, reached.clock)

  pub still_whole : Whole moved
  still_whole =
      record { table = rw table_is w.table; queues = reached.queues; lines = rw reached.gate w.lines; accounts = rw reached.gate w.accounts; counts = rw reached.counts w.counts }

  -- what counting asks
  pub counts_it : {j : JudgedRecord} → Judges moved line number len j → Sized j.port.table × (table_refusal (view_port_table j.port) ≡ 0)
  unfolding fit
  counts_it s = (rw (s.table, table_is) w.table, rw s.table (eqb-true (table_refusal (view_port_table moved)) 0 (all_true _ still_fit).0))

  counted_shown : {j : JudgedRecord} → Judges moved line number len j →
      with_counters (view_port j.port) (counted (place_of number (view_links j.port.table)) j.verdict (view_port j.port).counters)
      ≡ with_counters verdict.port (counted (place_of number (view_links p.table)) verdict.verdict verdict.port.counters)
  counted_shown {j} s =
      let v : j.verdict ≡ verdict.verdict = s.verdict ∙ ap (λ (x : Judged). x.verdict) verdict_is in
      let q : view_port j.port ≡ verdict.port = s.port ∙ ap (λ (x : Judged). x.port) verdict_is in
      let t : j.port.table ≡ p.table = s.table ∙ table_is in
      rw (v, q, t)

  pub frames : (v : Verdict) {y x : PortRecord} → Judges moved line number len (record { verdict = verdict_of v; port = y }) → Counts y number (verdict_of v) x →
      Answered p (frame time line number len) before after (record { outcome = Ok (record { verdict = Some v; frames = freed.frames; bytes = freed.bytes }); port = x })
  unfolding accepted_or tick_of judge_report counted_by view_table
  frames v {y} {x} s c =
      let e = accepts p (frame time line number len) before ok in
      let u = accepts p (wait time) before wait_ok in
      let verdict_is_its : verdict_of v ≡ verdict.verdict = s.verdict ∙ ap (λ (x : Judged). x.verdict) verdict_is in
      let frames_are : freed.frames ≡ length (advance time (view_port p).scheduler).departures = ap (λ (a : Answer). a.frames) (reached.waited.answer ∙ ap (λ (x : Stepped). x.answer) u) in
      let bytes_are : freed.bytes ≡ bytes_freed (advance time (view_port p).scheduler).departures = ap (λ (a : Answer). a.bytes) (reached.waited.answer ∙ ap (λ (x : Stepped). x.answer) u) in
      record {
        answer = rw (verdict_is_its, frames_are, bytes_are) (ap (λ (x : Stepped). x.answer) (sym e));
        judged = refl;
        port = c.port ∙ counted_shown s ∙ ap (λ (x : Stepped). x.port) (sym e);
        list = reached.waited.list ∙ ap (λ (x : Stepped). x.list) u ∙ ap (λ (x : Stepped). x.list) (sym e);
        same = λ refused. absurd (refused refl);
        table = c.table ∙ s.table ∙ table_is;
        lines_behind = rw c.gate ((rw table_is at s.lines_behind) ∙ reached.waited.lines_behind);
        accounts_behind = rw c.gate ((rw table_is at s.accounts_behind) ∙ reached.waited.accounts_behind);
        counts_behind = (rw (s.table, table_is, s.counts) at c.behind) ∙ reached.waited.counts_behind;
      }
