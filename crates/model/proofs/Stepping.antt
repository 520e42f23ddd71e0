-- What a report comes to, case by case, with what its checks tell.
use mathlib.Core.Path.{◌≡◌, refl}
use mathlib.Core.Bool.{Bool, true, false, cond}
use mathlib.Core.Option.{Option, none, some}
use mathlib.Core.List.{List, [], ◌∷◌}
use Prim.Native.Nat.{ℕ, zero, suc, ◌+◌, ◌≤◌, ◌<◌}
use native.Mathlib.Omega.{arith}
use lib.Dec.{eqb, leb}
use borrow.Author.Tests.{eqb-true, leb-true, leb-false, ltb-false, not-false}
use lib.ListN.{length}
use Rattle.model.specs.Basics.{further}
use Rattle.model.specs.Units.{last_tick, least_length, greatest_length, occupied}
use Rattle.model.specs.Link.{VirtualLink, bag, link_at, place_of}
use Rattle.model.specs.Table.{Table, size_of}
use Rattle.model.specs.Machine.{Frame, Departure, queue_of, advance, held}
use Rattle.model.specs.Port.{Port, line_tick, with_scheduler, with_gate, with_counters, with_line_tick, with_account}
use Rattle.model.specs.Report.{Report, wait, frame, tick_of, frame_checks, report_checks, all_checks, report_refusal, Judged, judged, admits, admitted, Checked, checked_if, police, police_at, has_room, stored_if, store, passed_if, judge, Stepped, arrived, judge_report, counted_by, listed, answered, refusal, accepted_or, step}
use Rattle.model.proofs.Checks.{all_true, NoneMet}
use Rattle.model.proofs.Gate.{renewed, reduced}
use Rattle.model.proofs.Refusals.{unrefused}

-- ---- the place of a number
pub record Placed (n : ℕ) (links : List VirtualLink) (i : ℕ) : Type 0 where
  pub in_range : i < length links
  pub number_is : (link_at links i).number ≡ n

pub placed : (n : ℕ) (links : List VirtualLink) (i : ℕ) → place_of n links ≡ some i → Placed n links i
unfolding place_of further
placed n [] i e = absurd (let z : ◌≡◌ {A = ℕ} 0 1 = cc in omega arith)
placed n (v ∷ links) i e = go (eqb v.number n) refl (place_of n links) refl (placed n links)
  where
    go : (x : Bool) → eqb v.number n ≡ x → (o : Option ℕ) → place_of n links ≡ o → ((j : ℕ) → place_of n links ≡ some j → Placed n links j) → Placed n (v ∷ links) i
    go true x o y ih =
        let z : 0 ≡ i = let w : some 0 ≡ some i = rw x at e in cc in
        rw (← z) (record { in_range = omega arith; number_is = eqb-true v.number n x })
    go false x none y ih = absurd (let z : ◌≡◌ {A = ℕ} 0 1 = let w : ◌≡◌ {A = Option ℕ} none (some i) = rw (x, y) at e in cc in omega arith)
    go false x (some j) y ih =
        let z : suc j ≡ i = let w : some (suc j) ≡ some i = rw (x, y) at e in cc in
        let k : Placed n links j = ih j y in
        rw (← z) (record { in_range = omega (arith, k.in_range); number_is = k.number_is })

-- ---- the verdict

-- the filter lets a frame of the link at place i through
pub record Admitted (t : Table) (line number len i : ℕ) : Type 0 where
  pub place : place_of number t.links ≡ some i
  pub at_place : i < length t.links
  pub named : (link_at t.links i).number ≡ number
  pub on_its_line : (link_at t.links i).line ≡ line
  pub not_shorter : (link_at t.links i).least ≤ len
  pub not_longer : len ≤ (link_at t.links i).greatest

-- the port with the account of the link at place i replenished to a tick; and charged
abbrev pub policed_port : Table → Port → ℕ → ℕ → Port
policed_port t s i time = with_gate s (with_account s.gate i (renewed t.links s.gate i time))

abbrev pub charged_port : Table → Port → ℕ → ℕ → Port
charged_port t s i time = with_gate s (with_account s.gate i (reduced t.links s.gate i time))

abbrev pub priority_at : Table → ℕ → ℕ
priority_at t i = (link_at t.links i).priority

module _ (t : Table) (s : Port) (time line number len : ℕ) where
  pub data Judgement : Judged → Type 0 where
    filters : Judgement (judged s 1)
    polices : (i : ℕ) → Admitted t line number len i → (renewed t.links s.gate i time).credit < bag (link_at t.links i) → Judgement (judged (policed_port t s i time) 2)
    drops : (i : ℕ) → Admitted t line number len i → bag (link_at t.links i) ≤ (renewed t.links s.gate i time).credit
        → size_of t (priority_at t i) < held (queue_of s.scheduler.queues (priority_at t i)) + occupied len → Judgement (judged (charged_port t s i time) 3)
    stores : (i : ℕ) → Admitted t line number len i → bag (link_at t.links i) ≤ (renewed t.links s.gate i time).credit
        → held (queue_of s.scheduler.queues (priority_at t i)) + occupied len ≤ size_of t (priority_at t i)
        → Judgement (stored_if true (charged_port t s i time) (priority_at t i) (arrived number len time))

  abbrev it : Frame
  it = arrived number len time

  storing : (i : ℕ) → Admitted t line number len i → bag (link_at t.links i) ≤ (renewed t.links s.gate i time).credit
      → (x : Bool) → has_room (size_of t (priority_at t i)) (queue_of s.scheduler.queues (priority_at t i)) it ≡ x → Judgement (stored_if x (charged_port t s i time) (priority_at t i) it)
  unfolding has_room stored_if
  storing i a c true e = stores i a c (leb-true (held (queue_of s.scheduler.queues (priority_at t i)) + occupied len) (size_of t (priority_at t i)) e)
  storing i a c false e = drops i a c (leb-false (held (queue_of s.scheduler.queues (priority_at t i)) + occupied len) (size_of t (priority_at t i)) e)

  abbrev checked : ℕ → Bool → Checked
  checked i x = checked_if x (bag (link_at t.links i)) (renewed t.links s.gate i time)

  passing : (i : ℕ) → Admitted t line number len i → (x : Bool) → leb (bag (link_at t.links i)) (renewed t.links s.gate i time).credit ≡ x
      → Judgement (passed_if (checked i x).passed t (with_gate s (with_account s.gate i (checked i x).account)) (priority_at t i) it)
  unfolding checked_if passed_if store
  passing i a true e = storing i a (leb-true (bag (link_at t.links i)) (renewed t.links s.gate i time).credit e) (has_room (size_of t (priority_at t i)) (queue_of s.scheduler.queues (priority_at t i)) it) refl
  passing i a false e = polices i a (leb-false (bag (link_at t.links i)) (renewed t.links s.gate i time).credit e)

  admission : (i : ℕ) → place_of number t.links ≡ some i → (x : Bool) → admits (link_at t.links i) line len ≡ x → Judgement (judge t s it (cond x (some i) none))
  unfolding judge police_at police admits
  admission i e true x =
      let all = all_true _ x in
      let p = placed number t.links i e in
      passing i
      (record {
        place = e;
        at_place = p.in_range;
        named = p.number_is;
        on_its_line = eqb-true (link_at t.links i).line line all.0;
        not_shorter = leb-true (link_at t.links i).least len all.1.0;
        not_longer = leb-true len (link_at t.links i).greatest all.1.1.0;
      })
      (leb (bag (link_at t.links i)) (renewed t.links s.gate i time).credit) refl
  admission i e false x = filters

  pub judgement : Judgement (judge t s it (admitted t line len (place_of number t.links)))
  unfolding judge admitted
  judgement = go (place_of number t.links) refl
    where
      go : (o : Option ℕ) → place_of number t.links ≡ o → Judgement (judge t s it (admitted t line len o))
      go none e = filters
      go (some i) e = admission i e (admits (link_at t.links i) line len) refl

-- every verdict is one of four
pub verdict_of_lem : {t : Table} {s : Port} {time line number len : ℕ} {j : Judged} → Judgement t s time line number len j → j.verdict < 4
unfolding stored_if
verdict_of_lem filters = omega arith
verdict_of_lem (polices i a c) = omega arith
verdict_of_lem (drops i a c full) = omega arith
verdict_of_lem (stores i a c room) = omega arith

pub verdict_few : (t : Table) (s : Port) (time line number len : ℕ) → (judge_report t s (frame time line number len)).verdict < 4
unfolding judge_report
verdict_few t s time line number len = verdict_of_lem (judgement t (with_gate s (with_line_tick s.gate line time)) time line number len)

-- ---- a report

-- what an accepted report's checks tell: of its tick; of a frame
pub record Timely (s : Port) (time : ℕ) : Type 0 where
  pub from : s.scheduler.clock ≤ time
  pub soon : time ≤ last_tick

pub record Arrives (t : Table) (s : Port) (time line len : ℕ) : Type 0 where
  pub line_in : line < t.lines
  pub long : least_length ≤ len
  pub short : len ≤ greatest_length
  pub spaced : line_tick s.gate.line_ticks line + len ≤ time

-- the port at the tick of a report; and with the tick of a frame's line set
abbrev pub moved_to : Port → ℕ → Port
moved_to s time = with_scheduler s (advance time s.scheduler).scheduler

abbrev pub reached : Port → ℕ → ℕ → Port
reached s time line = with_gate (moved_to s time) (with_line_tick s.gate line time)

abbrev pub freed_by : Port → ℕ → List Departure
freed_by s time = (advance time s.scheduler).departures

-- and with a frame counted
abbrev pub counted_port : Table → Report → Judged → Port
counted_port t r j = with_counters j.port (counted_by t r j.verdict j.port.counters)

abbrev pub accepts : Judged → List Departure → List ℕ → Stepped
accepts j departures list = record { port = j.port; answer = answered j.verdict departures; list = listed departures list }

pub data Stepping (t : Table) (s : Port) (list : List ℕ) : Report → Stepped → Type 0 where
  refuses : {r : Report} (n : ℕ) → Stepping t s list r (record { port = s; answer = refusal (suc n); list = list })
  waits : (time : ℕ) → Timely s time → Stepping t s list (wait time) (accepts (judged (moved_to s time) 0) (freed_by s time) list)
  frames : (time line number len : ℕ) → Timely s time → Arrives t s time line len → {j : Judged} → Judgement t (reached s time line) time line number len j
      → Stepping t s list (frame time line number len) (accepts (judged (counted_port t (frame time line number len) j) j.verdict) (freed_by s time) list)

module _ (t : Table) (s : Port) (list : List ℕ) where
  accepting : (r : Report) → NoneMet (all_checks t s r (length list)) → Stepping t s list r (accepted_or 0 t s (record { report = r; list = list }))
  unfolding all_checks report_checks frame_checks tick_of accepted_or judge_report counted_by
  accepting (wait time) pass = waits time (record { from = ltb-false time s.scheduler.clock pass.1.1.0; soon = ltb-false last_tick time pass.1.0 })
  accepting (frame time line number len) pass =
      let all = all_true _ (not-false _ pass.1.1.1.1.0) in
      frames time line number len
      (record { from = ltb-false time s.scheduler.clock pass.1.1.0; soon = ltb-false last_tick time pass.1.0 })
      (record {
        line_in = leb-false t.lines line pass.1.1.1.0;
        long = leb-true least_length len all.0;
        short = leb-true len greatest_length all.1.0;
        spaced = ltb-false time (line_tick s.gate.line_ticks line + len) pass.1.1.1.1.1.0;
      })
      (judgement t (reached s time line) time line number len)

  pub stepping : (r : Report) → Stepping t s list r (step t s (record { report = r; list = list }))
  unfolding step report_refusal accepted_or
  stepping r = go (report_refusal t s r (length list)) refl
    where
      go : (n : ℕ) → report_refusal t s r (length list) ≡ n → Stepping t s list r (accepted_or n t s (record { report = r; list = list }))
      go zero e = accepting r (unrefused t s r (length list) e)
      go (suc n) e = refuses n
