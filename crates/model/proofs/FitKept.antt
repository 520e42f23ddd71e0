-- A report keeps fitness, from every fit port: no log is needed for it.
use mathlib.Core.Path.{◌≡◌, refl}
use mathlib.Core.List.{List, []}
use Prim.Native.Nat.{ℕ, ◌+◌, ◌≤◌}
use native.Mathlib.Nat.{le_refl}
use native.Mathlib.Decide.{dec_le}
use native.Mathlib.Omega.{arith}
use borrow.Author.Tests.{eqb-true}
use lib.ListN.{length, length-set, get_or-eq_default}
use Rattle.model.specs.Link.{bag, link_at}
use Rattle.model.specs.Table.{Table, table_refusal}
use Rattle.model.specs.Machine.{queue_of, advance}
use Rattle.model.specs.Port.{Account, Gate, Port, blank_account, with_line_tick, with_account}
use Rattle.model.specs.Fitness.{fit}
use Rattle.model.specs.Report.{Report, Judged, replenished, charged, stored_if, counted_by, Stepped, step}
use Rattle.model.specs.Promises.{FitnessKept, LengthsKept}
use Rattle.model.proofs.Lists.{set_each}
use Rattle.model.proofs.Checks.{all_true}
use Rattle.model.proofs.Gate.{renewed, reduced}
use Rattle.model.proofs.Passing.{Passing, is_passing}
use Rattle.model.proofs.QueueSteps.{advance_clock}
use Rattle.model.proofs.Stepping.{Judgement, filters, polices, drops, stores, Timely, Arrives, moved_to, reached, policed_port, charged_port, Stepping, refuses, waits, frames, stepping}
use Rattle.model.proofs.Lined.{Lined, over}
use Rattle.model.proofs.Counting.{FitCounts, counted_fit}
use Rattle.model.proofs.Invariant.{Ordered, regated, recounted_order, moved_ordered, stored_ordered}
use Rattle.model.proofs.Fitness.{FitGate, ordered_fit, FitPort, fit_is, fit_sound}

-- ---- the gate

module _ (t : Table) (clock : ℕ) (g : Gate) (k : FitGate t clock g) (time : ℕ) (later : clock ≤ time) where
  gate_later : FitGate t time g
  gate_later =
      record {
        lines_past = λ ℓ l. omega (arith, k.lines_past ℓ l);
        accounts_past = λ i l. omega (arith, k.accounts_past i l);
        accounts_top = k.accounts_top;
      }

  gate_line : (line : ℕ) → FitGate t time (with_line_tick g line time)
  gate_line line =
      record {
        lines_past = set_each (λ ℓ last. last ≤ time) t.lines g.line_ticks 0 line time (λ _. le_refl time) gate_later.lines_past;
        accounts_past = gate_later.accounts_past;
        accounts_top = k.accounts_top;
      }

  -- an account that is not ahead, and whose credit is not above B + J
  gate_account : (line i : ℕ) (a : Account) → a.tick ≤ time → a.credit ≤ bag (link_at t.links i) + (link_at t.links i).jitter
      → FitGate t time (with_account (with_line_tick g line time) i a)
  gate_account line i a past top =
      record {
        lines_past = (gate_line line).lines_past;
        accounts_past = set_each (λ j b. b.tick ≤ time) (length t.links) g.accounts blank_account i a (λ _. past) gate_later.accounts_past;
        accounts_top =
            set_each (λ j b. b.credit ≤ bag (link_at t.links j) + (link_at t.links j).jitter) (length t.links) g.accounts blank_account i a (λ _. top) k.accounts_top;
      }

  gate_renewed : (line i : ℕ) → FitGate t time (with_account (with_line_tick g line time) i (renewed t.links g i time))
  unfolding replenished
  gate_renewed line i = gate_account line i (renewed t.links g i time) (le_refl time) (omega arith)

  gate_reduced : (line i : ℕ) → FitGate t time (with_account (with_line_tick g line time) i (reduced t.links g i time))
  unfolding replenished charged
  gate_reduced line i = gate_account line i (reduced t.links g i time) (le_refl time) (omega arith)

-- ---- a report
record InOrder (t : Table) (s : Port) : Type 0 where
  ordered : Ordered t s
  gate : FitGate t s.scheduler.clock s.gate
  counts : FitCounts (length t.links) s.counters

fit_whole : (t : Table) (s : Port) → FitPort t s → length s.scheduler.queues ≡ 8 → length s.marks ≡ 8 → InOrder t s
fit_whole t s k eight marks =
    record {
      ordered = record { sound = fit_sound t s k eight; lined = λ q. go q (dec_le 8 q); early = k.early; eight = marks; below = k.below; within = k.within };
      gate = k.gate;
      counts = k.counts;
    }
  where
    go : (q : ℕ) → Dec (8 ≤ q) → Lined t q s.scheduler.clock 0 (queue_of s.scheduler.queues q)
    go q (yes l) = rw (get_or-eq_default s.scheduler.queues [] {n = q} (omega arith)) over
    go q (no l) = k.lined q (omega arith)

module _ (t : Table) (v : Passing t) (s : Port) (k : InOrder t s) where
  module _ (time : ℕ) (timely : Timely s time) where
    there : (advance time s.scheduler).scheduler.clock ≡ time
    there = advance_clock time s.scheduler timely.from

    moved : Ordered t (moved_to s time)
    moved = moved_ordered t s time timely k.ordered

    judged_whole : (line number len : ℕ) → Arrives t s time line len → {j : Judged} → Judgement t (reached s time line) time line number len j → InOrder t j.port
    unfolding stored_if
    judged_whole line number len arrives filters =
        record { ordered = regated t (moved_to s time) moved (reached s time line).gate; gate = rw there (gate_line t s.scheduler.clock s.gate k.gate time timely.from line); counts = k.counts }
    judged_whole line number len arrives (polices i a c) =
        record {
          ordered = regated t (moved_to s time) moved (policed_port t (reached s time line) i time).gate;
          gate = rw there (gate_renewed t s.scheduler.clock s.gate k.gate time timely.from line i);
          counts = k.counts;
        }
    judged_whole line number len arrives (drops i a c full) =
        record {
          ordered = regated t (moved_to s time) moved (charged_port t (reached s time line) i time).gate;
          gate = rw there (gate_reduced t s.scheduler.clock s.gate k.gate time timely.from line i);
          counts = k.counts;
        }
    judged_whole line number len arrives (stores i a c room) =
        record {
          ordered = stored_ordered t v (moved_to s time) moved time line number len i there arrives.long a room (charged_port t (reached s time line) i time).gate;
          gate = rw there (gate_reduced t s.scheduler.clock s.gate k.gate time timely.from line i);
          counts = k.counts;
        }

  step_whole : (list : List ℕ) {r : Report} {x : Stepped} → Stepping t s list r x → InOrder t x.port
  unfolding counted_by
  step_whole list (refuses n) = k
  step_whole list (waits time timely) =
      record { ordered = moved time timely; gate = rw (there time timely) (gate_later t s.scheduler.clock s.gate k.gate time timely.from); counts = k.counts }
  step_whole list (frames time line number len timely arrives j) =
      let x = judged_whole time timely line number len arrives j in
      record { ordered = recounted_order _ x.ordered; gate = x.gate; counts = counted_fit _ _ x.counts }

pub fitness_kept : FitnessKept
unfolding fit
fitness_kept t s c queues marks e =
    let passes : table_refusal t ≡ 0 = eqb-true (table_refusal t) 0 (all_true _ e).0 in
    let w : InOrder t (step t s c).port = step_whole t (is_passing t passes) s (fit_whole t s (fit_is t s e) queues marks) c.list (stepping t s c.list c.report) in
    (ordered_fit t passes (step t s c).port w.ordered w.gate w.counts, w.ordered.sound.eight, w.ordered.eight)

-- ---- the number of marks, line ticks and accounts
record SameLengths (s x : Port) : Type 0 where
  marks : length x.marks ≡ length s.marks
  lines : length x.gate.line_ticks ≡ length s.gate.line_ticks
  accounts : length x.gate.accounts ≡ length s.gate.accounts

judged_lengths : (t : Table) (s : Port) (time line number len : ℕ) {j : Judged} → Judgement t s time line number len j → SameLengths s j.port
unfolding stored_if
judged_lengths t s time line number len filters = record { marks = refl; lines = refl; accounts = refl }
judged_lengths t s time line number len (polices i a c) = record { marks = refl; lines = refl; accounts = rw length-set }
judged_lengths t s time line number len (drops i a c full) = record { marks = refl; lines = refl; accounts = rw length-set }
judged_lengths t s time line number len (stores i a c room) = record { marks = rw length-set; lines = refl; accounts = rw length-set }

step_lengths : (t : Table) (s : Port) (list : List ℕ) {r : Report} {x : Stepped} → Stepping t s list r x → SameLengths s x.port
step_lengths t s list (refuses n) = record { marks = refl; lines = refl; accounts = refl }
step_lengths t s list (waits time timely) = record { marks = refl; lines = refl; accounts = refl }
step_lengths t s list (frames time line number len timely arrives j) =
    let k = judged_lengths t (reached s time line) time line number len j in
    record { marks = k.marks; lines = rw length-set at k.lines; accounts = k.accounts }

pub lengths_kept : LengthsKept
lengths_kept t s c = let k = step_lengths t s c.list (stepping t s c.list c.report) in (k.marks, k.lines, k.accounts)
