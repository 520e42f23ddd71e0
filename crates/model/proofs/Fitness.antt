-- Fitness: every list of reports keeps it, so none is refused with 10; and of a fit port an advance frees no more than is held.
use mathlib.Core.Path.{◌≡◌, refl, sym, ◌∙◌}
use mathlib.Core.Bool.{true}
use mathlib.Core.List.{List, [], ◌∷◌}
use Prim.Native.Nat.{ℕ, zero, suc, ◌+◌, ◌-◌, ◌≤◌, ◌<◌}
use native.Mathlib.Decide.{dec_le}
use native.Mathlib.Omega.{arith}
use lib.Dec.{leb}
use borrow.Author.Tests.{eq-eqb, eqb-true, le-leb, leb-true, lt-ltb, ltb-true}
use lib.ListN.{length, get_or-eq_default}
use Rattle.model.specs.Basics.{Each, done}
use Rattle.model.specs.Units.{last_tick, occupied, most_frames}
use Rattle.model.specs.Link.{bag, link_at}
use Rattle.model.specs.Table.{Table, size_of, table_refusal}
use Rattle.model.specs.Bounds.{up_to, longest}
use Rattle.model.specs.Machine.{Frame, Sender, idle, sending, queue_of, head_of, advance, held}
use Rattle.model.specs.Port.{Gate, Port, account_at, line_tick, mark_of}
use Rattle.model.specs.Fitness.{frames_fit, sender_fit, fit}
use Rattle.model.specs.Report.{report_refusal, Call, accepted_or, step}
use Rattle.model.specs.Run.{Entry, run, Always, start, then}
use Rattle.model.specs.Promises.{NeverUnfit, NoneAppears}
use Rattle.model.proofs.Checks.{all_true, true_all, all_to_lem, to_all}
use Rattle.model.proofs.Curves.{occupied_weight}
use Rattle.model.proofs.TokenBucket.{credit_top}
use Rattle.model.proofs.Gate.{Good}
use Rattle.model.proofs.Passing.{Passing, is_passing}
use Rattle.model.proofs.BusyPeriod.{SendsInTime, Meets, Sound}
use Rattle.model.proofs.FramesFreed.{ticks_count}
use Rattle.model.proofs.Refusals.{refusal_apart}
use Rattle.model.proofs.Lined.{Lined, lined_fit, fit_lined, lined_count, lined_meets}
use Rattle.model.proofs.Log.{passed_frames}
use Rattle.model.proofs.Counting.{FitCounts, fit_counts, counts_fit, run_counts}
use Rattle.model.proofs.Invariant.{Ordered, Invariant, run_kept}

-- ---- what is kept is fit
sends_fit : (clock : ℕ) (queues : List (List Frame)) → length queues ≡ 8 → (z : Sender) → SendsInTime clock queues z → sender_fit clock queues z ≡ true
unfolding SendsInTime sender_fit
sends_fit clock queues n idle m = refl
sends_fit clock queues n (sending q s) m =
    true_all _ (
      lt-ltb q 8 (omega (arith, m.1.in_range)),
      (
        lt-ltb 0 (length (queue_of queues q)) m.1.waits,
        (
          le-leb (head_of queues q).arrival s m.1.arrived,
          (lt-ltb s clock m.0, (lt-ltb clock (s + (head_of queues q).length) m.1.ends, tt)),
        ),
      ),
    )

-- what fitness asks of the gate: no tick ahead of the clock, no credit above B + J
pub record FitGate (t : Table) (clock : ℕ) (g : Gate) : Type 0 where
  pub lines_past : (ℓ : ℕ) → ℓ < t.lines → line_tick g.line_ticks ℓ ≤ clock
  pub accounts_past : (i : ℕ) → i < length t.links → (account_at g.accounts i).tick ≤ clock
  pub accounts_top : (i : ℕ) → i < length t.links → (account_at g.accounts i).credit ≤ bag (link_at t.links i) + (link_at t.links i).jitter

module _ (t : Table) (passes : table_refusal t ≡ 0) (s : Port) (k : Ordered t s) (g : FitGate t s.scheduler.clock s.gate) (c : FitCounts (length t.links) s.counters) where
  few : (p : ℕ) → p < 8 → length (queue_of s.scheduler.queues p) ≤ most_frames
  unfolding occupied
  few p l =
      omega (
        arith,
        lined_count t p s.scheduler.clock 0 (queue_of s.scheduler.queues p) (is_passing t passes) (k.lined p),
        k.below p l,
        k.within p l,
        (is_passing t passes).sizes.most p,
      )

  -- a port in order, its gate fit, is fit
  pub ordered_fit : fit t s ≡ true
  unfolding fit
  ordered_fit =
      true_all _ (
        eq-eqb (table_refusal t) 0 passes,
        (
          le-leb s.scheduler.clock last_tick k.early,
          (
            to_all _ 8 (λ p l. le-leb (length (queue_of s.scheduler.queues p)) most_frames (few p l)),
            (
              to_all _ 8 (λ p l. lined_fit t p s.scheduler.clock 0 (queue_of s.scheduler.queues p) (k.lined p)),
              (
                to_all _ 8 (λ p l. le-leb (held (queue_of s.scheduler.queues p)) (mark_of s p) (k.below p l)),
                (
                  to_all _ 8 (λ p l. le-leb (mark_of s p) (size_of t p) (k.within p l)),
                  (
                    to_all _ t.lines (λ ℓ l. le-leb (line_tick s.gate.line_ticks ℓ) s.scheduler.clock (g.lines_past ℓ l)),
                    (
                      to_all _ (length t.links) (λ i l. le-leb (account_at s.gate.accounts i).tick s.scheduler.clock (g.accounts_past i l)),
                      (
                        to_all _ (length t.links)
                            (λ i l.
                            le-leb (account_at s.gate.accounts i).credit (bag (link_at t.links i) + (link_at t.links i).jitter) (g.accounts_top i l)),
                        (sends_fit s.scheduler.clock s.scheduler.queues k.sound.eight s.scheduler.sender k.sound.sends, (counts_fit (length t.links) s.counters c, tt)),
                      ),
                    ),
                  ),
                ),
              ),
            ),
          ),
        ),
      )

-- ---- what every list of reports keeps is fit
kept_fit : (t : Table) → table_refusal t ≡ 0 → (s : Port) (log : List Entry) → Invariant t s log → FitCounts (length t.links) s.counters → fit t s ≡ true
kept_fit t passes s log k c =
    ordered_fit t passes s k.ordered
    (record {
      lines_past = good.line_past;
      accounts_past = good.account_past;
      accounts_top = λ i l. credit_top (link_at t.links i) (passed_frames t log) (account_at s.gate.accounts i) (good.credited i l);
    })
    c
  where
    good : Good occupied (up_to 0) t.lines t.links (passed_frames t log) s.scheduler.clock s.gate
    good = k.good occupied occupied_weight (up_to 0)

-- ---- so no report is refused with 10
refused_is : (n : ℕ) (t : Table) (s : Port) (c : Call) → (accepted_or n t s c).answer.refused ≡ n
unfolding accepted_or
refused_is zero t s c = refl
refused_is (suc n) t s c = refl

step_apart : (t : Table) (s : Port) (c : Call) → fit t s ≡ true → (step t s c).answer.refused ≡ 10 → ⊥
unfolding step
step_apart t s c e x =
    refusal_apart t s c.report (length c.list) e (sym (refused_is (report_refusal t s c.report (length c.list)) t s c) ∙ x)

module _ (t : Table) (passes : table_refusal t ≡ 0) where
  run_fit_lem : (calls : List Call) → fit t (run t calls).port ≡ true
  run_fit_lem calls = kept_fit t passes (run t calls).port (run t calls).log (run_kept t (is_passing t passes) calls) (run_counts t calls)

  run_apart : (calls : List Call) → Always (λ e log. e.answer.refused ≡ 10 → ⊥) (run t calls).log
  unfolding run
  run_apart [] = start
  run_apart (c ∷ calls) = then (step_apart t (run t calls).port c (run_fit_lem calls)) (run_apart calls)

pub never_unfit : NeverUnfit
never_unfit t passes calls = (run_fit_lem t passes calls, run_apart t passes calls)

-- ---- what a fit port is
pub record FitPort (t : Table) (s : Port) : Type 0 where
  pub table : Passing t
  pub early : s.scheduler.clock ≤ last_tick
  pub few : (p : ℕ) → p < 8 → length (queue_of s.scheduler.queues p) ≤ most_frames
  pub lined : (p : ℕ) → p < 8 → Lined t p s.scheduler.clock 0 (queue_of s.scheduler.queues p)
  pub below : (p : ℕ) → p < 8 → held (queue_of s.scheduler.queues p) ≤ mark_of s p
  pub within : (p : ℕ) → p < 8 → mark_of s p ≤ size_of t p
  pub gate : FitGate t s.scheduler.clock s.gate
  pub sender : sender_fit s.scheduler.clock s.scheduler.queues s.scheduler.sender ≡ true
  pub counts : FitCounts (length t.links) s.counters

pub fit_is : (t : Table) (s : Port) → fit t s ≡ true → FitPort t s
unfolding fit
fit_is t s e =
    let all = all_true _ e in
    record {
      table = is_passing t (eqb-true (table_refusal t) 0 all.0);
      early = leb-true s.scheduler.clock last_tick all.1.0;
      few = λ p l. leb-true _ _ (all_to_lem (λ q. leb (length (queue_of s.scheduler.queues q)) most_frames) 8 all.1.1.0 p l);
      lined =
          λ p l.
          fit_lined t p s.scheduler.clock 0 (queue_of s.scheduler.queues p)
          (all_to_lem (λ q. frames_fit t q s.scheduler.clock 0 (queue_of s.scheduler.queues q)) 8 all.1.1.1.0 p l);
      below = λ p l. leb-true _ _ (all_to_lem (λ q. leb (held (queue_of s.scheduler.queues q)) (mark_of s q)) 8 all.1.1.1.1.0 p l);
      within = λ p l. leb-true _ _ (all_to_lem (λ q. leb (mark_of s q) (size_of t q)) 8 all.1.1.1.1.1.0 p l);
      gate =
          record {
            lines_past = λ ℓ l. leb-true _ _ (all_to_lem (λ k. leb (line_tick s.gate.line_ticks k) s.scheduler.clock) t.lines all.1.1.1.1.1.1.0 ℓ l);
            accounts_past = λ i l. leb-true _ _ (all_to_lem (λ k. leb (account_at s.gate.accounts k).tick s.scheduler.clock) (length t.links) all.1.1.1.1.1.1.1.0 i l);
            accounts_top =
                λ i l.
                leb-true _ _
                (all_to_lem (λ k. leb (account_at s.gate.accounts k).credit (bag (link_at t.links k) + (link_at t.links k).jitter)) (length t.links) all.1.1.1.1.1.1.1.1.0 i l);
          };
      sender = all.1.1.1.1.1.1.1.1.1.0;
      counts = fit_counts (length t.links) s.counters all.1.1.1.1.1.1.1.1.1.1.0;
    }

fit_sends : (clock : ℕ) (queues : List (List Frame)) → length queues ≡ 8 → (z : Sender) → sender_fit clock queues z ≡ true → SendsInTime clock queues z
unfolding SendsInTime sender_fit
fit_sends clock queues n idle e = tt
fit_sends clock queues n (sending q s) e =
    let all = all_true _ e in (
      ltb-true s clock all.1.1.1.0,
      record {
        in_range = omega (arith, ltb-true q 8 all.0);
        waits = ltb-true 0 (length (queue_of queues q)) all.1.0;
        started = omega (arith, ltb-true s clock all.1.1.1.0);
        ends = ltb-true clock (s + (head_of queues q).length) all.1.1.1.1.0;
        arrived = leb-true (head_of queues q).arrival s all.1.1.0;
      },
    )

pub fit_sound : (t : Table) (s : Port) → FitPort t s → length s.scheduler.queues ≡ 8 → Sound (longest t) s.scheduler
fit_sound t s k n = record { eight = n; frames = λ q. go q (dec_le 8 q); sends = fit_sends s.scheduler.clock s.scheduler.queues n s.scheduler.sender k.sender }
  where
    go : (q : ℕ) → Dec (8 ≤ q) → Each (Meets (longest t q) s.scheduler.clock) (queue_of s.scheduler.queues q)
    go q (yes l) = rw (get_or-eq_default s.scheduler.queues [] {n = q} (omega arith)) done
    go q (no l) = lined_meets t q s.scheduler.clock 0 (queue_of s.scheduler.queues q) k.table (k.lined q (omega arith))

pub none_appears : NoneAppears
unfolding advance
none_appears t s e n time = ticks_count (longest t) (time - s.scheduler.clock) s.scheduler (fit_sound t s (fit_is t s e) n)
