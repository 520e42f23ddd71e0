-- The model's fitness of a port record, by the conditions that the code tests one after the other.
use mathlib.Core.Path.{◌≡◌, refl, sym, ap, ◌∙◌}
use mathlib.Core.Bool.{Bool, true, false, and-true}
use mathlib.Core.List.{List, [], ◌∷◌}
use Prim.Native.Nat.{ℕ}
use native.Mathlib.Omega.{arith}
use Rattle.std.specs.Prelude.{Option, Some, None}
use Rattle.std.specs.Bool.{then_some}
use lib.Dec.{leb}
use borrow.Author.Tests.{eq-eqb, eqb-true, ne_eqb}
use lib.ListN.{length, get_or}
use Rattle.model.specs.Basics.{all_to, all_hold}
use Rattle.model.specs.Units.{last_tick, most_frames, full_count}
use Rattle.model.specs.Table.{table_refusal}
use Rattle.model.specs.Machine.{queue_of, held, frames_held}
use Rattle.model.specs.Counters.{every_count}
use Rattle.model.specs.Fitness.{frames_fit, sender_fit, fit}
use Rattle.model.proofs.Checks.{all_true, true_all}
use Rattle.table.specs.declared.Table.{Table as TableRecord}
use Rattle.table.specs.View.{view_table}
use Rattle.table.proofs.Shape.{count_shown}
use Rattle.port_policing.specs.declared.Gate.{Gate as GateRecord}
use Rattle.port_scheduler.specs.declared.Queue.{Queue}
use Rattle.port_scheduler.specs.declared.Sending.{Sending}
use Rattle.port_scheduler.specs.View.{view_queues, view_marks, view_sender}
use Rattle.counters.specs.View.{view_counts}
use Rattle.port_fitness.specs.Conditions.{lines_fit, ticks_fit, credits_fit}
use Rattle.port_fitness.proofs.All.{same_truth, all_four, any_false}
use Rattle.port_queue_fitness.specs.Queues.{queues_fit, queues_fitness}
use Rattle.port_record_fitness.specs.View.{view_parts}
use Rattle.port_record_fitness.specs.Fitness.{table_fits, port_fitness}

-- eleven conditions are five: those on table and clock are one, those on queues and sender, and those on accounts
grouped : (a b c d e f g h i j n q : Bool) → q ≡ all_hold (c ∷ d ∷ e ∷ f ∷ []) →
    all_hold (a ∷ b ∷ c ∷ d ∷ e ∷ f ∷ g ∷ h ∷ i ∷ j ∷ n ∷ []) ≡ all_hold (all_hold (a ∷ b ∷ []) ∷ n ∷ all_hold (q ∷ j ∷ []) ∷ g ∷ all_hold (h ∷ i ∷ []) ∷ [])
grouped a b c d e f g h i j n q x =
    same_truth _ _
    (λ (y : all_hold (a ∷ b ∷ c ∷ d ∷ e ∷ f ∷ g ∷ h ∷ i ∷ j ∷ n ∷ []) ≡ true).
    let all = all_true _ y in
    let four = true_all (c ∷ d ∷ e ∷ f ∷ []) (all.1.1.0, (all.1.1.1.0, (all.1.1.1.1.0, (all.1.1.1.1.1.0, tt)))) in
    let rest = all.1.1.1.1.1.1 in
    true_all _ (
      true_all _ (all.0, (all.1.0, tt)),
      (rest.1.1.1.1.0, (true_all _ (x ∙ four, (rest.1.1.1.0, tt)), (rest.0, (true_all _ (rest.1.0, (rest.1.1.0, tt)), tt)))),
    ))
    (λ (y : all_hold (all_hold (a ∷ b ∷ []) ∷ n ∷ all_hold (q ∷ j ∷ []) ∷ g ∷ all_hold (h ∷ i ∷ []) ∷ []) ≡ true).
    let all = all_true _ y in
    let first = all_true (a ∷ b ∷ []) all.0 in
    let queued = all_true (q ∷ j ∷ []) all.1.1.0 in
    let four = all_true (c ∷ d ∷ e ∷ f ∷ []) (sym x ∙ queued.0) in
    let two = all_true (h ∷ i ∷ []) all.1.1.1.1.0 in
    true_all _ (
      first.0,
      (first.1.0, (four.0, (four.1.0, (four.1.1.0, (four.1.1.1.0, (all.1.1.1.0, (two.0, (two.1.0, (queued.1.0, (all.1.0, tt)))))))))),
    ))

queues_parts : (t : TableRecord) (clock : ℕ) (queues : List Queue) →
    queues_fit t clock queues
    ≡ all_hold (
    all_to (λ p. leb (length (queue_of (view_queues queues) p)) most_frames) 8
    ∷ all_to (λ p. frames_fit (view_table t) p clock 0 (queue_of (view_queues queues) p)) 8
    ∷ all_to (λ p. leb (held (queue_of (view_queues queues) p)) (get_or (view_marks queues) p 0)) 8
    ∷ all_to (λ p. leb (get_or (view_marks queues) p 0) (get_or t.sizes p 0)) 8
    ∷ []
    )
queues_parts t clock queues =
    all_four
    (λ p. leb (length (queue_of (view_queues queues) p)) most_frames)
    (λ p. frames_fit (view_table t) p clock 0 (queue_of (view_queues queues) p))
    (λ p. leb (held (queue_of (view_queues queues) p)) (get_or (view_marks queues) p 0))
    (λ p. leb (get_or (view_marks queues) p 0) (get_or t.sizes p 0))
    8

-- ---- table and clock
module _ (refused clock : ℕ) where
  pub table_unfit : (refused ≡ 0 → ⊥) → false ≡ table_fits refused clock
  unfolding all_hold
  table_unfit h = rw (ne_eqb refused 0 h)

  pub table_fit : refused ≡ 0 → leb clock last_tick ≡ table_fits refused clock
  unfolding all_hold
  table_fit h = rw (eq-eqb refused 0 h, and-true)

  pub table_passes : table_fits refused clock ≡ true → refused ≡ 0
  table_passes e = eqb-true refused 0 (all_true _ e).0

-- ---- what a told test is
none_fails : (b : Bool) (n : ℕ) → None ≡ then_some b n → b ≡ false
none_fails true n e = absurd (let y : ◌≡◌ {A = ℕ} 0 1 = cc in omega arith)
none_fails false n e = refl

some_passes : (b : Bool) (n m : ℕ) → Some m ≡ then_some b n → (b ≡ true) × (m ≡ n)
some_passes true n m e = (refl, cc)
some_passes false n m e = absurd (let y : ◌≡◌ {A = ℕ} 0 1 = cc in omega arith)

-- ---- the whole
module _ (t : TableRecord) (clock : ℕ) (queues : List Queue) (sender : Option Sending) (gate : GateRecord) (counts : List ℕ) (unknown : ℕ) where
  abbrev fits : Bool
  fits = fit (view_table t) (view_parts t clock queues sender gate counts unknown)

  abbrev conditions : List Bool
  conditions =
      table_fits (table_refusal (view_table t)) clock
      ∷ every_count (λ count. leb count full_count) t.count (view_counts t.count counts unknown)
      ∷ all_hold (queues_fit t clock queues ∷ sender_fit clock (view_queues queues) (view_sender sender) ∷ [])
      ∷ lines_fit gate.line_ticks t.lines clock
      ∷ all_hold (ticks_fit gate.accounts t.count clock ∷ credits_fit gate.accounts t ∷ [])
      ∷ []

  fit_shown : fits ≡ all_hold conditions
  unfolding fit view_table
  fit_shown = rw (count_shown t) (grouped _ _ _ _ _ _ _ _ _ _ _ _ (queues_parts t clock queues))

  -- the i-th condition fails
  pub is_unfit : (i : ℕ) → get_or conditions i true ≡ false → None ≡ port_fitness t clock queues sender gate counts unknown
  is_unfit i x = ap (λ (b : Bool). then_some b (frames_held (view_queues queues))) (any_false conditions i x ∙ sym fit_shown)

  -- that on the queues fails, as it was told
  pub queues_unfit : None ≡ queues_fitness t clock queues sender → None ≡ port_fitness t clock queues sender gate counts unknown
  queues_unfit told = is_unfit 2 (none_fails (get_or conditions 2 true) (frames_held (view_queues queues)) told)

  -- all before the last hold, that on the queues as it was told; and the last
  module _ {frames : ℕ} (told : Some frames ≡ queues_fitness t clock queues sender)
      (a : get_or conditions 0 true ≡ true) (b : get_or conditions 1 true ≡ true) (c : get_or conditions 3 true ≡ true) where
    pub by_last : (x : Bool) → get_or conditions 4 true ≡ x → then_some x frames ≡ port_fitness t clock queues sender gate counts unknown
    by_last false e = is_unfit 4 e
    by_last true e =
        let q = some_passes (get_or conditions 2 true) (frames_held (view_queues queues)) frames told in
        rw (fit_shown ∙ true_all conditions (a, (b, (q.0, (c, (e, tt))))), q.1)
