-- The refusals of a report to a port record, by the three parts that the code asks.
use mathlib.Core.Path.{◌≡◌, refl, sym, ◌∙◌}
use mathlib.Core.Bool.{Bool, true, false}
use mathlib.Core.List.{[], ◌∷◌}
use Prim.Native.Nat.{ℕ, zero, suc}
use native.Mathlib.Omega.{arith}
use Rattle.model.specs.Basics.{first_met, first_refusal}
use Rattle.model.specs.Machine.{frames_held}
use Rattle.model.specs.Fitness.{fit}
use Rattle.model.specs.Report.{Report, report_checks, room_check, report_refusal}
use Rattle.model.proofs.Refusals.{refusal_unfit, refusal_fit}
use Rattle.model.proofs.Fitness.{FitPort, fit_is}
use Rattle.table.specs.View.{view_table}
use Rattle.port_scheduler.specs.View.{view_queues}
use Rattle.std.specs.Bool.{then_some}
use Rattle.std.specs.Prelude.{Some, None}
use Rattle.port_refusals.specs.Reports.{Clocked}
use Rattle.port.specs.declared.Port.{Port as PortRecord}
use Rattle.port.specs.View.{view_port_table, view_port}
use Rattle.port.specs.Whole.{Whole}

-- what a tested record is, by the number of its frames
pub none_fails : (b : Bool) (n : ℕ) → None ≡ then_some b n → b ≡ false
none_fails true n e = absurd (let y : ◌≡◌ {A = ℕ} 0 1 = cc in omega arith)
none_fails false n e = refl

pub some_passes : (b : Bool) (n m : ℕ) → Some m ≡ then_some b n → (b ≡ true) × (m ≡ n)
some_passes true n m e = (refl, cc)
some_passes false n m e = absurd (let y : ◌≡◌ {A = ℕ} 0 1 = cc in omega arith)

module _ (p : PortRecord) where
  abbrev held : ℕ
  held = frames_held (view_port p).scheduler.queues

  pub is_unfit : None ≡ then_some (fit (view_port_table p) (view_port p)) held → (r : Report) (room : ℕ) → 10 ≡ report_refusal (view_port_table p) (view_port p) r room
  is_unfit tested r room = sym (refusal_unfit (view_port_table p) (view_port p) r room (none_fails _ held tested))

  module _ {frames : ℕ} (tested : Some frames ≡ then_some (fit (view_port_table p) (view_port p)) held) where
    good : fit (view_port_table p) (view_port p) ≡ true
    good = (some_passes _ held frames tested).0

    is_fit : FitPort (view_port_table p) (view_port p)
    is_fit = fit_is (view_port_table p) (view_port p) good

    frames_are : frames ≡ frames_held (view_queues p.queues)
    unfolding view_port
    frames_are = (some_passes _ held frames tested).1

    -- 11 to 15 are asked of lines and ticks of a fit port
    pub clocked : Whole p → Clocked p.gate.line_ticks p.table.lines
    unfolding view_table view_port
    clocked w = record { few = omega (arith, is_fit.table.counts.lines_most, w.lines); early = λ ℓ l. omega (arith, is_fit.gate.lines_past ℓ l, is_fit.early) }

    module _ (r : Report) (room : ℕ) {n : ℕ} (later : n ≡ first_met (report_checks p.clock p.table.lines (view_port p).gate.line_ticks r)) where
      by_parts : report_refusal (view_port_table p) (view_port p) r room ≡ first_refusal n (first_met (room_check frames room ∷ []))
      unfolding view_table view_port
      by_parts = refusal_fit (view_port_table p) (view_port p) r room good ∙ rw (← later, ← frames_are)

      pub refused : (n ≡ 0 → ⊥) → n ≡ report_refusal (view_port_table p) (view_port p) r room
      unfolding first_refusal
      refused z = sym (by_parts ∙ go n z)
        where
          go : (m : ℕ) → (m ≡ 0 → ⊥) → first_refusal m (first_met (room_check frames room ∷ [])) ≡ m
          go zero y = absurd (y refl)
          go (suc m) y = refl

      pub last : n ≡ 0 → {m : ℕ} → m ≡ first_met (room_check frames room ∷ []) → m ≡ report_refusal (view_port_table p) (view_port p) r room
      unfolding first_refusal
      last z e = e ∙ sym (by_parts ∙ rw z)
