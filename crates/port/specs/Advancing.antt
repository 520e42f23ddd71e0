-- A report up to its verdict.
use Rattle.std.specs.Prelude.{◌≡◌, List, ℕ, length}
use Rattle.model.specs.Report.{Report, wait, tick_of, report_refusal}
use Rattle.port.specs.declared.Port.{Port as PortRecord}
use Rattle.port.specs.declared.Answer.{Answer as AnswerRecord}
use Rattle.refusal.specs.Numbers.{number_or_0}
use Rattle.port.specs.View.{view_port_table, view_port}
use Rattle.port.specs.Promised.{Answered}

-- the port at a tick: what a wait gives that is not refused
pub record Reached (p : PortRecord) (time : ℕ) (before after : List ℕ) (a : AnswerRecord) : Type 0 where
  pub accepted : number_or_0 a.outcome ≡ 0
  pub waited : Answered p (wait time) before after a
  pub clock : a.port.clock ≡ time
  pub queues : length a.port.queues ≡ 8
  pub gate : a.port.gate ≡ p.gate
  pub counts : a.port.counts ≡ p.counts

-- refused, and answered so; or, what every refusal having been tested, at its tick
pub record Begun (p : PortRecord) (r : Report) (before after : List ℕ) (a : AnswerRecord) : Type 0 where
  pub refused : number_or_0 a.outcome ≡ report_refusal (view_port_table p) (view_port p) r (length before)
  pub answered : (number_or_0 a.outcome ≡ 0 → ⊥) → Answered p r before after a
  pub reached : number_or_0 a.outcome ≡ 0 → Reached p (tick_of r) before after a
