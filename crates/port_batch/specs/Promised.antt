-- What the batch promises.
use Rattle.std.specs.Prelude.{◌≡◌, true, List, ◌∷◌, [], ℕ, zero, suc, ◌*◌, drop, Result, Ok, Err}
use Rattle.model.specs.Machine.{frames_held}
use Rattle.model.specs.Fitness.{fit}
use Rattle.model.specs.Batch.{reports_in, Batched, batch, BatchOutcome, answer_batch, batch_or}
use Rattle.refusal.specs.declared.Refusal.{Refusal}
use Rattle.refusal.specs.Numbers.{number_or_0}
use Rattle.port_scheduler.specs.View.{view_queues}
use Rattle.port.specs.declared.Port.{Port as PortRecord}
use Rattle.port.specs.View.{view_port_table, view_port}
use Rattle.flat_batch.specs.Promised.{AllRefused}
use Rattle.port_batch.specs.declared.Batched.{Batched as BatchedRecord}

-- the model's batch of reports in numbers to a port record, lent that list; and all that the call gives
abbrev pub batch_from : PortRecord → List ℕ → List ℕ → Batched
batch_from p reports list = batch (view_port_table p) (view_port p) (reports_in reports) list

abbrev pub outcome_from : PortRecord → List ℕ → List ℕ → List ℕ → BatchOutcome
outcome_from p reports answers list = answer_batch (view_port_table p) (view_port p) reports answers list

-- the departures of an outcome, none where it is a refusal
abbrev pub departed : Result ℕ Refusal → ℕ
departed (Ok n) = n
departed (Err r) = 0

-- refusal, port, departures and both lists are the model's
pub record Gives (p : PortRecord) (o : BatchOutcome) (answers list : List ℕ) (r : BatchedRecord) : Type 0 where
  pub refused : number_or_0 r.outcome ≡ o.refused
  pub departures : departed r.outcome ≡ o.departures
  pub port : view_port r.port ≡ o.port
  pub answers_are : answers ≡ o.answers
  pub list_is : list ≡ o.list
  -- the table stays, and so does what stands behind its counts
  pub table : r.port.table ≡ p.table
  pub lines_behind : drop p.table.lines r.port.gate.line_ticks ≡ drop p.table.lines p.gate.line_ticks
  pub accounts_behind : drop p.table.count r.port.gate.accounts ≡ drop p.table.count p.gate.accounts
  pub counts_behind : drop (4 * p.table.count) r.port.counts ≡ drop (4 * p.table.count) p.counts

-- and where the call is refused, or each of its reports, the record is the very one that was handed in
pub record Batches (p : PortRecord) (reports answers answers' list list' : List ℕ) (r : BatchedRecord) : Type 0 where
  pub gives : Gives p (outcome_from p reports answers list) answers' list' r
  pub same : (number_or_0 r.outcome ≡ 0 → ⊥) → r.port ≡ p
  pub same_port : AllRefused (batch_from p reports list).entries → r.port ≡ p

-- what is asked once the call is not refused and the record is fit: room for the answers, and the number of frames that it holds
pub record Fit (p : PortRecord) (frames : ℕ) : Type 0 where
  pub fits : fit (view_port_table p) (view_port p) ≡ true
  pub frames_are : frames ≡ frames_held (view_queues p.queues)

pub record Answered (p : PortRecord) (reports answers answers' list list' : List ℕ) (r : BatchedRecord) : Type 0 where
  pub gives : Gives p (batch_or 0 (view_port_table p) (view_port p) reports answers list) answers' list' r
  pub same_port : AllRefused (batch_from p reports list).entries → r.port ≡ p

-- refusal 10 for each report
unfoldable pub unfit : ℕ → List ℕ
unfit zero = []
unfit (suc n) = 10 ∷ 0 ∷ 0 ∷ unfit n
