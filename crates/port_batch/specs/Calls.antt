-- Demand 3 and the counts for the real calls: what a user of `fresh`, `frame`, `wait` and `batch` gets.
use Rattle.std.specs.Prelude.{◌≡◌, List, [], ◌∷◌, ℕ, Result, Ok}
use Rattle.model.specs.Bounds.{bounds_refusal}
use Rattle.model.specs.Report.{Report, Answer}
use Rattle.model.specs.Run.{Entry, Demand3}
use Rattle.model.specs.Batch.{logged}
use Rattle.model.specs.Promises.{CountsStand}
use Rattle.refusal.specs.declared.Refusal.{Refusal}
use Rattle.refusal.specs.Numbers.{number_or_0}
use Rattle.table.specs.declared.Table.{Table as TableRecord}
use Rattle.table.specs.View.{view_table}
use Rattle.port.specs.declared.Port.{Port as PortRecord}
use Rattle.port.specs.declared.Answer.{Answer as AnswerRecord}
use Rattle.port.specs.View.{view_port}
use Rattle.port.specs.Promised.{view_fresh, record_fresh, view_outcome, Answered}
use Rattle.port_batch.specs.declared.Batched.{Batched as BatchedRecord}
use Rattle.port_batch.specs.Promised.{batch_from, Batches}

-- the numbers of an answer record
abbrev pub view_answer : AnswerRecord → Answer
view_answer a = view_outcome a.outcome

-- a chain of calls on a table, with the port record handed back last and the log, the latest first
pub data Chain (t : TableRecord) : PortRecord → List Entry → Type 0 where
  -- `fresh` gave a port
  begins : {f : Result PortRecord Refusal} {p : PortRecord} → view_fresh f ≡ record_fresh t → f ≡ Ok p → Chain t p []
  -- `frame` or `wait`, of the port that the call before handed back, answered as its contract says; the lent list held
  -- anything before, and its numbers afterwards
  goes_on : {p : PortRecord} {log : List Entry} {a : AnswerRecord} (r : Report) (before after : List ℕ) → Chain t p log → Answered p r before after a
      → Chain t a.port (record { report = r; answer = view_answer a; list = after } ∷ log)
  -- `batch`, of the port that the call before handed back, answered as its contract says: each of its reports with the answer that stands
  -- in the answer list, and the part of the departure list that it was lent
  batches : {p : PortRecord} {log : List Entry} {b : BatchedRecord} (reports answers answers' list list' : List ℕ) → Chain t p log
      → Batches p reports answers answers' list list' b → number_or_0 b.outcome ≡ 0 → Chain t b.port (logged (batch_from p reports list).entries log)
  -- a batch that was refused leaves port and log
  batch_refused : {p : PortRecord} {log : List Entry} {b : BatchedRecord} (reports answers answers' list list' : List ℕ) → Chain t p log
      → Batches p reports answers answers' list list' b → (number_or_0 b.outcome ≡ 0 → ⊥) → Chain t b.port log

-- demand 3 of every chain whose table has bounds
abbrev pub DemandThreeOfCalls : Type 0
DemandThreeOfCalls = (t : TableRecord) → bounds_refusal (view_table t) ≡ 0 → (p : PortRecord) (log : List Entry) → Chain t p log
    → Demand3 (view_table t) (record { port = view_port p; log = log })

-- the counts of every chain, whether its table has bounds or not: "each count is the number of accepted frame reports it stands for, none
-- reaches 2^52, and the grand total is the number of all of them"
abbrev pub CountsOfCalls : Type 0
CountsOfCalls = (t : TableRecord) (p : PortRecord) (log : List Entry) → Chain t p log → CountsStand (view_table t) (record { port = view_port p; log = log })
