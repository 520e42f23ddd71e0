-- What the calls promise.
use Rattle.std.specs.Prelude.{◌≡◌, Bool, true, false, Option, Some, None, Result, Ok, Err, IfOk, is_some, List, ℕ, zero, suc, ◌*◌, drop}
use Rattle.model.specs.Table.{table_refusal}
use Rattle.model.specs.Report.{Report, wait, frame, Answer, refusal, Stepped, step}
use Rattle.refusal.specs.declared.Refusal.{Refusal}
use Rattle.refusal.specs.Numbers.{number_of, number_or_0}
use Rattle.port_refusals.specs.Verdicts.{verdict_or_0}
use Rattle.table.specs.declared.Table.{Table as TableRecord}
use Rattle.table.specs.View.{view_table}
use Rattle.port.specs.declared.Port.{Port as PortRecord}
use Rattle.port.specs.declared.Accepted.{Accepted as AcceptedRecord}
use Rattle.port.specs.declared.Answer.{Answer as AnswerRecord}
use Rattle.port.specs.View.{view_port_table, view_port, fresh_port}

-- ---- the fresh port

-- 0 and the port, or the number of the refusal and none
pub record Fresh : Type 0 where
  pub refused : ℕ
  pub port : Option PortRecord

abbrev pub view_fresh : Result PortRecord Refusal → Fresh
view_fresh (Ok p) = record { refused = 0; port = Some p }
view_fresh (Err r) = record { refused = number_of r; port = None }

-- "fresh port: 3 to 6", 23 among them
unfoldable pub fresh_or : ℕ → TableRecord → Fresh
fresh_or zero t = record { refused = 0; port = Some (fresh_port t) }
fresh_or (suc n) t = record { refused = suc n; port = None }

abbrev pub record_fresh : TableRecord → Fresh
record_fresh t = fresh_or (table_refusal (view_table t)) t

-- ---- reports

-- the numbers of an outcome: "verdict (0 for a wait), frames freed, bytes freed", all 0 with a refusal
abbrev pub view_outcome : Result AcceptedRecord Refusal → Answer
view_outcome (Ok a) = record { refused = 0; verdict = verdict_or_0 a.verdict; frames = a.frames; bytes = a.bytes }
view_outcome (Err r) = refusal (number_of r)

-- a frame has a verdict, a wait has none
abbrev pub is_frame : Report → Bool
is_frame (wait time) = false
is_frame (frame time line number len) = true

-- what the model makes of a report to a port record that is lent a list
abbrev pub step_from : PortRecord → Report → List ℕ → Stepped
step_from p r list = step (view_port_table p) (view_port p) (record { report = r; list = list })

-- the answer, the port and the whole list afterwards are the model's; a refusal hands back the same record
pub record Answered (p : PortRecord) (r : Report) (before after : List ℕ) (a : AnswerRecord) : Type 0 where
  pub answer : view_outcome a.outcome ≡ (step_from p r before).answer
  pub judged : IfOk a.outcome (λ (x : AcceptedRecord). is_some x.verdict ≡ is_frame r)
  pub port : view_port a.port ≡ (step_from p r before).port
  pub list : after ≡ (step_from p r before).list
  pub same : (number_or_0 a.outcome ≡ 0 → ⊥) → a.port ≡ p
  -- the table stays, and so does what stands behind its counts
  pub table : a.port.table ≡ p.table
  pub lines_behind : drop p.table.lines a.port.gate.line_ticks ≡ drop p.table.lines p.gate.line_ticks
  pub accounts_behind : drop p.table.count a.port.gate.accounts ≡ drop p.table.count p.gate.accounts
  pub counts_behind : drop (4 * p.table.count) a.port.counts ≡ drop (4 * p.table.count) p.counts
