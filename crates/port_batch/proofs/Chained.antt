-- A chain of calls is a run of the model.
use Rattle.std.specs.Prelude.{Result, Ok, Some}
use mathlib.Core.Path.{◌≡◌, refl, sym, ap, ◌∙◌}
use mathlib.Core.List.{List, [], ◌∷◌}
use Prim.Native.Nat.{ℕ, zero, suc}
use native.Mathlib.Omega.{arith}
use lib.ListN.{length}
use Rattle.model.specs.Table.{table_refusal}
use Rattle.model.specs.Port.{Port}
use Rattle.model.specs.Report.{Report, Call}
use Rattle.model.specs.Run.{Entry, run}
use Rattle.model.specs.Batch.{reports_in, batch_refusal, batch_or, answer_batch, logged}
use Rattle.model.proofs.Batches.{calls_of}
use Rattle.model.proofs.Theorems.{demand_three, counts_add_up}
use Rattle.refusal.specs.declared.Refusal.{Refusal}
use Rattle.refusal.specs.Numbers.{number_or_0}
use Rattle.table.specs.declared.Table.{Table as TableRecord}
use Rattle.table.specs.View.{view_table}
use Rattle.port.specs.declared.Port.{Port as PortRecord}
use Rattle.port.specs.declared.Answer.{Answer as AnswerRecord}
use Rattle.port.specs.View.{view_port_table, view_port, fresh_port, resting_port}
use Rattle.port.proofs.FreshPort.{fresh_shown}
use Rattle.port.specs.Promised.{Fresh, view_fresh, fresh_or, record_fresh, Answered}
use Rattle.port_batch.specs.declared.Batched.{Batched as BatchedRecord}
use Rattle.port_batch.specs.Promised.{batch_from, outcome_from, Batches}
use Rattle.port_batch.specs.Calls.{view_answer, Chain, begins, goes_on, batches, batch_refused, DemandThreeOfCalls, CountsOfCalls}

-- the calls that a chain made; its table passes
pub record Ran (t : TableRecord) (p : PortRecord) (log : List Entry) : Type 0 where
  pub calls : List Call
  pub is : run (view_table t) calls ≡ record { port = view_port p; log = log }
  pub table : p.table ≡ t
  pub passes : table_refusal (view_table t) ≡ 0

fresh_ran : (t : TableRecord) (f : Result PortRecord Refusal) (p : PortRecord) → view_fresh f ≡ record_fresh t → f ≡ Ok p → Ran t p []
unfolding fresh_or run fresh_port resting_port
fresh_ran t f p e z = go (table_refusal (view_table t)) refl (rw z at e)
  where
    go : (n : ℕ) → table_refusal (view_table t) ≡ n → view_fresh (Ok p) ≡ fresh_or n t → Ran t p []
    go zero q x =
        let same : p ≡ fresh_port t = let y : Some p ≡ Some (fresh_port t) = ap (λ (g : Fresh). g.port) x in cc in
        rw same (record { calls = []; is = ap (λ (s : Port). record { port = s; log = [] }) (sym (fresh_shown t q)); table = refl; passes = q })
    go (suc n) q x = absurd (let y : 0 ≡ suc n = ap (λ (g : Fresh). g.refused) x in omega arith)

call_ran : (t : TableRecord) (p : PortRecord) (log : List Entry) (a : AnswerRecord) (r : Report) (before after : List ℕ) → Ran t p log → Answered p r before after a
    → Ran t a.port (record { report = r; answer = view_answer a; list = after } ∷ log)
unfolding run
call_ran t p log a r before after k x = record { calls = record { report = r; list = before } ∷ k.calls; is = rw (k.is, ← k.table, x.answer, x.port, x.list); table = x.table ∙ k.table; passes = k.passes }

-- a batch that is not refused
not_refused : (p : PortRecord) (reports answers list : List ℕ) → (outcome_from p reports answers list).refused ≡ 0 →
    (outcome_from p reports answers list).port ≡ (batch_from p reports list).port
unfolding answer_batch batch_or
not_refused p reports answers list e = go (batch_refusal reports (length answers)) e
  where
    go : (n : ℕ) → (batch_or n (view_port_table p) (view_port p) reports answers list).refused ≡ 0 → (batch_or n (view_port_table p) (view_port p) reports answers list).port ≡ (batch_from p reports list).port
    go zero x = refl
    go (suc n) x = absurd (let y : ◌≡◌ {A = ℕ} (suc n) 0 = x in omega arith)

batch_ran : (t : TableRecord) (p : PortRecord) (log : List Entry) (b : BatchedRecord) (reports answers answers' list list' : List ℕ) → Ran t p log →
    Batches p reports answers answers' list list' b → number_or_0 b.outcome ≡ 0 → Ran t b.port (logged (batch_from p reports list).entries log)
batch_ran t p log b reports answers answers' list list' k x z =
    let m = calls_of (view_table t) (reports_in reports) list k.calls in
    record {
      calls = m.0;
      is = m.1 ∙ rw (k.is, ← k.table, x.gives.port, not_refused p reports answers list (sym x.gives.refused ∙ z));
      table = x.gives.table ∙ k.table;
      passes = k.passes;
    }

pub chain_ran : (t : TableRecord) (p : PortRecord) (log : List Entry) → Chain t p log → Ran t p log
chain_ran t p log (begins {f = f} e z) = fresh_ran t f p e z
chain_ran t q log' (goes_on {p = p} {log = log} {a = a} r before after c x) = call_ran t p log a r before after (chain_ran t p log c) x
chain_ran t q log' (batches {p = p} {log = log} {b = b} reports answers answers' list list' c x z) = batch_ran t p log b reports answers answers' list list' (chain_ran t p log c) x z
chain_ran t q log' (batch_refused {p = p} {log = log} {b = b} reports answers answers' list list' c x z) = rw (x.same z) (chain_ran t p log c)

pub demand_of_calls : DemandThreeOfCalls
demand_of_calls t e p log c = let k = chain_ran t p log c in rw k.is at (demand_three (view_table t) e k.calls)

pub counts_of_calls : CountsOfCalls
counts_of_calls t p log c = let k = chain_ran t p log c in rw k.is at (counts_add_up (view_table t) k.passes k.calls)
