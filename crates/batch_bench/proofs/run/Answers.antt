use Rattle.std.proofs.Common.{◌≡◌, ◌∙◌, sym, ap, Err}
use Rattle.model.specs.Table.{table_refusal}
use Rattle.model.specs.TableFile.{read_table}
use Rattle.model.proofs.FileRead.{read_passes}
use Rattle.refusal.specs.declared.Refusal.{Refusal}
use Rattle.refusal.specs.Numbers.{number_of}
use Rattle.refusal.proofs.Numbers.{passed_on}
use Rattle.table.specs.declared.Table.{Table as TableRecord}
use Rattle.table.specs.View.{view_table}
use Rattle.table_file.specs.Answers.{Reading}
use Rattle.table_file.proofs.Back.{read_shown}
use Rattle.port.specs.Promised.{Fresh, view_fresh, record_fresh, fresh_or}
use Rattle.batch_bench.proofs.run.Goals as goal

-- a table that was read has a fresh port
not_refused : (t : TableRecord) (r : Refusal) → view_fresh (Err r) ≡ record_fresh t → table_refusal (view_table t) ≡ 0 → number_of r ≡ 0
unfolding fresh_or
not_refused t r e z = ap (λ (x : Fresh). x.refused) (e ∙ ap (λ n. fresh_or n t) z)

pub returns-in_err-t : goal.returns-in_err-t
returns-in_err-t c = rw (passed_on _ _ c.from_residual.ensures.1) (ap (λ (x : Reading). x.refused) c.in_err-t.ensures)

pub returns-in_err-port : goal.returns-in_err-port
returns-in_err-port c =
    let file = c.args.file.now in
    let none : 0 ≡ (read_table file).refused = ap (λ (x : Reading). x.refused) c.in_ok-t.ensures in
    let same : view_table c.in_ok-t.t ≡ (read_table file).table = ap (λ (x : Reading). view_table x.table) c.in_ok-t.ensures ∙ read_shown file in
    rw (passed_on _ _ c.from_residual-in_err-port.ensures.1) (not_refused c.in_ok-t.t _ c.in_err-port.ensures (ap table_refusal same ∙ read_passes file (sym none)) ∙ none)

pub returns : goal.returns
returns c = ap (λ (x : Reading). x.refused) c.in_ok-t.ensures
