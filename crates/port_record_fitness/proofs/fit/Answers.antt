use mathlib.Core.Path.{◌≡◌, sym, ap, ◌∙◌}
use mathlib.Core.Bool.{Bool, true}
use Prim.Native.Nat.{ℕ}
use native.Mathlib.Omega.{arith}
use Rattle.model.specs.Table.{table_refusal}
use Rattle.table.specs.declared.Table.{Table}
use Rattle.table.specs.View.{view_table}
use Rattle.table.proofs.PassingRecord.{counts_pass}
use Rattle.port_record_fitness.specs.Fitness.{table_fits}
use Rattle.port_record_fitness.proofs.Conditions.{table_passes, is_unfit, queues_unfit, by_last}
use Rattle.port_record_fitness.proofs.fit.Goals as goal

-- the test of table and clock
tested : (t : Table) (clock : ℕ) {n : ℕ} {b : Bool} → n ≡ table_refusal (view_table t) → b ≡ table_fits n clock → table_fits (table_refusal (view_table t)) clock ≡ b
tested t clock d e = sym (e ∙ ap (λ (k : ℕ). table_fits k clock) d)

-- and what it tells of the table
passes : (t : Table) (clock : ℕ) {n : ℕ} {b : Bool} → n ≡ table_refusal (view_table t) → b ≡ table_fits n clock → b ≡ true → table_refusal (view_table t) ≡ 0
passes t clock d e b = table_passes (table_refusal (view_table t)) clock (tested t clock d e ∙ b)

pub returns-then-not-table_fits : goal.returns-then-not-table_fits
returns-then-not-table_fits c =
    let a = c.args in
    is_unfit a.t a.clock a.queues a.sender a.gate a.counts.now a.unknown 0 (tested a.t a.clock c.check.ensures c.table_fits.ensures ∙ c.if-not-table_fits.true)

pub fit-requires : goal.fit-requires
fit-requires c = omega (arith, c.requires, (counts_pass c.args.t (passes c.args.t c.args.clock c.check.ensures c.table_fits.ensures c.if-not-table_fits.false)).links_most)

pub returns-then-not-fit : goal.returns-then-not-fit
returns-then-not-fit c = let a = c.args in is_unfit a.t a.clock a.queues a.sender a.gate a.counts.now a.unknown 1 (sym c.fit.ensures ∙ c.if-not-fit.true)

pub queues_fit-requires : goal.queues_fit-requires
queues_fit-requires c = passes c.args.t c.args.clock c.check.ensures c.table_fits.ensures c.if-not-table_fits.false

pub returns-in_err-frames : goal.returns-in_err-frames
returns-in_err-frames c = let a = c.args in rw c.from_residual.ensures (queues_unfit a.t a.clock a.queues a.sender a.gate a.counts.now a.unknown c.in_err-frames.ensures)

pub lines_fit-requires : goal.lines_fit-requires
lines_fit-requires c = (counts_pass c.args.t (passes c.args.t c.args.clock c.check.ensures c.table_fits.ensures c.if-not-table_fits.false)).lines_most

pub returns-then-not-lines_fit : goal.returns-then-not-lines_fit
returns-then-not-lines_fit c = let a = c.args in is_unfit a.t a.clock a.queues a.sender a.gate a.counts.now a.unknown 3 (sym c.lines_fit.ensures ∙ c.if-not-lines_fit.true)

pub accounts_fit-requires : goal.accounts_fit-requires
accounts_fit-requires c = (counts_pass c.args.t (passes c.args.t c.args.clock c.check.ensures c.table_fits.ensures c.if-not-table_fits.false)).links_most

pub returns : goal.returns
returns c =
    let a = c.args in
    c.then_some.ensures
    ∙ by_last a.t a.clock a.queues a.sender a.gate a.counts.now a.unknown c.in_ok-frames.ensures
    (tested a.t a.clock c.check.ensures c.table_fits.ensures ∙ c.if-not-table_fits.false)
    (sym c.fit.ensures ∙ c.if-not-fit.false)
    (sym c.lines_fit.ensures ∙ c.if-not-lines_fit.false)
    c.accounts_fit.result (sym c.accounts_fit.ensures)
