-- The statements of specs/, each under its name.
use mathlib.Core.Path.{◌≡◌, ap, ◌∙◌}
use Rattle.std.specs.Prelude.{Ok}
use Rattle.model.specs.Sums.{sums}
use Rattle.table.specs.declared.Table.{Table as TableRecord}
use Rattle.table.specs.View.{view_table}
use Rattle.bounds.specs.Answer.{sizing_of}
use Rattle.bounds.proofs.Answered.{Answers, sized_answer}
use Rattle.port.specs.View.{view_port}
use Rattle.port_batch.proofs.Chained.{Ran, chain_ran}
use Rattle.port_batch.proofs.Theorems.{demand_three_of_calls, counts_of_calls}
use Rattle.counter_sums.specs.View.{answered, padded}
use Rattle.counter_sums.proofs.Answered.{given}
use Rattle.guarantee.specs.Guarantee.{SizingHolds, TotalHolds}
use Rattle.guarantee.proofs.Answered.{demand_by}

pub sizing_holds : SizingHolds
sizing_holds t b e p log c =
    let k : Answers (view_table t) (sizing_of (Ok b)) = sized_answer t b e in
    demand_by k (demand_three_of_calls t k.passes p log c)

pub total_holds : TotalHolds
total_holds t p log c r e =
    let k : Ran t p log = chain_ran t p log c in
    let q : answered r ≡ padded (sums (view_table t) (view_port p)) = e ∙ ap (λ (u : TableRecord). padded (sums (view_table u) (view_port p))) k.table in
    given r (q ∙ ap padded (counts_of_calls t p log c).adds_up)
