-- Two chains of calls are two runs, and the record of the next table with sizes added is that table.
use mathlib.Core.Path.{◌≡◌, sym, ap, ◌∙◌}
use Prim.Native.Nat.{ℕ, ◌≤◌}
use lib.ListN.{length, length-map, replicate}
use Rattle.model.specs.Table.{Table, size_checks, table_refusal}
use Rattle.model.specs.Bounds.{bounds_refusal}
use Rattle.model.specs.Run.{History}
use Rattle.model.specs.NextTable.{next_link, next_links, next_table, next_refusal}
use Rattle.model.proofs.Checks.{first_none}
use Rattle.model.proofs.TableFacts.{sizes_unmet}
use Rattle.model.proofs.Holds.{has_bounds}
use Rattle.model.proofs.Passing.{is_passing}
use Rattle.table.specs.View.{view_table, record_table}
use Rattle.tandem.specs.Answer.{Next, record_next}
use Rattle.tandem.proofs.Given.{next_refused, next_is, sized_shown}
use Rattle.port_batch.proofs.Chained.{Ran, chain_ran}
use Rattle.two_ports.specs.Calls.{with_sizes, TwoPortsOfCalls, TwoPortsAmongOthersOfCalls}
use Rattle.two_ports.proofs.NextRows.{next_bounds}
use Rattle.two_ports.proofs.TwoPorts.{two_ports, two_ports_among_others}

pub two_ports_among_others_of_calls : TwoPortsAmongOthersOfCalls
two_ports_among_others_of_calls t u line b rows p q log onward c d ordered handed =
    let k : Ran t p log = chain_ran t p log c in
    let m : Ran u q onward = chain_ran u q onward d in
    let l = ap (λ (h : History). h.log) k.is in
    let o = ap (λ (h : History). h.log) m.is in
    rw o at (two_ports_among_others (view_table t) b line (view_table u) rows m.passes k.calls m.calls (rw o ordered) (rw (l, o) handed))

-- ---- the table that the call gave
rows_few : (t : Table) (line : ℕ) → bounds_refusal t ≡ 0 → length (next_links t line) ≤ 256
unfolding next_links
rows_few t line b = rw (length-map t.links (next_link t line)) (is_passing t (has_bounds t b).table).counts.links_most

pub two_ports_of_calls : TwoPortsOfCalls
two_ports_of_calls t line lines n e sizes p q log onward c d handed =
    let v = view_table t in
    let x : next_refusal v line lines ≡ 0 = sym (next_refused v line lines) ∙ sym (ap (λ (r : Next). r.refused) e) in
    let b : bounds_refusal v ≡ 0 = next_bounds v line lines x in
    let table : n ≡ record_table (next_table v line lines (replicate 8 0)) = ap (λ (r : Next). r.table) (e ∙ ap record_next (next_is v line lines x)) in
    let shown : view_table (with_sizes n sizes) ≡ next_table v line lines sizes = sized_shown v line lines sizes (rows_few v line b) n table in
    let k : Ran t p log = chain_ran t p log c in
    let m : Ran (with_sizes n sizes) q onward = chain_ran (with_sizes n sizes) q onward d in
    let passes : table_refusal (next_table v line lines sizes) ≡ 0 = rw shown at m.passes in
    let l = ap (λ (h : History). h.log) k.is in
    let o = ap (λ (h : History). h.log) (rw shown at m.is) in
    rw shown
    (rw o at
    (two_ports v line lines x sizes (first_none (size_checks sizes) (sizes_unmet (next_table v line lines sizes) passes)) k.calls m.calls (rw (l, o) handed)))
