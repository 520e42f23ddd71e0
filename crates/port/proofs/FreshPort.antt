-- The fresh port: its view, and the blank one.
use mathlib.Core.Path.{◌≡◌, refl, ap}
use mathlib.Core.List.{List, [], ◌∷◌}
use Prim.Native.Nat.{ℕ, zero, suc, ◌≤◌}
use lib.ListN.{replicate}
use Rattle.model.specs.Basics.{entries}
use Rattle.model.specs.Table.{table_refusal}
use Rattle.model.specs.Port.{fresh}
use Rattle.table.specs.declared.Table.{Table as TableRecord}
use Rattle.table.specs.View.{view_table}
use Rattle.port_policing.specs.Full.{full_accounts}
use Rattle.port_policing.proofs.Full.{lines_at_rest, accounts_at_rest}
use Rattle.model.specs.Machine.{Frame}
use Rattle.port_scheduler.specs.View.{view_queue, view_queues, view_marks}
use Rattle.port.specs.declared.Port.{Port as PortRecord}
use Rattle.port.specs.View.{view_port, empty_queue, resting_port, fresh_port}
use Rattle.std.specs.Prelude.{Some, None}
use Rattle.port.specs.Promised.{fresh_or, record_fresh}
use Rattle.port.specs.Resting.{resting_with}
use Rattle.table.proofs.Shape.{count_shown}
use Rattle.counters.proofs.Rows.{rows_none}
use Rattle.table.proofs.PassingRecord.{counts_pass}

-- ---- what fresh gives
pub fresh_refused : (t : TableRecord) {n : ℕ} → n ≡ table_refusal (view_table t) → (n ≡ 0 → ⊥) → record { refused = n; port = None } ≡ record_fresh t
unfolding fresh_or
fresh_refused t {n} e z = rw (← e) (go n z)
  where
    go : (k : ℕ) → (k ≡ 0 → ⊥) → record { refused = k; port = None } ≡ fresh_or k t
    go zero x = absurd (x refl)
    go (suc k) x = refl

pub fresh_given : (t : TableRecord) {b : PortRecord} → table_refusal (view_table t) ≡ 0 → b ≡ resting_with t (full_accounts t) → record { refused = 0; port = Some b } ≡ record_fresh t
unfolding fresh_or fresh_port resting_port
fresh_given t e q = rw (e, q)

-- ---- its view
resting_queues : (n : ℕ) → view_queues (replicate n empty_queue) ≡ replicate n []
unfolding view_queues view_queue entries
resting_queues zero = refl
resting_queues (suc n) = ap (λ (l : List (List Frame)). [] ∷ l) (resting_queues n)

resting_marks : (n : ℕ) → view_marks (replicate n empty_queue) ≡ replicate n 0
resting_marks zero = refl
resting_marks (suc n) = ap (λ (l : List ℕ). 0 ∷ l) (resting_marks n)

-- the fresh record is the model's fresh port
pub fresh_shown : (t : TableRecord) → table_refusal (view_table t) ≡ 0 → view_port (fresh_port t) ≡ fresh (view_table t)
unfolding view_port fresh_port resting_port fresh view_table
fresh_shown t e =
    let few : t.count ≤ 256 = (counts_pass t e).links_most in
    rw (resting_queues 8, resting_marks 8, lines_at_rest t.lines, accounts_at_rest t few, rows_none 4 0 t.count 1024, count_shown t)
