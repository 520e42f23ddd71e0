-- A table that passes its checks has a fresh port.
use mathlib.Core.Path.{◌≡◌, ap}
use Rattle.std.specs.Prelude.{Err}
use Rattle.model.specs.Table.{table_refusal}
use Rattle.refusal.specs.declared.Refusal.{Refusal}
use Rattle.refusal.proofs.Numbers.{number_not_0}
use Rattle.table.specs.declared.Table.{Table as TableRecord}
use Rattle.table.specs.View.{view_table}
use Rattle.port.specs.Promised.{Fresh, view_fresh, fresh_or, record_fresh}

pub not_refused : (t : TableRecord) (r : Refusal) → table_refusal (view_table t) ≡ 0 → view_fresh (Err r) ≡ record_fresh t → ⊥
unfolding fresh_or
not_refused t r z e = number_not_0 r (rw z at (ap (λ (a : Fresh). a.refused) e))
