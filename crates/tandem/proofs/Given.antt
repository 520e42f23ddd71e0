-- What the call gives: its refusal, its table row by row, and the record of that table with sizes added.
use mathlib.Core.Path.{◌≡◌, refl}
use mathlib.Core.List.{List, [], ◌∷◌, map}
use Prim.Native.Nat.{ℕ, zero, suc, ◌≤◌, ◌<◌}
use native.Mathlib.Omega.{arith}
use lib.ListN.{length, replicate}
use Rattle.model.specs.Link.{VirtualLink, link_at}
use Rattle.model.specs.Table.{Table, blank_table}
use Rattle.model.specs.NextTable.{next_link, next_links, next_table, next_refusal, next_or, next}
use Rattle.table.specs.declared.Table.{Table as TableRecord}
use Rattle.table.specs.View.{view_links, view_table, record_table}
use Rattle.table.proofs.Shown.{record_shown}

pub row_at : (t : Table) (line : ℕ) (links : List VirtualLink) (i : ℕ) → i < length links → link_at (map (next_link t line) links) i ≡ next_link t line (link_at links i)
row_at t line [] i l = absurd (omega arith)
row_at t line (v ∷ links) zero l = refl
row_at t line (v ∷ links) (suc i) l = row_at t line links i (omega arith)

module _ (t : Table) (line lines : ℕ) where
  pub next_stops : (n : ℕ) → (n ≡ 0 → ⊥) → next_or n t line lines ≡ record { refused = n; table = blank_table }
  unfolding next_or
  next_stops zero z = absurd (z refl)
  next_stops (suc n) z = refl

  pub next_refused : (next t line lines).refused ≡ next_refusal t line lines
  unfolding next next_or
  next_refused = go (next_refusal t line lines)
    where
      go : (n : ℕ) → (next_or n t line lines).refused ≡ n
      go zero = refl
      go (suc n) = refl

  pub next_is : next_refusal t line lines ≡ 0 → next t line lines ≡ record { refused = 0; table = next_table t line lines (replicate 8 0) }
  unfolding next next_or
  next_is e = rw e

  pub sized_shown : (sizes : List ℕ) → length (next_links t line) ≤ 256 → (r : TableRecord) → r ≡ record_table (next_table t line lines (replicate 8 0))
      → view_table (record { lines = r.lines; count = r.count; numbers = r.numbers; links = r.links; sizes = sizes }) ≡ next_table t line lines sizes
  unfolding view_table view_links record_table
  sized_shown sizes few r e = rw e (record_shown (next_table t line lines sizes) few)
