-- The view of a record that was made of a table is that table; and the record of no table.
use mathlib.Core.Path.{◌≡◌, refl, ap}
use mathlib.Core.List.{List, [], ◌∷◌, map}
use Prim.Native.Nat.{ℕ, zero, suc, ◌≤◌}
use native.Mathlib.Omega.{arith}
use lib.ListN.{length, replicate}
use Rattle.model.specs.Basics.{entries}
use Rattle.model.specs.Link.{VirtualLink, blank_link}
use Rattle.model.specs.Table.{Table, blank_table}
use Rattle.model.proofs.Entries.{entries_blank}
use Rattle.table.specs.declared.VirtualLink.{VirtualLink as LinkFields}
use Rattle.table.specs.declared.Table.{Table as TableRecord}
use Rattle.table.specs.View.{record_link, blank_fields, paired, view_links, view_table, record_table}

joined_blank : (n : ℕ) → paired (entries 0 n []) (entries blank_fields n []) ≡ entries blank_link n []
unfolding paired entries
joined_blank zero = refl
joined_blank (suc n) = ap (λ l. blank_link ∷ l) (joined_blank n)

joined_entries : (n : ℕ) (links : List VirtualLink) →
    paired (entries 0 n (map (λ (v : VirtualLink). v.number) links)) (entries blank_fields n (map record_link links)) ≡ entries blank_link n links
unfolding paired entries
joined_entries zero links = refl
joined_entries (suc n) [] = ap (λ l. blank_link ∷ l) (joined_blank n)
joined_entries (suc n) (v ∷ links) = ap (λ l. v ∷ l) (joined_entries n links)

entries_whole : (n : ℕ) (links : List VirtualLink) → length links ≤ n → entries blank_link (length links) (entries blank_link n links) ≡ links
unfolding entries
entries_whole n [] h = refl
entries_whole zero (v ∷ links) h = absurd (omega arith)
entries_whole (suc n) (v ∷ links) h = ap (λ l. v ∷ l) (entries_whole n links (omega arith))

-- the way back and forth
pub record_shown : (t : Table) → length t.links ≤ 256 → view_table (record_table t) ≡ t
unfolding view_table record_table view_links
record_shown t h = rw (joined_entries 256 t.links, entries_whole 256 t.links h)

-- "no table" shows as the model's
pub blank_shown : view_table (record_table blank_table) ≡ blank_table
blank_shown = record_shown blank_table (omega arith)

-- ---- no table
pub blank_made : (blank : LinkFields) → blank ≡ blank_fields →
    ◌≡◌ {A = TableRecord} (record { lines = 0; count = 0; numbers = replicate 256 0; links = replicate 256 blank; sizes = replicate 8 0 }) (record_table blank_table)
unfolding record_table
blank_made blank e = rw (e, entries_blank {A = ℕ} 0 256, entries_blank blank_fields 256)
