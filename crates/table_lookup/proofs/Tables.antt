-- A table record that passes: its links have its numbers, which rise, so that a lookup may search them.
use mathlib.Core.Path.{◌≡◌, ap}
use mathlib.Core.List.{List}
use Prim.Native.Nat.{ℕ, ◌≤◌}
use native.Mathlib.Omega.{arith}
use lib.ListN.{length}
use Rattle.model.specs.Link.{VirtualLink}
use Rattle.model.specs.Table.{table_refusal}
use Rattle.model.proofs.Gate.{Rising as LinksRise}
use Rattle.model.proofs.Passing.{is_passing}
use Rattle.table.specs.declared.Table.{Table as TableRecord}
use Rattle.table.specs.View.{view_links, view_table}
use Rattle.table.proofs.Shape.{count_shown}
use Rattle.table.proofs.PassingRecord.{counts_pass, entry_is}
use Rattle.table_lookup.specs.Places.{Rising, Named}

pub named_rise : (numbers : List ℕ) (n : ℕ) (links : List VirtualLink) → Named numbers n links → LinksRise links → Rising numbers n
named_rise numbers n links k rise i j l m =
    let c : length links ≡ n = k.count in
    rw (← k.number i (omega arith), ← k.number j m) (rise i j l (omega arith))

module _ (t : TableRecord) (e : table_refusal (view_table t) ≡ 0) where
  pub links_named : Named t.numbers t.count (view_links t)
  links_named = record { count = count_shown t; number = λ i l. ap (λ (v : VirtualLink). v.number) (entry_is t e i l) }

  pub searchable : length t.numbers ≡ 256 → (t.count ≤ length t.numbers) × Rising t.numbers t.count
  unfolding view_table
  searchable n =
      let c = counts_pass t e in
      (omega (arith, c.links_most), named_rise t.numbers t.count (view_links t) links_named (is_passing (view_table t) e).rising)
