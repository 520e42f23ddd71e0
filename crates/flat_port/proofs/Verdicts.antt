-- A frame that arrived, by the place of its number and the link there.
use Rattle.std.specs.Prelude.{Option, None, Some}
use Rattle.std.specs.Bool.{then_some}
use mathlib.Core.Path.{◌≡◌, refl, sym}
use mathlib.Core.Bool.{Bool, true, false}
use mathlib.Core.Option.{none, some}
use mathlib.Core.List.{List}
use Prim.Native.Nat.{ℕ, ◌<◌}
use native.Mathlib.Omega.{arith}
use lib.ListN.{length, get_or}
use Rattle.model.specs.Link.{bag_of, bag, link_at, place_of}
use Rattle.model.specs.Table.{size_of}
use Rattle.model.specs.Report.{admits, admitted}
use Rattle.table.specs.declared.VirtualLink.{VirtualLink as LinkFields}
use Rattle.table.specs.declared.Table.{Table as TableRecord}
use Rattle.table.specs.View.{view_link, blank_fields, view_links, view_table}
use Rattle.table.proofs.Shape.{count_shown}
use Rattle.table.proofs.PassingRecord.{counts_pass, entry_is}
use Rattle.table_lookup.specs.Places.{view_place, Found}
use Rattle.table_lookup.proofs.Tables.{links_named}
use Rattle.port_filter.proofs.Filtering.{nowhere, if_admits}
use Rattle.counters.specs.Promised.{Within}
use Rattle.port_policing.specs.declared.Account.{Account as AccountRecord}
use Rattle.flat_port.specs.declared.Lists.{Lists}
use Rattle.flat_port.specs.Promised.{Arrived}
use Rattle.flat_port.proofs.Judged.{Charges}

pub lines_shown : (t : TableRecord) → t.lines ≡ (view_table t).lines
unfolding view_table
lines_shown t = refl

pub size_shown : (t : TableRecord) (p : ℕ) {size : ℕ} → size ≡ get_or t.sizes p 0 → size ≡ size_of (view_table t) p
unfolding view_table
size_shown t p e = e

module _ (t : TableRecord) {l : Lists} {line len : ℕ} (k : Arrived (view_table t) l line len) (number : ℕ) {place : Option ℕ} (found : Found t.numbers t.count number place) where
  pub place_shown : view_place place ≡ place_of number (view_table t).links
  unfolding view_table
  place_shown = sym (found.place (view_links t) (links_named t k.table))

  pub within : Within (length (view_table t).links) place
  unfolding view_table
  within i q = rw count_shown (found.below i q)

  pub place_few : Within 256 place
  place_few i q = omega (arith, found.below i q, (counts_pass t k.table).links_most)

  pub unknown : place ≡ None → none ≡ admitted (view_table t) line len (place_of number (view_table t).links)
  unfolding view_table
  unknown q = (nowhere t k.table line number len found q).place

  module _ (i : ℕ) (q : place ≡ Some i) where
    abbrev link : LinkFields
    link = get_or t.links i blank_fields

    pub below : i < length (view_table t).links
    below = within i q

    pub link_is : link_at (view_table t).links i ≡ view_link (get_or t.numbers i 0) link
    unfolding view_table
    link_is = entry_is t k.table i (found.below i q)

    module _ (r : Bool) (e : (n : ℕ) → r ≡ admits (view_link n link) line len) where
      filter_is : view_place (then_some r i) ≡ admitted (view_table t) line len (place_of number (view_links t))
      filter_is = (if_admits t k.table line number len found i q r (e (get_or t.numbers i 0))).place

      pub filtered : r ≡ false → none ≡ admitted (view_table t) line len (place_of number (view_table t).links)
      unfolding view_table
      filtered z = rw z at filter_is

      pub passes : r ≡ true → some i ≡ admitted (view_table t) line len (place_of number (view_table t).links)
      unfolding view_table
      passes z = rw z at filter_is

    pub priority_is : {p : ℕ} → p ≡ link.priority → p ≡ (link_at (view_table t).links i).priority
    priority_is e = rw link_is e

    pub charged : {b j : ℕ} → b ≡ bag_of link.code → j ≡ link.jitter → {accounts accounts' : List AccountRecord} {time : ℕ} {passed : Bool} → Charges b j accounts i time passed accounts' →
        Charges (bag (link_at (view_table t).links i)) (link_at (view_table t).links i).jitter accounts i time passed accounts'
    charged be je c = rw link_is (rw (be, je) at c)
