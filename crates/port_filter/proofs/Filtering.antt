-- The filter, in the order in which the code tests, and what it makes of the place of a number.
use mathlib.Core.Path.{◌≡◌, ◌∙◌}
use mathlib.Core.Bool.{Bool, true, false, and-true}
use mathlib.Core.Option.{none, some}
use Prim.Native.Nat.{ℕ, ◌≤◌, ◌<◌}
use native.Mathlib.Omega.{arith}
use lib.Dec.{leb}
use lib.ListN.{get_or}
use borrow.Author.Tests.{le-leb, lt-leb, eq-eqb, ne_eqb}
use Rattle.model.specs.Basics.{all_hold}
use Rattle.model.specs.Link.{VirtualLink, place_of}
use Rattle.model.specs.Table.{table_refusal}
use Rattle.model.specs.Report.{admits, admitted}
use Rattle.table.specs.declared.Table.{Table as TableRecord}
use Rattle.table.specs.View.{view_link, blank_fields, view_links, view_table}
use Rattle.table.proofs.PassingRecord.{counts_pass, entry_is}
use Rattle.std.specs.Bool.{then_some}
use Rattle.std.specs.Prelude.{Option, Some, None}
use Rattle.table_lookup.specs.Places.{Found}
use Rattle.table_lookup.proofs.Tables.{links_named}
use Rattle.port_filter.specs.Filter.{Admits}

-- ---- the filter of a link
module _ (v : VirtualLink) (line len : ℕ) where
  pub other_line : (v.line ≡ line → ⊥) → false ≡ admits v line len
  unfolding admits all_hold
  other_line h = rw (ne_eqb v.line line h)

  module _ (h : v.line ≡ line) where
    pub too_short : len < v.least → leb v.least len ≡ admits v line len
    unfolding admits all_hold
    too_short k = rw (eq-eqb v.line line h, lt-leb v.least len k)

    pub not_too_long : v.least ≤ len → leb len v.greatest ≡ admits v line len
    unfolding admits all_hold
    not_too_long k = rw (eq-eqb v.line line h, le-leb v.least len k, and-true)

-- ---- the place of a number, as it was found
module _ (t : TableRecord) (e : table_refusal (view_table t) ≡ 0) (line number len : ℕ) {x : Option ℕ} (found : Found t.numbers t.count number x) where
  pub nowhere : x ≡ None → Admits t line number len None
  unfolding admitted
  nowhere q =
      let p : place_of number (view_links t) ≡ none = found.place (view_links t) (links_named t e) ∙ rw q in
      record { place = rw p; below = λ i z. absurd (let y : ◌≡◌ {A = ℕ} 0 1 = cc in omega arith) }

  module _ (i : ℕ) (q : x ≡ Some i) where
    place_is : place_of number (view_links t) ≡ some i
    place_is = found.place (view_links t) (links_named t e) ∙ rw q

    pub in_array : i < 256
    in_array = omega (arith, found.below i q, (counts_pass t e).links_most)

    abbrev link : VirtualLink
    link = view_link (get_or t.numbers i 0) (get_or t.links i blank_fields)

    let_through : true ≡ admits link line len → Admits t line number len (Some i)
    unfolding admitted view_table
    let_through a =
        record { place = rw (place_is, entry_is t e i (found.below i q), ← a); below = λ j z. let y : i ≡ j = cc in rw (← y) (found.below i q) }

    kept_out : false ≡ admits link line len → Admits t line number len None
    unfolding admitted view_table
    kept_out a =
        record {
          place = rw (place_is, entry_is t e i (found.below i q), ← a);
          below = λ j z. absurd (let y : ◌≡◌ {A = ℕ} 0 1 = cc in omega arith);
        }

    pub if_admits : (b : Bool) → b ≡ admits link line len → Admits t line number len (then_some b i)
    if_admits true = let_through
    if_admits false = kept_out
