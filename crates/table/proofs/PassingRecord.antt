-- A table record whose view passes: what the facts of the view say of the record's own counts and entries.
use mathlib.Core.Path.{◌≡◌, refl, ◌∙◌}
use mathlib.Core.List.{List, [], ◌∷◌}
use Prim.Native.Nat.{ℕ, zero, suc, ◌<◌}
use native.Mathlib.Omega.{arith}
use lib.ListN.{length, get_or}
use Rattle.model.specs.Link.{blank_link, link_at}
use Rattle.model.specs.Table.{table_refusal}
use Rattle.model.proofs.Entries.{get_d_entries}
use Rattle.model.proofs.TableFacts.{CountsFit, FieldsFit}
use Rattle.model.proofs.Passing.{is_passing}
use Rattle.table.specs.declared.VirtualLink.{VirtualLink as LinkFields}
use Rattle.table.specs.declared.Table.{Table as TableRecord}
use Rattle.table.specs.View.{view_link, blank_fields, paired, view_links, view_table}
use Rattle.table.proofs.Shape.{count_shown}

-- a link that is not blank stands in both arrays
not_blank : (numbers : List ℕ) (links : List LinkFields) (i : ℕ) → 0 < (get_or (paired numbers links) i blank_link).least →
    get_or (paired numbers links) i blank_link ≡ view_link (get_or numbers i 0) (get_or links i blank_fields)
unfolding paired
not_blank [] links i h = absurd (omega arith)
not_blank (n ∷ numbers) [] i h = absurd (omega arith)
not_blank (n ∷ numbers) (v ∷ links) zero h = refl
not_blank (n ∷ numbers) (v ∷ links) (suc i) h = not_blank numbers links i h

module _ (t : TableRecord) (e : table_refusal (view_table t) ≡ 0) where
  pub counts_pass : CountsFit t.lines t.count
  unfolding view_table
  counts_pass =
      let c : CountsFit t.lines (length (view_links t)) = (is_passing (view_table t) e).counts in
      rw count_shown at c

  pub link_fits : (i : ℕ) → i < t.count → FieldsFit t.lines (link_at (view_links t) i)
  unfolding view_table
  link_fits i h = (is_passing (view_table t) e).fields i (omega (arith, count_shown t))

  -- the view's link is the record's number and fields
  pub entry_is : (i : ℕ) → i < t.count → link_at (view_links t) i ≡ view_link (get_or t.numbers i 0) (get_or t.links i blank_fields)
  unfolding view_links
  entry_is i h =
      let same = get_d_entries blank_link t.count (paired t.numbers t.links) i h in
      let f : FieldsFit t.lines (get_or (paired t.numbers t.links) i blank_link) = rw same at (link_fits i h) in
      same ∙ not_blank t.numbers t.links i (omega (arith, f.least_from))

  pub entry_fits : (i : ℕ) → i < t.count → FieldsFit t.lines (view_link (get_or t.numbers i 0) (get_or t.links i blank_fields))
  entry_fits i h = rw (entry_is i h) at (link_fits i h)
