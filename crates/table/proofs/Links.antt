-- The links of a table record, checked one by one.
use mathlib.Core.Path.{◌≡◌, refl, sym, ◌∙◌}
use mathlib.Core.Bool.{true, false}
use mathlib.Core.Option.{none}
use mathlib.Core.List.{List, ◌++◌}
use Prim.Native.Nat.{ℕ, ◌+◌, ◌≤◌, ◌<◌}
use native.Mathlib.Omega.{arith}
use lib.ListN.{length, get_or, drop, drop_of_length-le}
use mir.Val.{Val}
use denote.Laws.{Is}
use denote.Struct.Declared.{row}
use Rattle.model.specs.Basics.{first_met}
use Rattle.model.specs.Link.{blank_link}
use Rattle.model.specs.Table.{counts_in_range, link_checks, links_checks, line_checks, size_checks, table_refusal}
use Rattle.model.proofs.TableFacts.{counts_fit, links_numbered}
use Rattle.table.specs.declared.Table.{Table as TableRecord}
use Rattle.table.specs.Checks.{previous_of}
use Rattle.table.specs.View.{view_link, blank_fields, view_links, view_table}
use Rattle.table.specs.contracts.Table.{the_type}
use Rattle.table.proofs.Shape.{sized, count_shown, link_shown}
use Rattle.table.proofs.Refusals.{stops_in_front, goes_on_behind, link_stops, link_passes, previous_more, counts_bad, links_bad, sizes_last}

none_left : (lines : ℕ) (t : TableRecord) (previous i : ℕ) → t.count ≤ i → first_met (links_checks lines (previous_of i previous) (drop i (view_links t))) ≡ 0
unfolding links_checks first_met
none_left lines t previous i h = let n = count_shown t in rw (drop_of_length-le (view_links t) {i = i} (omega arith))

-- where no link is refused, the lines decide
pub links_end : (t : TableRecord) (previous i : ℕ) → t.count ≤ i →
    first_met (links_checks t.lines none (view_links t)) ≡ first_met (links_checks t.lines (previous_of i previous) (drop i (view_links t))) →
    (o : ℕ) → o ≡ first_met (line_checks t.lines (view_links t)) → o ≡ first_met (links_checks t.lines none (view_links t) ++ line_checks t.lines (view_links t))
links_end t previous i h e o p =
    p ∙ sym (goes_on_behind (links_checks t.lines none (view_links t)) (line_checks t.lines (view_links t)) (links_numbered t.lines none (view_links t)) 0 (sym (e ∙ none_left t.lines t previous i h)) refl)

module _ (t : TableRecord) (vs : List Val) (good : Is (row the_type) t vs) (pre : counts_in_range t.lines t.count ≡ true)
    (previous i : ℕ) (h : i < t.count)
    (so_far : first_met (links_checks t.lines none (view_links t)) ≡ first_met (links_checks t.lines (previous_of i previous) (drop i (view_links t))))
    (r : ℕ) (e : r ≡ first_met (link_checks t.lines (previous_of i previous) (view_link (get_or t.numbers i 0) (get_or t.links i blank_fields)))) where
  shown : get_or (view_links t) i blank_link ≡ view_link (get_or t.numbers i 0) (get_or t.links i blank_fields)
  shown = let k = counts_fit t.lines t.count pre in link_shown t i (sized t vs good) h (omega arith)

  here : r ≡ first_met (link_checks t.lines (previous_of i previous) (get_or (view_links t) i blank_link))
  here = rw shown e

  within : i < length (view_links t)
  within = let n = count_shown t in omega arith

  pub links_stop : (r ≡ 0 → ⊥) → r ≡ first_met (links_checks t.lines none (view_links t) ++ line_checks t.lines (view_links t))
  links_stop z =
      stops_in_front (links_checks t.lines none (view_links t)) (line_checks t.lines (view_links t)) (links_numbered t.lines none (view_links t)) r
      (link_stops t.lines (previous_of i previous) (view_links t) i within r here z ∙ sym so_far) z

  pub links_go_on : r ≡ 0 →
      first_met (links_checks t.lines none (view_links t)) ≡ first_met (links_checks t.lines (previous_of (i + 1) (get_or t.numbers i 0)) (drop (i + 1) (view_links t)))
  links_go_on z =
      so_far
      ∙ link_passes t.lines (previous_of i previous) (view_links t) i within r here z
      ∙ rw (shown, previous_more)

-- ---- the whole record
module _ (t : TableRecord) where
  counts_shown : counts_in_range (view_table t).lines (length (view_table t).links) ≡ counts_in_range t.lines t.count
  unfolding view_table
  counts_shown = rw count_shown

  pub counts_refused : counts_in_range t.lines t.count ≡ false → 3 ≡ table_refusal (view_table t)
  counts_refused e = counts_bad (view_table t) (counts_shown ∙ e)

  module _ (e : counts_in_range t.lines t.count ≡ true) (r : ℕ) (q : r ≡ first_met (links_checks t.lines none (view_links t) ++ line_checks t.lines (view_links t))) where
    pub links_refused : (r ≡ 0 → ⊥) → r ≡ table_refusal (view_table t)
    unfolding view_table
    links_refused z = links_bad (view_table t) (counts_shown ∙ e) r q z

    pub sizes_decide : r ≡ 0 → (s : ℕ) → s ≡ first_met (size_checks t.sizes) → s ≡ table_refusal (view_table t)
    unfolding view_table
    sizes_decide z s p = sizes_last (view_table t) (counts_shown ∙ e) r q z s p
