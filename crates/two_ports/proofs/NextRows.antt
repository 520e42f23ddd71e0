-- The rows for the next port: with sizes in range they make a table that passes.
use mathlib.Core.Path.{◌≡◌, refl}
use mathlib.Core.Bool.{true, not, and-eq-true_iff}
use mathlib.Core.Option.{Option, none, some}
use mathlib.Core.List.{List, [], ◌∷◌, map}
use Prim.Native.Nat.{ℕ, zero, suc, ◌≤◌, ◌<◌}
use native.Mathlib.Omega.{arith}
use lib.Dec.{leb}
use borrow.Author.Tests.{leb-false, le-leb, lt-ltb, not-false}
use lib.ListN.{length, length-map}
use Rattle.model.specs.Basics.{all_hold, check, first_refusal}
use Rattle.model.specs.Units.{greatest_jitter}
use Rattle.model.specs.Link.{VirtualLink}
use Rattle.model.specs.Table.{Table, counts_in_range, fields_in_range, link_checks, links_checks, line_checks, size_checks}
use Rattle.model.specs.Bounds.{bounds_refusal}
use Rattle.model.specs.NextTable.{next_link, next_links, next_table, line_refusal, jitters_in_range, rows_refusal, next_refusal}
use Rattle.two_ports.specs.Promises.{NextPasses, RowsAmong}
use Rattle.model.proofs.Checks.{all_true, true_all, NoneMet, none_back, none_met}
use Rattle.model.proofs.TableFacts.{CountsFit, parts_unmet, links_unmet}
use Rattle.model.proofs.Holds.{has_bounds}
use Rattle.model.proofs.Passing.{is_passing}
use Rattle.tandem.proofs.Given.{row_at}

-- ---- the rows, place by place
pub rows_among : (t : Table) (line : ℕ) (links : List VirtualLink) → links ≡ next_links t line → RowsAmong t line links
unfolding next_links
rows_among t line links e i l = (i, rw (e, length-map t.links (next_link t line)) l, rw e (row_at t line t.links i l))

-- ---- they pass
both_zero : (a b : ℕ) → first_refusal a b ≡ 0 → (a ≡ 0) × (b ≡ 0)
unfolding first_refusal
both_zero zero b e = (refl, e)
both_zero (suc a) b e = absurd (omega arith)

pub next_bounds : (t : Table) (line lines : ℕ) → next_refusal t line lines ≡ 0 → bounds_refusal t ≡ 0
unfolding next_refusal
next_bounds t line lines e = (both_zero _ _ (both_zero _ _ e).1).0

module _ (t : Table) (line lines : ℕ) (below : line < lines) where
  fields_next : (v : VirtualLink) → fields_in_range t.lines v ≡ true → leb (next_link t line v).jitter greatest_jitter ≡ true → fields_in_range lines (next_link t line v) ≡ true
  unfolding fields_in_range next_link
  fields_next v e j =
      let all = all_true _ e in
      true_all _ (all.0, (lt-ltb line lines below, (all.1.1.0, (all.1.1.1.0, (all.1.1.1.1.0, (all.1.1.1.1.1.0, (all.1.1.1.1.1.1.0, (j, tt))))))))

  next_number : (v : VirtualLink) → (next_link t line v).number ≡ v.number
  unfolding next_link
  next_number v = refl

  links_next : (previous : Option ℕ) (links : List VirtualLink) → NoneMet (links_checks t.lines previous links) → jitters_in_range (map (next_link t line) links) ≡ true
      → NoneMet (links_checks lines previous (map (next_link t line) links))
  unfolding links_checks jitters_in_range
  links_next previous [] pass j = tt
  links_next previous (v ∷ links) pass j =
      let both = (and-eq-true_iff (leb (next_link t line v).jitter greatest_jitter) (jitters_in_range (map (next_link t line) links))).0 j in
      let rest = links_next (some v.number) links (none_back (link_checks t.lines previous v) (links_checks t.lines (some v.number) links) pass) both.1 in
      (rw (fields_next v (not-false (fields_in_range t.lines v) pass.0) both.0), (rw (next_number v) pass.1.0, rw (next_number v) rest))

counts_next : (lines n : ℕ) → leb 1 lines ≡ true → leb lines 24 ≡ true → 1 ≤ n → n ≤ 256 → counts_in_range lines n ≡ true
unfolding counts_in_range
counts_next lines n a b c d = true_all (leb 1 lines ∷ leb lines 24 ∷ leb 1 n ∷ leb n 256 ∷ []) (a, (b, (le-leb 1 n c, (le-leb n 256 d, tt))))

pub next_passes : NextPasses
unfolding next_refusal rows_refusal line_refusal next_links
next_passes t line lines sizes e z =
    let first = both_zero _ _ e in
    let second = both_zero _ _ first.1 in
    let own = none_met (check 22 (leb lines line) ∷ check 3 (not (all_hold (leb 1 lines ∷ leb lines 24 ∷ []))) ∷ []) (omega arith) first.0 in
    let count = all_true _ (not-false _ own.1.0) in
    let rows = map (next_link t line) t.links in
    let unmet = none_met (check 21 (not (jitters_in_range rows)) ∷ line_checks lines rows) (omega arith) second.1 in
    let jitters = not-false _ unmet.0 in
    let passes = (has_bounds t second.0).table in
    let c : CountsFit t.lines (length t.links) = (is_passing t passes).counts in
    parts_unmet (next_table t line lines sizes)
    (rw (length-map t.links (next_link t line), counts_next lines (length t.links) count.0 count.1.0 c.some_link c.links_most), tt)
    (links_next t line lines (leb-false lines line own.0) none t.links (links_unmet t passes) jitters)
    unmet.1
    (none_met (size_checks sizes) (omega arith) z)
