-- The ranges of counts, fields and sizes as facts, and the checks of a table by parts.
use mathlib.Core.Path.{◌≡◌}
use mathlib.Core.Bool.{true, ◌&&◌, and-eq-true_iff}
use mathlib.Core.Option.{Option, none, some}
use mathlib.Core.List.{List, [], ◌∷◌, ◌++◌}
use Prim.Native.Nat.{ℕ, zero, suc, ◌≤◌, ◌<◌}
use native.Mathlib.Omega.{arith}
use lib.Dec.{eqb, leb}
use borrow.Author.Tests.{leb-true, ltb-true, eqb-true, not-false}
use lib.ListN.{length, get_or}
use Rattle.model.specs.Basics.{Check}
use Rattle.model.specs.Link.{VirtualLink}
use Rattle.model.specs.Table.{Table, counts_in_range, count_checks, fields_in_range, link_checks, links_checks, line_checks, all_at_most, size_checks, table_checks, table_refusal}
use Rattle.model.proofs.Checks.{all_true, Numbered, numbered_append, NoneMet, none_append, none_front, none_back, none_met, first_none}

pub record CountsFit (lines n : ℕ) : Type 0 where
  pub some_line : 1 ≤ lines
  pub lines_most : lines ≤ 24
  pub some_link : 1 ≤ n
  pub links_most : n ≤ 256

pub counts_fit : (lines n : ℕ) → counts_in_range lines n ≡ true → CountsFit lines n
unfolding counts_in_range
counts_fit lines n e =
    let all = all_true _ e in
    record {
      some_line = leb-true 1 lines all.0;
      lines_most = leb-true lines 24 all.1.0;
      some_link = leb-true 1 n all.1.1.0;
      links_most = leb-true n 256 all.1.1.1.0;
    }

pub record FieldsFit (lines : ℕ) (v : VirtualLink) : Type 0 where
  pub number_most : v.number ≤ 65_535
  pub line_below : v.line < lines
  pub priority_most : v.priority ≤ 7
  pub code_most : v.code ≤ 7
  pub least_from : 84 ≤ v.least
  pub least_greatest : v.least ≤ v.greatest
  pub greatest_most : v.greatest ≤ 1_538
  pub jitter_most : v.jitter ≤ 125_000

pub fields_fit : (lines : ℕ) (v : VirtualLink) → fields_in_range lines v ≡ true → FieldsFit lines v
unfolding fields_in_range
fields_fit lines v e =
    let all = all_true _ e in
    record {
      number_most = leb-true v.number 65_535 all.0;
      line_below = ltb-true v.line lines all.1.0;
      priority_most = leb-true v.priority 7 all.1.1.0;
      code_most = leb-true v.code 7 all.1.1.1.0;
      least_from = leb-true 84 v.least all.1.1.1.1.0;
      least_greatest = leb-true v.least v.greatest all.1.1.1.1.1.0;
      greatest_most = leb-true v.greatest 1_538 all.1.1.1.1.1.1.0;
      jitter_most = leb-true v.jitter 125_000 all.1.1.1.1.1.1.1.0;
    }

pub record SizesFit (sizes : List ℕ) : Type 0 where
  pub count : length sizes ≡ 8
  pub most : (p : ℕ) → get_or sizes p 0 ≤ 16_384

at_most : (most : ℕ) (ns : List ℕ) → all_at_most most ns ≡ true → (i : ℕ) → get_or ns i 0 ≤ most
unfolding all_at_most
at_most most [] e i = omega arith
at_most most (n ∷ ns) e zero = leb-true n most ((and-eq-true_iff (leb n most) (all_at_most most ns)).0 e).0
at_most most (n ∷ ns) e (suc i) = at_most most ns ((and-eq-true_iff (leb n most) (all_at_most most ns)).0 e).1 i

pub sizes_fit : (sizes : List ℕ) → NoneMet (size_checks sizes) → SizesFit sizes
sizes_fit sizes pass =
    let both = (and-eq-true_iff (eqb (length sizes) 8) (all_at_most 16_384 sizes)).0 (not-false (eqb (length sizes) 8 && all_at_most 16_384 sizes) pass.0) in
    record { count = eqb-true (length sizes) 8 both.0; most = at_most 16_384 sizes both.1 }

-- ---- the checks of a table

pub links_numbered : (lines : ℕ) (previous : Option ℕ) (links : List VirtualLink) → Numbered (links_checks lines previous links)
unfolding links_checks
links_numbered lines previous [] = tt
links_numbered lines previous (v ∷ links) =
    numbered_append (link_checks lines previous v) (links_checks lines (some v.number) links) (omega arith) (links_numbered lines (some v.number) links)

pub table_numbered : (t : Table) → Numbered (table_checks t)
unfolding table_checks
table_numbered t =
    let counts = count_checks t.lines (length t.links) in
    let links = links_checks t.lines none t.links in
    let lines = line_checks t.lines t.links in
    numbered_append (counts ++ links ++ lines) (size_checks t.sizes)
    (numbered_append (counts ++ links) lines (numbered_append counts links (omega arith) (links_numbered t.lines none t.links)) (omega arith))
    (omega arith)

-- a table meets no check exactly if it meets none of each part
module _ (t : Table) where
  counts : List Check
  counts = count_checks t.lines (length t.links)

  links : List Check
  links = links_checks t.lines none t.links

  lines : List Check
  lines = line_checks t.lines t.links

  sizes : List Check
  sizes = size_checks t.sizes

  pub parts_unmet : NoneMet (count_checks t.lines (length t.links)) → NoneMet (links_checks t.lines none t.links) → NoneMet (line_checks t.lines t.links)
      → NoneMet (size_checks t.sizes) → table_refusal t ≡ 0
  unfolding table_refusal table_checks counts links lines sizes
  parts_unmet c l o s =
      first_none (counts ++ links ++ lines ++ sizes) (none_append (counts ++ links ++ lines) sizes (none_append (counts ++ links) lines (none_append counts links c l) o) s)

  module _ (e : table_refusal t ≡ 0) where
    unmet : NoneMet (counts ++ links ++ lines ++ sizes)
    unfolding table_refusal table_checks counts links lines sizes
    unmet = none_met (table_checks t) (table_numbered t) e

    before_sizes : NoneMet (counts ++ links ++ lines)
    before_sizes = none_front (counts ++ links ++ lines) sizes unmet

    pub counts_unmet : NoneMet (count_checks t.lines (length t.links))
    unfolding counts
    counts_unmet = none_front counts links (none_front (counts ++ links) lines before_sizes)

    pub links_unmet : NoneMet (links_checks t.lines none t.links)
    unfolding links
    links_unmet = none_back counts links (none_front (counts ++ links) lines before_sizes)

    pub lines_unmet : NoneMet (line_checks t.lines t.links)
    unfolding lines
    lines_unmet = none_back (counts ++ links) lines before_sizes

    pub sizes_unmet : NoneMet (size_checks t.sizes)
    unfolding sizes
    sizes_unmet = none_back (counts ++ links ++ lines) sizes unmet
