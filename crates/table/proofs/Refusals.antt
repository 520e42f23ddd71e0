-- The first check that is met, in lists of checks put together.
use mathlib.Core.Path.{◌≡◌, refl, sym, ◌∙◌}
use mathlib.Core.Bool.{true, false}
use mathlib.Core.Option.{Option, none, some}
use mathlib.Core.List.{List, ◌++◌}
use Prim.Native.Nat.{ℕ, zero, suc, ◌+◌, ◌≤◌, ◌<◌}
use native.Mathlib.Numerals.{add-one}
use native.Mathlib.Omega.{arith}
use borrow.Author.Tests.{le-leb, lt-leb}
use lib.ListN.{length, get_or, drop}
use lib.Seq.{drop-cons}
use Rattle.model.specs.Basics.{Check, first_met, first_refusal}
use Rattle.model.specs.Link.{VirtualLink, blank_link}
use Rattle.model.specs.Table.{Table, fields_in_range, not_above, counts_in_range, link_checks, links_checks, line_checks, size_checks, table_checks, table_refusal}
use Rattle.model.proofs.Checks.{Numbered, numbered_append, first_append}
use Rattle.model.proofs.TableFacts.{links_numbered}
use Rattle.table.specs.Checks.{previous_of}

-- the first number, where it is not 0
refused_first : (n m : ℕ) → (n ≡ 0 → ⊥) → first_refusal n m ≡ n
unfolding first_refusal
refused_first zero m z = absurd (z refl)
refused_first (suc n) m z = refl

refused_next : (n m : ℕ) → n ≡ 0 → first_refusal n m ≡ m
unfolding first_refusal
refused_next zero m e = refl
refused_next (suc n) m e = absurd (omega arith)

-- lists of checks put together: the first that is met in the front, or else in the back
module _ (front back : List Check) (each : Numbered front) (r : ℕ) (e : r ≡ first_met front) where
  pub stops_in_front : (r ≡ 0 → ⊥) → r ≡ first_met (front ++ back)
  stops_in_front z = sym (first_append front back each ∙ rw (← e) (refused_first r (first_met back) z))

  pub goes_on_behind : r ≡ 0 → first_met (front ++ back) ≡ first_met back
  goes_on_behind z = first_append front back each ∙ rw (← e) (refused_next r (first_met back) z)

-- ---- one link
above_none : (k n p : ℕ) → k ≡ 0 → not_above n (previous_of k p) ≡ false
unfolding not_above previous_of
above_none zero n p e = refl
above_none (suc k) n p e = absurd (omega arith)

above_some : (k n p : ℕ) → (k ≡ 0 → ⊥) → p < n → not_above n (previous_of k p) ≡ false
unfolding not_above previous_of
above_some zero n p z h = absurd (z refl)
above_some (suc k) n p z h = lt-leb n p h

not_above_lem : (k n p : ℕ) → (k ≡ 0 → ⊥) → n ≤ p → not_above n (previous_of k p) ≡ true
unfolding not_above previous_of
not_above_lem zero n p z h = absurd (z refl)
not_above_lem (suc k) n p z h = le-leb n p h

module _ (lines before previous : ℕ) (v : VirtualLink) where
  pub fields_bad : fields_in_range lines v ≡ false → 4 ≡ first_met (link_checks lines (previous_of before previous) v)
  unfolding first_met
  fields_bad e = rw e

  module _ (e : fields_in_range lines v ≡ true) where
    pub first_link : before ≡ 0 → 0 ≡ first_met (link_checks lines (previous_of before previous) v)
    unfolding first_met
    first_link z = rw (e, above_none before v.number previous z)

    pub not_rising : (before ≡ 0 → ⊥) → v.number ≤ previous → 5 ≡ first_met (link_checks lines (previous_of before previous) v)
    unfolding first_met
    not_rising z h = rw (e, not_above_lem before v.number previous z h)

    pub rising : (before ≡ 0 → ⊥) → previous < v.number → 0 ≡ first_met (link_checks lines (previous_of before previous) v)
    unfolding first_met
    rising z h = rw (e, above_some before v.number previous z h)

-- ---- link by link
module _ (lines : ℕ) (previous : Option ℕ) (links : List VirtualLink) (i : ℕ) (h : i < length links)
    (r : ℕ) (e : r ≡ first_met (link_checks lines previous (get_or links i blank_link))) where
  this : List Check
  this = link_checks lines previous (get_or links i blank_link)

  later : List Check
  later = links_checks lines (some (get_or links i blank_link).number) (drop (i + 1) links)

  split : links_checks lines previous (drop i links) ≡ this ++ later
  unfolding links_checks this later
  split = rw (add-one, drop-cons links i blank_link h)

  pub link_stops : (r ≡ 0 → ⊥) → r ≡ first_met (links_checks lines previous (drop i links))
  unfolding this
  link_stops z = rw split (stops_in_front this later (omega arith) r e z)

  pub link_passes : r ≡ 0 → first_met (links_checks lines previous (drop i links)) ≡ first_met (links_checks lines (some (get_or links i blank_link).number) (drop (i + 1) links))
  unfolding this later
  link_passes z = rw split (goes_on_behind this later (omega arith) r e z)

pub previous_more : (i n : ℕ) → previous_of (i + 1) n ≡ some n
unfolding previous_of
previous_more i n = rw add-one

pub previous_none : (n : ℕ) → previous_of 0 n ≡ none
unfolding previous_of
previous_none n = refl

-- ---- the whole table
module _ (t : Table) where
  pub counts_bad : counts_in_range t.lines (length t.links) ≡ false → 3 ≡ table_refusal t
  unfolding table_refusal table_checks first_met
  counts_bad e = rw e

  abbrev links_lines : List Check
  links_lines = links_checks t.lines none t.links ++ line_checks t.lines t.links

  numbered : Numbered links_lines
  numbered = numbered_append (links_checks t.lines none t.links) (line_checks t.lines t.links) (links_numbered t.lines none t.links) (omega arith)

  module _ (e : counts_in_range t.lines (length t.links) ≡ true) (r : ℕ) (q : r ≡ first_met (links_checks t.lines none t.links ++ line_checks t.lines t.links)) where
    behind_counts : table_refusal t ≡ first_met (links_lines ++ size_checks t.sizes)
    unfolding table_refusal table_checks first_met
    behind_counts = rw e

    pub links_bad : (r ≡ 0 → ⊥) → r ≡ table_refusal t
    links_bad z = rw behind_counts (stops_in_front links_lines (size_checks t.sizes) numbered r q z)

    pub sizes_last : r ≡ 0 → (s : ℕ) → s ≡ first_met (size_checks t.sizes) → s ≡ table_refusal t
    sizes_last z s p = p ∙ sym (behind_counts ∙ goes_on_behind links_lines (size_checks t.sizes) numbered r q z)
