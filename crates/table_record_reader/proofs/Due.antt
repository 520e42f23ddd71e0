-- What the record reader finds, check by check.
use mathlib.Core.Path.{◌≡◌, refl, sym, ap, ◌∙◌}
use mathlib.Core.Bool.{true, false, not}
use mathlib.Core.Option.{Option}
use mathlib.Core.List.{List, [], ◌∷◌, ◌++◌, append_assoc}
use Prim.Native.Nat.{ℕ, zero, suc, ◌-◌, ◌≤◌, ◌<◌}
use native.Mathlib.Omega.{arith}
use lib.Dec.{eqb, ltb}
use borrow.Author.Tests.{lt-ltb, le-ltb, eq-eqb, ne_eqb, le-leb, lt-leb}
use lib.ListN.{length}
use Rattle.model.specs.Basics.{Check, check, first_met}
use Rattle.model.specs.Table.{counts_in_range, count_checks, link_checks, size_checks}
use Rattle.model.specs.TableFile.{number_at, header_checks, link_read, sizes_read, count_record_checks, link_record_checks, sizes_record_checks}
use Rattle.model.proofs.Checks.{Numbered}
use Rattle.table.specs.declared.VirtualLink.{VirtualLink as LinkFields}
use Rattle.table_record_reader.specs.declared.Record.TheVariants.{Counts, Link, Sizes}
use Rattle.table.specs.Checks.{previous_of}
use Rattle.table.specs.View.{view_link, record_link}
use Rattle.table_record_reader.specs.Records.{Said, saying, refusing, link_values, said, said_or, counts_due, link_due, sizes_due, due_at}
use Rattle.table.proofs.Refusals.{stops_in_front, goes_on_behind}

-- ---- the header
module _ (kind len : ℕ) (rest : List ℕ) where
  header_numbered : Numbered (header_checks kind len rest)
  unfolding header_checks
  header_numbered = omega arith

-- ---- a refusal, or the record
said_refused : (n r : ℕ) (next : Said) → r ≡ n → (r ≡ 0 → ⊥) → refusing r ≡ said_or n next
unfolding said said_or
said_refused zero r next e z = absurd (z e)
said_refused (suc n) r next e z = rw e

said_next : (n : ℕ) (next : Said) → n ≡ 0 → next ≡ said_or n next
unfolding said_or
said_next zero next e = refl
said_next (suc n) next e = absurd (omega arith)

-- ---- counts
module _ (rest : List ℕ) (r : ℕ) (e : r ≡ first_met (header_checks 1 6 rest)) where
  counts : List Check
  counts = count_checks (number_at 4 2 rest) (number_at 6 2 rest)

  pub counts_header : (r ≡ 0 → ⊥) → refusing r ≡ counts_due rest
  unfolding counts_due count_record_checks counts
  counts_header z = said_refused (first_met (header_checks 1 6 rest ++ counts)) r _ (stops_in_front (header_checks 1 6 rest) counts (header_numbered 1 6 rest) r e z) z

  module _ (z : r ≡ 0) (lines n : ℕ) (el : lines ≡ number_at 4 2 rest) (en : n ≡ number_at 6 2 rest) where
    behind : first_met (header_checks 1 6 rest ++ counts) ≡ first_met (count_checks lines n)
    unfolding counts
    behind = rw (el, en) (goes_on_behind (header_checks 1 6 rest) counts (header_numbered 1 6 rest) r e z)

    out_met : counts_in_range lines n ≡ false → 3 ≡ first_met (count_checks lines n)
    unfolding first_met
    out_met b = rw b

    in_none : counts_in_range lines n ≡ true → first_met (count_checks lines n) ≡ 0
    unfolding first_met
    in_none b = rw b

    pub counts_out : counts_in_range lines n ≡ false → refusing 3 ≡ counts_due rest
    unfolding counts_due count_record_checks counts
    counts_out b = said_refused (first_met (header_checks 1 6 rest ++ counts)) 3 _ (out_met b ∙ sym behind) (λ q. omega arith)

    pub counts_in : counts_in_range lines n ≡ true → said (Counts lines n) ≡ counts_due rest
    unfolding counts_due count_record_checks counts said
    counts_in b = rw (el, en) (said_next (first_met (header_checks 1 6 rest ++ counts)) (saying 1 (number_at 4 2 rest ∷ number_at 6 2 rest ∷ [])) (behind ∙ in_none b))

-- ---- a link
link_whole : (rest : List ℕ) (number : ℕ) (v : LinkFields) → number ≡ number_at 4 2 rest → v ≡ record_link (link_read rest) → view_link number v ≡ link_read rest
unfolding link_read
link_whole rest number v a b = rw (a, b)

module _ (lines : ℕ) (previous : Option ℕ) (rest : List ℕ) (r : ℕ) (e : r ≡ first_met (header_checks 2 16 rest)) where
  fields : List Check
  fields = link_checks lines previous (link_read rest)

  body : List Check
  body = check 4 (not (eqb (number_at 9 1 rest) 0)) ∷ link_checks lines previous (link_read rest)

  pub link_header : (r ≡ 0 → ⊥) → refusing r ≡ link_due lines previous rest
  unfolding link_due link_record_checks body
  link_header z = said_refused (first_met (header_checks 2 16 rest ++ body)) r _ (stops_in_front (header_checks 2 16 rest) body (header_numbered 2 16 rest) r e z) z

  module _ (z : r ≡ 0) where
    behind_header : first_met (header_checks 2 16 rest ++ body) ≡ first_met body
    behind_header = goes_on_behind (header_checks 2 16 rest) body (header_numbered 2 16 rest) r e z

    byte_met : (number_at 9 1 rest ≡ 0 → ⊥) → 4 ≡ first_met body
    unfolding body first_met
    byte_met w = rw (ne_eqb (number_at 9 1 rest) 0 w)

    pub byte_set : (number_at 9 1 rest ≡ 0 → ⊥) → refusing 4 ≡ link_due lines previous rest
    unfolding link_due link_record_checks body
    byte_set w = said_refused (first_met (header_checks 2 16 rest ++ body)) 4 _ (byte_met w ∙ sym behind_header) (λ q. omega arith)

    module _ (w : number_at 9 1 rest ≡ 0) (number : ℕ) (v : LinkFields) (a : number ≡ number_at 4 2 rest) (b : v ≡ record_link (link_read rest))
        (s : ℕ) (f : s ≡ first_met (link_checks lines previous (view_link number v))) where
      behind_byte : s ≡ first_met (header_checks 2 16 rest ++ body)
      unfolding body first_met
      behind_byte =
          f ∙ sym (behind_header ∙ rw (eq-eqb (number_at 9 1 rest) 0 w) (ap (λ u. first_met (link_checks lines previous u)) (sym (link_whole rest number v a b))))

      pub link_out : (s ≡ 0 → ⊥) → refusing s ≡ link_due lines previous rest
      unfolding link_due link_record_checks body
      link_out y = said_refused (first_met (header_checks 2 16 rest ++ body)) s _ behind_byte y

      pub link_in : s ≡ 0 → said (Link number v) ≡ link_due lines previous rest
      unfolding link_due link_record_checks body said
      link_in y = ap (λ u. saying 2 (link_values u)) (link_whole rest number v a b) ∙ said_next (first_met (header_checks 2 16 rest ++ body)) (saying 2 (link_values (link_read rest))) (sym behind_byte ∙ y)

-- ---- sizes
module _ (rest : List ℕ) (r : ℕ) (e : r ≡ first_met (header_checks 3 34 rest)) where
  left : List Check
  left = check 7 (ltb 36 (length rest)) ∷ []

  all_checks_lem : List Check
  all_checks_lem = header_checks 3 34 rest ++ size_checks (sizes_read rest) ++ left

  regroup : all_checks_lem ≡ header_checks 3 34 rest ++ (size_checks (sizes_read rest) ++ left)
  unfolding all_checks_lem
  regroup = append_assoc (header_checks 3 34 rest) (size_checks (sizes_read rest)) left

  pub sizes_header : (r ≡ 0 → ⊥) → refusing r ≡ sizes_due rest
  unfolding sizes_due sizes_record_checks all_checks_lem left
  sizes_header z =
      said_refused (first_met all_checks_lem) r _ (rw regroup (stops_in_front (header_checks 3 34 rest) (size_checks (sizes_read rest) ++ left) (header_numbered 3 34 rest) r e z)) z

  module _ (z : r ≡ 0) (sizes : List ℕ) (q : sizes ≡ sizes_read rest) (s : ℕ) (f : s ≡ first_met (size_checks sizes)) where
    here : s ≡ first_met (size_checks (sizes_read rest))
    here = rw q at f

    behind_header3 : first_met all_checks_lem ≡ first_met (size_checks (sizes_read rest) ++ left)
    behind_header3 = rw regroup (goes_on_behind (header_checks 3 34 rest) (size_checks (sizes_read rest) ++ left) (header_numbered 3 34 rest) r e z)

    pub sizes_out : (s ≡ 0 → ⊥) → refusing s ≡ sizes_due rest
    unfolding sizes_due sizes_record_checks all_checks_lem left
    sizes_out y = said_refused (first_met all_checks_lem) s _ (stops_in_front (size_checks (sizes_read rest)) left (omega arith) s here y ∙ sym behind_header3) y

    module _ (y : s ≡ 0) where
      behind_sizes : first_met all_checks_lem ≡ first_met left
      behind_sizes = behind_header3 ∙ goes_on_behind (size_checks (sizes_read rest)) left (omega arith) s here y

      left_met : 36 < length rest → 7 ≡ first_met left
      unfolding left first_met
      left_met h = rw (lt-ltb 36 (length rest) h)

      left_none_lem : length rest ≤ 36 → first_met left ≡ 0
      unfolding left first_met
      left_none_lem h = rw (le-ltb 36 (length rest) h)

      pub bytes_left : 36 < length rest → refusing 7 ≡ sizes_due rest
      unfolding sizes_due sizes_record_checks all_checks_lem left
      bytes_left h = said_refused (first_met all_checks_lem) 7 _ (left_met h ∙ sym behind_sizes) (λ p. omega arith)

      pub sizes_in : length rest ≤ 36 → said (Sizes sizes) ≡ sizes_due rest
      unfolding sizes_due sizes_record_checks all_checks_lem left said
      sizes_in h = rw q (said_next (first_met all_checks_lem) (saying 3 (sizes_read rest)) (behind_sizes ∙ left_none_lem h))

-- ---- which is due
module _ (rest : List ℕ) (read count lines previous : ℕ) where
  pub due_counts : read ≡ 0 → due_at rest read count lines previous ≡ counts_due rest
  unfolding due_at
  due_counts z = rw (eq-eqb read 0 z)

  module _ (z : read ≡ 0 → ⊥) where
    pub due_link : read ≤ count → due_at rest read count lines previous ≡ link_due lines (previous_of (read - 1) previous) rest
    unfolding due_at
    due_link h = rw (ne_eqb read 0 z, le-leb read count h)

    pub due_sizes : count < read → due_at rest read count lines previous ≡ sizes_due rest
    unfolding due_at
    due_sizes h = rw (ne_eqb read 0 z, lt-leb read count h)
