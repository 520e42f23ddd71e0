-- A jitter put into a table record shows as the table with it put in.
use mathlib.Core.Path.{◌≡◌, refl, ap, ◌∙◌}
use mathlib.Core.Bool.{Bool}
use mathlib.Core.Option.{some}
use mathlib.Core.List.{List, [], ◌∷◌}
use Prim.Native.Nat.{ℕ, zero, suc, ◌<◌}
use native.Mathlib.Omega.{arith}
use lib.ListN.{length, get_or, set}
use borrow.Author.Tests.{ne_eqb, eq-eqb}
use Rattle.model.specs.Link.{VirtualLink, blank_link, link_at, place_of}
use Rattle.model.specs.Table.{table_refusal}
use Rattle.model.specs.JitterMargin.{jittered, put_in, with_jitter, sizes_suffice, jitter_fits}
use Rattle.model.proofs.Entries.{entries_set}
use Rattle.table.specs.declared.VirtualLink.{VirtualLink as LinkFields}
use Rattle.table.specs.declared.Table.{Table as TableRecord}
use Rattle.table.specs.View.{view_link, blank_fields, paired, view_links, view_table}
use Rattle.table.proofs.Shape.{Sized, count_shown}
use Rattle.table.proofs.PassingRecord.{counts_pass, entry_is}
use Rattle.table_lookup.proofs.Finding.{place_at}
use Rattle.table_lookup.proofs.Tables.{links_named, searchable}
use Rattle.jitter_margin.specs.Fitting.{fields_with, record_with}

paired_set : (numbers : List ℕ) (links : List LinkFields) (i : ℕ) (v : LinkFields) → i < length numbers
    → paired numbers (set links i v) ≡ set (paired numbers links) i (view_link (get_or numbers i 0) v)
unfolding paired
paired_set [] links i v h = absurd (omega arith)
paired_set (n ∷ numbers) [] i v h = refl
paired_set (n ∷ numbers) (u ∷ links) zero v h = refl
paired_set (n ∷ numbers) (u ∷ links) (suc i) v h = ap (λ (l : List VirtualLink). view_link n u ∷ l) (paired_set numbers links i v (omega arith))

paired_length : (numbers : List ℕ) (links : List LinkFields) (n : ℕ) → length numbers ≡ n → length links ≡ n → length (paired numbers links) ≡ n
unfolding paired
paired_length [] links n e f = e
paired_length (m ∷ numbers) [] n e f = absurd (omega arith)
paired_length (m ∷ numbers) (v ∷ links) zero e f = absurd (omega arith)
paired_length (m ∷ numbers) (v ∷ links) (suc n) e f = ap suc (paired_length numbers links n (omega arith) (omega arith))

-- put in at the first link that has the number
put_first : (number jitter : ℕ) (links : List VirtualLink) (i : ℕ) → i < length links → (link_at links i).number ≡ number
    → ((j : ℕ) → j < i → (link_at links j).number ≡ number → ⊥) → put_in number jitter links ≡ set links i (jittered jitter (link_at links i))
unfolding put_in
put_first number jitter [] i h e before = absurd (omega arith)
put_first number jitter (v ∷ links) zero h e before = rw (eq-eqb v.number number e)
put_first number jitter (v ∷ links) (suc i) h e before =
    rw (ne_eqb v.number number (before 0 (omega arith)), put_first number jitter links i (omega arith) e (λ j l. before (suc j) (omega arith)))

module _ (t : TableRecord) (s : Sized t) (e : table_refusal (view_table t) ≡ 0) (i : ℕ) (l : i < t.count) where
  pub in_array : i < 256
  in_array = omega (arith, (counts_pass t e).links_most)

  number_is : (link_at (view_links t) i).number ≡ get_or t.numbers i 0
  number_is = (links_named t e).number i l

  before : (j : ℕ) → j < i → (link_at (view_links t) j).number ≡ get_or t.numbers i 0 → ⊥
  before j m x = omega (arith, (links_named t e).number j (omega arith), (searchable t e s.numbers).1 j i m l)

  pub place_is : place_of (get_or t.numbers i 0) (view_links t) ≡ some i
  place_is = place_at (get_or t.numbers i 0) (view_links t) i (omega (arith, count_shown t)) number_is before

  pub put_shown : (jitter : ℕ) → view_table (record_with t i jitter) ≡ with_jitter (view_table t) (get_or t.numbers i 0) jitter
  unfolding view_table view_links
  put_shown jitter =
      let v : LinkFields = get_or t.links i blank_fields in
      rw (
        paired_set t.numbers t.links i (fields_with jitter v) (omega (arith, s.numbers, in_array)),
        entries_set blank_link t.count (paired t.numbers t.links) i (view_link (get_or t.numbers i 0) (fields_with jitter v)) (omega (arith, paired_length t.numbers t.links 256 s.numbers s.links, in_array)),
        put_first (get_or t.numbers i 0) jitter (view_links t) i (omega (arith, count_shown t)) number_is before,
        entry_is t e i l,
      )

  -- so the sizes suffice for the record exactly if the jitter fits
  pub fits_shown : (jitter : ℕ) (u : TableRecord) → u ≡ record_with t i jitter → (b : Bool) → b ≡ sizes_suffice (view_table u) → b ≡ jitter_fits (view_table t) (get_or t.numbers i 0) jitter
  unfolding jitter_fits
  fits_shown jitter u x b y = y ∙ ap sizes_suffice (ap view_table x ∙ put_shown jitter)
