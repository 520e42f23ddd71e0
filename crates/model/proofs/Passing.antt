-- A table that passes: counts, fields and sizes are in range, the numbers rise, no line is oversold. A check more of a table is a field more.
use mathlib.Core.Path.{◌≡◌}
use mathlib.Core.Bool.{true}
use mathlib.Core.Option.{Option, none, some}
use mathlib.Core.List.{List, [], ◌∷◌, Memᴰ}
use Prim.Native.Nat.{ℕ, zero, suc, ◌<◌}
use native.Mathlib.Omega.{arith}
use borrow.Author.Tests.{leb-false, not-false}
use lib.ListN.{length}
use Rattle.model.specs.Link.{VirtualLink, link_at}
use Rattle.model.specs.Table.{Table, counts_in_range, fields_in_range, not_above, link_checks, links_checks, none_oversold, table_refusal}
use Rattle.model.proofs.Checks.{NoneMet, none_back}
use Rattle.model.proofs.TableFacts.{CountsFit, counts_fit, FieldsFit, fields_fit, SizesFit, sizes_fit, counts_unmet, links_unmet, lines_unmet, sizes_unmet}
use Rattle.model.proofs.Gate.{Rising, mem_at}

pub record Passing (t : Table) : Type 0 where
  pub counts : CountsFit t.lines (length t.links)
  pub fields : (i : ℕ) → i < length t.links → FieldsFit t.lines (link_at t.links i)
  pub rising : Rising t.links
  pub carried : none_oversold t.lines t.links ≡ true
  pub sizes : SizesFit t.sizes

module _ (lines : ℕ) where
  rest_pass : (previous : Option ℕ) (v : VirtualLink) (links : List VirtualLink) → NoneMet (links_checks lines previous (v ∷ links)) → NoneMet (links_checks lines (some v.number) links)
  unfolding links_checks
  rest_pass previous v links pass = none_back (link_checks lines previous v) (links_checks lines (some v.number) links) pass

  pub members_pass : (previous : Option ℕ) (links : List VirtualLink) → NoneMet (links_checks lines previous links) → {v : VirtualLink} → Memᴰ v links → FieldsFit lines v
  unfolding links_checks
  members_pass previous [] pass {v = v} x'' = elim x'' [ ]
  members_pass previous (u ∷ links) pass (Memᴰ.head e) = rw e (fields_fit lines u (not-false (fields_in_range lines u) pass.0))
  members_pass previous (u ∷ links) pass (Memᴰ.tail m) = members_pass (some u.number) links (rest_pass previous u links pass) m

  numbers_above : (m : ℕ) (links : List VirtualLink) → NoneMet (links_checks lines (some m) links) → (i : ℕ) → i < length links → m < (link_at links i).number
  unfolding links_checks not_above
  numbers_above m [] pass i l = absurd (omega arith)
  numbers_above m (v ∷ links) pass zero l = leb-false v.number m pass.1.0
  numbers_above m (v ∷ links) pass (suc i) l =
      omega (arith, leb-false v.number m pass.1.0, numbers_above v.number links (rest_pass (some m) v links pass) i (omega arith))

  numbers_rise : (previous : Option ℕ) (links : List VirtualLink) → NoneMet (links_checks lines previous links) → Rising links
  numbers_rise previous [] pass i j k l = absurd (omega arith)
  numbers_rise previous (v ∷ links) pass i zero k l = absurd (omega arith)
  numbers_rise previous (v ∷ links) pass zero (suc j) k l = numbers_above v.number links (rest_pass previous v links pass) j (omega arith)
  numbers_rise previous (v ∷ links) pass (suc i) (suc j) k l = numbers_rise (some v.number) links (rest_pass previous v links pass) i j (omega arith) (omega arith)

pub is_passing : (t : Table) → table_refusal t ≡ 0 → Passing t
is_passing t e =
    record {
      counts = counts_fit t.lines (length t.links) (not-false (counts_in_range t.lines (length t.links)) (counts_unmet t e).0);
      fields = λ i l. members_pass t.lines none t.links (links_unmet t e) (mem_at t.links i l);
      rising = numbers_rise t.lines none t.links (links_unmet t e);
      carried = not-false (none_oversold t.lines t.links) (lines_unmet t e).0;
      sizes = sizes_fit t.sizes (sizes_unmet t e);
    }
