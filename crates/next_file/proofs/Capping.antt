-- A table with capped sizes is refused, or written, as with the sizes themselves.
use mathlib.Core.Path.{◌≡◌, refl, sym, ap, ◌∙◌}
use mathlib.Core.Bool.{Bool, true, false, ◌&&◌, and-eq-true_iff}
use mathlib.Core.List.{List, [], ◌∷◌, ◌++◌, map}
use Prim.Native.Nat.{ℕ, zero, suc, ◌+◌, ◌≤◌, ◌<◌, min}
use native.Mathlib.Decide.{dec_le}
use native.Mathlib.Omega.{arith}
use lib.Dec.{eqb, leb, ltb}
use borrow.Author.Tests.{not-false, leb-true, le-leb, lt-leb}
use lib.ListN.{length, get_or, take, set, replicate, length-map}
use lib.Seq.{take_all}
use Rattle.model.specs.Basics.{entries, check, first_met}
use Rattle.model.specs.Link.{VirtualLink}
use Rattle.model.specs.Table.{Table, all_at_most, table_checks}
use Rattle.model.specs.TableFile.{file_length, wrote_or, write_table}
use Rattle.model.proofs.Entries.{entries_blank, took_more}
use Rattle.model.proofs.TableFacts.{sizes_unmet}
use Rattle.table_file.proofs.Answers.{not_refused_passes}
use Rattle.next_file.specs.Answer.{size_cap}

abbrev pub cap : ℕ → ℕ
cap n = min n size_cap

cap_within : (n : ℕ) → leb (cap n) 16_384 ≡ leb n 16_384
cap_within n =
    elim (dec_le n 16_384) [
      | yes h ↦ le-leb (cap n) 16_384 (omega arith) ∙ sym (le-leb n 16_384 h)
      | no h ↦ lt-leb (cap n) 16_384 (omega arith) ∙ sym (lt-leb n 16_384 (omega arith))
    ]

all_within : (l : List ℕ) → all_at_most 16_384 (map cap l) ≡ all_at_most 16_384 l
unfolding all_at_most
all_within [] = refl
all_within (n ∷ l) = rw (cap_within n, all_within l)

cap_same : (l : List ℕ) → all_at_most 16_384 l ≡ true → map cap l ≡ l
unfolding all_at_most
cap_same [] e = refl
cap_same (n ∷ l) e = go (leb n 16_384) refl e (cap_same l)
  where
    go : (b : Bool) → leb n 16_384 ≡ b → (b && all_at_most 16_384 l) ≡ true → (all_at_most 16_384 l ≡ true → map cap l ≡ l) → map cap (n ∷ l) ≡ n ∷ l
    go true q x more =
        let m : n ≤ 16_384 = leb-true n 16_384 q in
        let same : cap n ≡ n = omega arith in
        rw (same, more x)
    go false q x more = absurd (let z : ◌≡◌ {A = ℕ} 0 1 = cc in omega arith)

-- a table by its parts
abbrev pub whole : ℕ → List VirtualLink → List ℕ → Table
whole lines links sizes = record { lines = lines; links = links; sizes = sizes }

module _ (lines : ℕ) (links : List VirtualLink) (sizes output : List ℕ) where
  checks_same : table_checks (whole lines links (map cap sizes)) ≡ table_checks (whole lines links sizes)
  unfolding table_checks
  checks_same = rw (all_within sizes, length-map sizes cap)

  passed_same : (n : ℕ) → first_met (table_checks (whole lines links sizes) ++ (check 9 (ltb (length output) (file_length (whole lines links sizes))) ∷ [])) ≡ n
      → wrote_or n (whole lines links (map cap sizes)) output ≡ wrote_or n (whole lines links sizes) output
  unfolding wrote_or write_table
  passed_same zero q =
      let unmet = sizes_unmet (whole lines links sizes) (not_refused_passes (whole lines links sizes) output (rw q)) in
      rw (cap_same sizes ((and-eq-true_iff (eqb (length sizes) 8) (all_at_most 16_384 sizes)).0 (not-false _ unmet.0)).1)
  passed_same (suc n) q = refl

  pub write_same : write_table (whole lines links (map cap sizes)) output ≡ write_table (whole lines links sizes) output
  unfolding write_table
  write_same = rw checks_same (passed_same _ refl)

-- ---- sizes capped one by one
entries_full : (n : ℕ) (l : List ℕ) → length l ≡ n → entries 0 n l ≡ l
unfolding entries
entries_full zero [] e = refl
entries_full zero (x ∷ l) e = absurd (omega arith)
entries_full (suc n) [] e = absurd (omega arith)
entries_full (suc n) (x ∷ l) e = ap (λ (r : List ℕ). x ∷ r) (entries_full n l (omega arith))

pub capped_none : (sizes : List ℕ) → replicate 8 0 ≡ entries 0 8 (map cap (take 0 sizes))
capped_none sizes = sym (entries_blank {A = ℕ} 0 8)

pub capped_more : (sizes fields : List ℕ) (p : ℕ) → length sizes ≡ 8 → p < 8 → fields ≡ entries 0 8 (map cap (take p sizes)) → (n : ℕ) → n ≡ cap (get_or sizes p 0)
    → set fields p n ≡ entries 0 8 (map cap (take (p + 1) sizes))
capped_more sizes fields p l h e n f =
    let one : p + 1 ≡ suc p = omega arith in
    rw (one, e, f) (took_more 0 cap 8 sizes p 0 (omega arith) h)

pub capped_all : (sizes fields : List ℕ) (p : ℕ) → length sizes ≡ 8 → p ≡ 8 → fields ≡ entries 0 8 (map cap (take p sizes)) → fields ≡ map cap sizes
capped_all sizes fields p l h e = e ∙ rw (take_all p sizes (omega arith)) (entries_full 8 (map cap sizes) (length-map sizes cap ∙ l))
