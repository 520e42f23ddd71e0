-- The place of a number: the first link that has it; of numbers that rise, std's binary search finds it.
use mathlib.Core.Path.{◌≡◌, refl, sym, ◌∙◌}
use mathlib.Core.Option.{none, some}
use mathlib.Core.List.{List, [], ◌∷◌}
use Prim.Native.Nat.{ℕ, zero, suc, ◌≤◌, ◌<◌}
use native.Mathlib.Omega.{arith}
use native.Mathlib.Decide.{dec_le, ℕ_discrete}
use borrow.Author.Tests.{eq-eqb, ne_eqb}
use Rattle.std.proofs.Common.{length, get_or, take, Result, MatchResult, Some, None, Ok, Err, nat_cmp, length-take-le, get_or-take}
use Rattle.std.specs.List.Sorted.{IsBinarySearchResult}
use Rattle.std.specs.Result.{result_ok}
use Rattle.std.proofs.lemmas.List.Sorted.{searched}
use Rattle.model.specs.Basics.{further}
use Rattle.model.specs.Link.{VirtualLink, link_at, place_of}
use Rattle.table_lookup.specs.Places.{Rising, Found}

-- ---- the first link that has it
pub place_at : (n : ℕ) (links : List VirtualLink) (k : ℕ) → k < length links → (link_at links k).number ≡ n
    → ((j : ℕ) → j < k → (link_at links j).number ≡ n → ⊥) → place_of n links ≡ some k
unfolding place_of further
place_at n [] k h e before = absurd (omega arith)
place_at n (v ∷ links) zero h e before = rw (eq-eqb v.number n e)
place_at n (v ∷ links) (suc k) h e before =
    rw (ne_eqb v.number n (before 0 (omega arith)), place_at n links k (omega arith) e (λ j l. before (suc j) (omega arith)))

place_none : (n : ℕ) (links : List VirtualLink) → ((j : ℕ) → j < length links → (link_at links j).number ≡ n → ⊥) → place_of n links ≡ none
unfolding place_of further
place_none n [] none_has = refl
place_none n (v ∷ links) none_has = rw (ne_eqb v.number n (none_has 0 (omega arith)), place_none n links (λ j l. none_has (suc j) (omega arith)))

module _ {numbers : List ℕ} {n number : ℕ} where
  -- a place that has the number, guessed or found
  pub found_guess : Rising numbers n → {i : ℕ} → i < n → get_or numbers i 0 ≡ number → Found numbers n number (Some i)
  found_guess rising {i} h e =
      record {
        place = λ links k.
            let c : length links ≡ n = k.count in
            place_at number links i (omega arith) (k.number i h ∙ e)
            (λ j l x. omega (arith, rising j i l h, k.number j (omega arith)));
        below = λ j x. let y : i ≡ j = cc in omega arith;
      }

  pub found_nowhere : ((j : ℕ) → j < n → get_or numbers j 0 ≡ number → ⊥) → Found numbers n number None
  found_nowhere missing =
      record {
        place = λ links k.
            place_none number links
            (λ j l x. let c : j < n = omega (arith, k.count) in missing j c (sym (k.number j c) ∙ x));
        below = λ i x. absurd (let z : ◌≡◌ {A = ℕ} 0 1 = cc in omega arith);
      }

  pub found_searched : Rising numbers n → n ≤ length numbers → (r : Result ℕ ℕ) → IsBinarySearchResult (λ y. nat_cmp y number) (take n numbers) r → Found numbers n number (result_ok r)
  found_searched rising h r s = cases r (searched (take n numbers) number r s up)
    where
      long : length (take n numbers) ≡ n
      long = length-take-le n numbers h

      same : (k : ℕ) → k < n → get_or (take n numbers) k 0 ≡ get_or numbers k 0
      same k l = get_or-take n numbers k 0 l

      up : (i j : ℕ) → i ≤ j → j < length (take n numbers) → get_or (take n numbers) i 0 ≤ get_or (take n numbers) j 0
      up i j l m = go (ℕ_discrete i j)
        where
          go : Dec (i ≡ j) → get_or (take n numbers) i 0 ≤ get_or (take n numbers) j 0
          go (yes e) = rw e (omega arith)
          go (no e) = omega (arith, same i (omega (arith, long)), same j (omega (arith, long)), rising i j (omega arith) (omega (arith, long)))

      cases : (r : Result ℕ ℕ) → MatchResult r (λ i. (i < length (take n numbers)) × (get_or (take n numbers) i 0 ≡ number)) (λ i. (i ≤ length (take n numbers)) × ((k : ℕ) → k < i → get_or (take n numbers) k 0 < number) × ((k : ℕ) → i ≤ k → k < length (take n numbers) → number < get_or (take n numbers) k 0)) → Found numbers n number (result_ok r)
      cases (Ok i) f = let l : i < n = omega (arith, long) in found_guess rising l (sym (same i l) ∙ f.1)
      cases (Err i) f = found_nowhere (λ j l e. missing j l e (dec_le i j))
        where
          missing : (j : ℕ) → j < n → get_or numbers j 0 ≡ number → Dec (i ≤ j) → ⊥
          missing j l e (yes m) = omega (arith, same j l, f.2 j m (omega (arith, long)))
          missing j l e (no m) = omega (arith, same j l, f.1 j (omega arith))
