-- Counts in a list, four a link, and the model's sums of them.
use mathlib.Core.Path.{◌≡◌, refl, sym, ◌∙◌}
use mathlib.Core.List.{List, [], ◌∷◌, ◌++◌}
use Prim.Native.Nat.{ℕ, zero, suc, ◌+◌, ◌-◌, ◌*◌, ◌^◌, ◌≤◌, ◌<◌}
use native.Mathlib.Numerals.{add-one, unary_clauses}
use native.Mathlib.Omega.{arith}
use Rattle.std.specs.List.{sum}
use lib.ListN.{length, take, drop, set, replicate, length-append}
use Rattle.model.specs.Basics.{entries, sum_to}
use Rattle.model.specs.Units.{full_count}
use Rattle.model.specs.Counters.{Counters, verdicts, count_at, link_sum, link_sums, grand_total}
use Rattle.model.proofs.Entries.{entries_blank, entries_next}
use Rattle.model.proofs.Queues.{sum_to_ext}
use Rattle.model.proofs.Counting.{FitCounts, fit_counts}
use Rattle.counters.specs.View.{four_at, view_counts}
use Rattle.counters.proofs.Rows.{count_at_lem}
use Rattle.counter_sums.specs.Adding.{count_in, Few}

four_further : (x : ℕ) (l : List ℕ) (at : ℕ) → four_at l at ≡ four_at (x ∷ l) (suc at)
unfolding four_at
four_further x l at = simp unary_clauses

-- ---- the four counts of a link, as they stand in the list
four_taken : (l : List ℕ) (at n : ℕ) → n ≡ 4 → at + 4 ≤ length l → take n (drop at l) ≡ four_at l at
unfolding four_at
four_taken [] at n e h = absurd (omega arith)
four_taken (a ∷ []) zero n e h = absurd (omega arith)
four_taken (a ∷ b ∷ []) zero n e h = absurd (omega arith)
four_taken (a ∷ b ∷ c ∷ []) zero n e h = absurd (omega arith)
four_taken (a ∷ b ∷ c ∷ d ∷ l) zero n e h = rw e
four_taken (x ∷ l) (suc at) n e h = four_taken l at n e (omega arith) ∙ four_further x l at

abbrev pub of_link : List ℕ → ℕ → List ℕ
of_link counts i = take (4 * i + 4 - 4 * i) (drop (4 * i) counts)

pub sum_of_four : (counts : List ℕ) (i : ℕ) → 4 * i + 4 ≤ length counts → sum (of_link counts i) ≡ sum_to (count_in counts i) verdicts
unfolding four_at sum_to
sum_of_four counts i h = rw (four_taken counts (4 * i) (4 * i + 4 - 4 * i) (omega arith) h)

pub sum_fits : (counts : List ℕ) (i : ℕ) → 4 * i + 4 ≤ length counts → ((v : ℕ) → v < verdicts → count_in counts i v ≤ full_count) → sum (of_link counts i) < 2 ^ 64
unfolding sum_to
sum_fits counts i h few = omega (arith, sum_of_four counts i h, few 0 (omega arith), few 1 (omega arith), few 2 (omega arith), few 3 (omega arith))

-- ---- the first i links of counts that are at most full
module _ (counts : List ℕ) (unknown n : ℕ) (few : Few counts unknown n) where
  abbrev c : Counters
  c = view_counts n counts unknown

  at_most : FitCounts n c
  at_most = fit_counts n c few.each

  pub each_few : (i : ℕ) → i < n → (v : ℕ) → v < verdicts → count_in counts i v ≤ full_count
  each_few i h v m = rw (← count_at_lem 4 n counts i v {k = 4 * i + v} refl h m) (at_most.of_link_lem i v h m)

  sum_is : (i : ℕ) → i < n → sum_to (count_in counts i) verdicts ≡ link_sum c i
  unfolding link_sum
  sum_is i h = sum_to_ext (count_in counts i) (count_at c i) verdicts (λ v m. sym (count_at_lem 4 n counts i v {k = 4 * i + v} refl h m))

  sum_most : (i : ℕ) → i < n → link_sum c i ≤ 4 * full_count
  unfolding link_sum sum_to
  sum_most i h = omega (arith, at_most.of_link_lem i 0 h (omega arith), at_most.of_link_lem i 1 h (omega arith), at_most.of_link_lem i 2 h (omega arith), at_most.of_link_lem i 3 h (omega arith))

  total_most : (i : ℕ) → i ≤ n → grand_total i c ≤ (4 * i + 1) * full_count
  unfolding grand_total sum_to
  total_most zero h = omega (arith, at_most.of_unknown)
  total_most (suc i) h = omega (arith, total_most i (omega arith), sum_most i h)

  length_sums : (i : ℕ) → length (link_sums i c) ≡ i
  unfolding link_sums
  length_sums zero = refl
  length_sums (suc i) = length-append (link_sums i c) (link_sum c i ∷ []) ∙ omega (arith, length_sums i)

  pub sums_none : replicate 256 0 ≡ entries 0 256 (link_sums 0 c)
  unfolding link_sums
  sums_none = sym (entries_blank {A = ℕ} 0 256)

  pub total_none : unknown ≡ grand_total 0 c
  unfolding grand_total sum_to
  total_none = omega arith

  -- a link more
  module _ (i : ℕ) (h : i < n) {x : ℕ} (e : x ≡ sum_to (count_in counts i) verdicts) where
    -- so no sum wraps
    pub total_fits : grand_total i c + x < 2 ^ 64
    total_fits = omega (arith, few.links, e, sum_is i h, sum_most i h, total_most i (omega arith))

    pub sums_more : set (entries 0 256 (link_sums i c)) i x ≡ entries 0 256 (link_sums (i + 1) c)
    unfolding link_sums
    sums_more =
        let next : set (entries 0 256 (link_sums i c)) (length (link_sums i c)) (link_sum c i) ≡ entries 0 256 (link_sums i c ++ (link_sum c i ∷ [])) = entries_next 0 256 (link_sums i c) (link_sum c i) (omega (arith, length_sums i, few.links)) in
        rw (add-one, e, sum_is i h) (rw (length_sums i) at next)

    pub total_more : grand_total i c + x ≡ grand_total (i + 1) c
    unfolding grand_total sum_to
    total_more = rw add-one (omega (arith, e, sum_is i h))
