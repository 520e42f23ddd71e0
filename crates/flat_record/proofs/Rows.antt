-- Rows of four numbers copied one after the other, to a list or from it; and those behind so many links.
use mathlib.Core.Path.{◌≡◌, ◌∙◌}
use mathlib.Core.List.{List}
use Prim.Native.Nat.{ℕ, zero, suc, ◌+◌, ◌-◌, ◌*◌, ◌/◌, ◌%◌, ◌≤◌, ◌<◌}
use native.Mathlib.Decide.{ℕ_discrete}
use native.Mathlib.Omega.{arith}
use lib.ListN.{length, get_or, set, drop, length-set, length-drop}
use lib.Seq.{ext_get_or, get_or-drop, get_or-set_same, get_or-set_other}
use Rattle.counters.specs.View.{rows_from}
use Rattle.counters.proofs.Rows.{rows_same}
use Rattle.flat_record.specs.Promised.{CountsPut, CountsRead}

-- ---- four numbers, side by side, from one place of a list to one place of another
abbrev pub four_copied : (l : List ℕ) (at : ℕ) (m : List ℕ) (from : ℕ) → List ℕ
four_copied l at m from = set (set (set (set l at (get_or m from 0)) (at + 1) (get_or m (from + 1) 0)) (at + 2) (get_or m (from + 2) 0)) (at + 3) (get_or m (from + 3) 0)

module _ (l : List ℕ) (at : ℕ) (m : List ℕ) (from : ℕ) where
  abbrev one : List ℕ
  one = set l at (get_or m from 0)

  abbrev two : List ℕ
  two = set one (at + 1) (get_or m (from + 1) 0)

  abbrev three : List ℕ
  three = set two (at + 2) (get_or m (from + 2) 0)

  others : (k : ℕ) → (k ≡ at → ⊥) → (k ≡ at + 1 → ⊥) → (k ≡ at + 2 → ⊥) → (k ≡ at + 3 → ⊥) → get_or (four_copied l at m from) k 0 ≡ get_or l k 0
  others k p q r s =
      rw (
        get_or-set_other three (at + 3) k (get_or m (from + 3) 0) 0 s,
        get_or-set_other two (at + 2) k (get_or m (from + 2) 0) 0 r,
        get_or-set_other one (at + 1) k (get_or m (from + 1) 0) 0 q,
        get_or-set_other l at k (get_or m from 0) 0 p,
      )

  module _ (h : at + 3 < length l) where
    here : (v : ℕ) → v < 4 → get_or (four_copied l at m from) (at + v) 0 ≡ get_or m (from + v) 0
    here zero k =
        let x : at + 0 ≡ at = omega arith in
        let y : from + 0 ≡ from = omega arith in
        rw (
          x,
          y,
          get_or-set_other three (at + 3) at (get_or m (from + 3) 0) 0 (λ z. omega arith),
          get_or-set_other two (at + 2) at (get_or m (from + 2) 0) 0 (λ z. omega arith),
          get_or-set_other one (at + 1) at (get_or m (from + 1) 0) 0 (λ z. omega arith),
          get_or-set_same l at (get_or m from 0) 0 (omega arith),
        )
    here (suc zero) k =
        rw (
          get_or-set_other three (at + 3) (at + 1) (get_or m (from + 3) 0) 0 (λ z. omega arith),
          get_or-set_other two (at + 2) (at + 1) (get_or m (from + 2) 0) 0 (λ z. omega arith),
          get_or-set_same one (at + 1) (get_or m (from + 1) 0) 0 (rw length-set (omega arith)),
        )
    here (suc (suc zero)) k =
        rw (
          get_or-set_other three (at + 3) (at + 2) (get_or m (from + 3) 0) 0 (λ z. omega arith),
          get_or-set_same two (at + 2) (get_or m (from + 2) 0) 0 (rw (length-set, length-set) (omega arith)),
        )
    here (suc (suc (suc zero))) k =
        get_or-set_same three (at + 3) (get_or m (from + 3) 0) 0 (rw (length-set, length-set, length-set) (omega arith))
    here (suc (suc (suc (suc v)))) k = absurd (omega arith)

-- ---- the first i rows
-- of the list are those of the counts
abbrev pub Laid : (tallies counts : List ℕ) → ℕ → Type 0
Laid tallies counts i = (j v : ℕ) → j < i → v < 4 → get_or tallies (5 * j + v) 0 ≡ get_or counts (4 * j + v) 0

pub one_laid : (tallies counts : List ℕ) (i : ℕ) → i < 256 → length tallies ≡ 1281 → Laid tallies counts i → Laid (four_copied tallies (5 * i) counts (4 * i)) counts (i + 1)
one_laid tallies counts i few n c j v h k = go (ℕ_discrete j i)
  where
    go : Dec (j ≡ i) → get_or (four_copied tallies (5 * i) counts (4 * i)) (5 * j + v) 0 ≡ get_or counts (4 * j + v) 0
    go (yes e) = rw e (here tallies (5 * i) counts (4 * i) (omega arith) v k)
    go (no d) = others tallies (5 * i) counts (4 * i) (5 * j + v) (λ z. omega arith) (λ z. omega arith) (λ z. omega arith) (λ z. omega arith) ∙ c j v (omega arith) k

pub all_laid : (tallies counts : List ℕ) (unknown i : ℕ) → 256 ≤ i → length tallies ≡ 1281 → Laid tallies counts i → CountsPut counts unknown (set tallies 1280 unknown)
all_laid tallies counts unknown i h n c =
    record {
      counters_are =
          λ m few.
          let rows : rows_from 5 0 m (set tallies 1280 unknown) ≡ rows_from 4 0 m counts = rows_same 5 4 0 0 m (set tallies 1280 unknown) counts (λ j v b k. rw (zero_on (5 * j), zero_on (4 * j)) (each j v (omega arith) k)) in
          rw (rows, last);
      each = each;
      unknown_is = last;
      room = rw length-set n;
    }
  where
    zero_on : (k : ℕ) → 0 + k ≡ k
    zero_on k = omega arith

    last : get_or (set tallies 1280 unknown) 1280 0 ≡ unknown
    last = get_or-set_same tallies 1280 unknown 0 (omega arith)

    each : (j v : ℕ) → j < 256 → v < 4 → get_or (set tallies 1280 unknown) (5 * j + v) 0 ≡ get_or counts (4 * j + v) 0
    each j v b k = get_or-set_other tallies 1280 (5 * j + v) unknown 0 (λ z. omega arith) ∙ c j v (omega arith) k

-- of the counts are those of the list
abbrev pub Taken : (counts tallies : List ℕ) → ℕ → Type 0
Taken counts tallies i = (j v : ℕ) → j < i → v < 4 → get_or counts (4 * j + v) 0 ≡ get_or tallies (5 * j + v) 0

pub one_taken : (counts tallies : List ℕ) (i : ℕ) → i < 256 → length counts ≡ 1024 → Taken counts tallies i → Taken (four_copied counts (4 * i) tallies (5 * i)) tallies (i + 1)
one_taken counts tallies i few n c j v h k = go (ℕ_discrete j i)
  where
    go : Dec (j ≡ i) → get_or (four_copied counts (4 * i) tallies (5 * i)) (4 * j + v) 0 ≡ get_or tallies (5 * j + v) 0
    go (yes e) = rw e (here counts (4 * i) tallies (5 * i) (omega arith) v k)
    go (no d) = others counts (4 * i) tallies (5 * i) (4 * j + v) (λ z. omega arith) (λ z. omega arith) (λ z. omega arith) (λ z. omega arith) ∙ c j v (omega arith) k

pub all_taken : (counts tallies : List ℕ) (i : ℕ) → 256 ≤ i → length counts ≡ 1024 → Taken counts tallies i → CountsRead tallies counts
all_taken counts tallies i h n c =
    record {
      counters_are =
          λ m few.
          let rows : rows_from 4 0 m counts ≡ rows_from 5 0 m tallies = rows_same 4 5 0 0 m counts tallies (λ j v b k. rw (zero_on (5 * j), zero_on (4 * j)) (c j v (omega arith) k)) in
          rw rows;
      each = λ j v b k. c j v (omega arith) k;
      all = n;
    }
  where
    zero_on : (k : ℕ) → 0 + k ≡ k
    zero_on k = omega arith

-- ---- put, and read again: where the numbers behind those of n links stayed, so did the counts behind n links
pub counts_stay : {counts tallies tallies' counts' : List ℕ} {unknown : ℕ} → CountsPut counts unknown tallies → CountsRead tallies' counts' → length counts ≡ 1024 → (n : ℕ) →
    ((k : ℕ) → 5 * n ≤ k → k < 1280 → get_or tallies' k 0 ≡ get_or tallies k 0) → drop (4 * n) counts' ≡ drop (4 * n) counts
counts_stay {counts} {tallies} {tallies'} {counts'} put read size n same =
    ext_get_or 0 (drop (4 * n) counts') (drop (4 * n) counts) (rw (length-drop (4 * n) counts', length-drop (4 * n) counts) (omega (arith, read.all)))
    (λ k h. rw (get_or-drop (4 * n) counts' k 0, get_or-drop (4 * n) counts k 0) (there (4 * n + k) (omega arith) (let b : k < length counts' - 4 * n = rw length-drop at h in omega (arith, read.all))))
  where
    there : (k : ℕ) → 4 * n ≤ k → k < 1024 → get_or counts' k 0 ≡ get_or counts k 0
    there k low high =
        let e : k ≡ 4 * (k / 4) + k % 4 = omega arith in
        rw e (read.each (k / 4) (k % 4) (omega arith) (omega arith) ∙ same (5 * (k / 4) + k % 4) (omega arith) (omega arith) ∙ put.each (k / 4) (k % 4) (omega arith) (omega arith))
