-- Rows of four numbers in a list: one read, one number set.
use mathlib.Core.Path.{◌≡◌, refl, ap, ◌∙◌}
use mathlib.Core.List.{List, []}
use Prim.Native.Nat.{ℕ, zero, suc, ◌+◌, ◌*◌, ◌≤◌, ◌<◌}
use native.Mathlib.Nat.{mul-zero, mul-suc}
use native.Mathlib.Omega.{arith}
use lib.ListN.{length, get_or, set, replicate}
use lib.Seq.{get_or-set_same, get_or-set_other}
use Rattle.model.specs.Counters.{verdicts}
use Rattle.counters.specs.View.{four_at, rows_from}

-- a row begins some numbers further on
further_on : (at s i : ℕ) → at + s + s * i ≡ at + s * suc i
further_on at s i = omega (arith, mul-suc s i)

-- ---- a row
pub four_read : (l : List ℕ) (at v : ℕ) → v < 4 → get_or (four_at l at) v 0 ≡ get_or l (at + v) 0
unfolding four_at
four_read l at zero h = refl
four_read l at (suc zero) h = refl
four_read l at (suc (suc zero)) h = refl
four_read l at (suc (suc (suc zero))) h = refl
four_read l at (suc (suc (suc (suc v)))) h = absurd (omega arith)

four_same : (l l' : List ℕ) (at at' : ℕ) → ((v : ℕ) → v < 4 → get_or l (at + v) 0 ≡ get_or l' (at' + v) 0) → four_at l at ≡ four_at l' at'
unfolding four_at
four_same l l' at at' e =
    let a : get_or l (at + 0) 0 ≡ get_or l' (at' + 0) 0 = e 0 (omega arith) in
    let b : get_or l (at + 1) 0 ≡ get_or l' (at' + 1) 0 = e 1 (omega arith) in
    let c : get_or l (at + 2) 0 ≡ get_or l' (at' + 2) 0 = e 2 (omega arith) in
    let d : get_or l (at + 3) 0 ≡ get_or l' (at' + 3) 0 = e 3 (omega arith) in
    rw (a, b, c, d)

four_other : (l : List ℕ) (at k x : ℕ) → ((v : ℕ) → v < 4 → at + v ≡ k → ⊥) → four_at (set l k x) at ≡ four_at l at
four_other l at k x e = four_same (set l k x) l at at (λ v h. get_or-set_other l k (at + v) x 0 (e v h))

four_set : (l : List ℕ) (at v x : ℕ) → v < 4 → at + v < length l → four_at (set l (at + v) x) at ≡ set (four_at l at) v x
unfolding four_at
four_set l at v x h m = go v h refl
  where
    same : (u : ℕ) → v ≡ u → get_or (set l (at + v) x) (at + u) 0 ≡ x
    same u e = rw (← e) (get_or-set_same l (at + v) x 0 m)

    other : (u w : ℕ) → v ≡ u → (u ≡ w → ⊥) → get_or (set l (at + v) x) (at + w) 0 ≡ get_or l (at + w) 0
    other u w e n = get_or-set_other l (at + v) (at + w) x 0 (λ y. n (omega arith))

    go : (u : ℕ) → u < 4 → v ≡ u → four_at (set l (at + v) x) at ≡ set (four_at l at) u x
    go zero k e = let a = same 0 e in let b = other 0 1 e (λ z. omega arith) in let c = other 0 2 e (λ z. omega arith) in let d = other 0 3 e (λ z. omega arith) in cc
    go (suc zero) k e = let a = other 1 0 e (λ z. omega arith) in let b = same 1 e in let c = other 1 2 e (λ z. omega arith) in let d = other 1 3 e (λ z. omega arith) in cc
    go (suc (suc zero)) k e = let a = other 2 0 e (λ z. omega arith) in let b = other 2 1 e (λ z. omega arith) in let c = same 2 e in let d = other 2 3 e (λ z. omega arith) in cc
    go (suc (suc (suc zero))) k e = let a = other 3 0 e (λ z. omega arith) in let b = other 3 1 e (λ z. omega arith) in let c = other 3 2 e (λ z. omega arith) in let d = same 3 e in cc
    go (suc (suc (suc (suc u)))) k e = absurd (omega arith)

-- ---- rows
pub row_at : (s at n : ℕ) (l : List ℕ) (i : ℕ) → i < n → get_or (rows_from s at n l) i [] ≡ four_at l (at + s * i)
unfolding rows_from
row_at s at zero l i h = absurd (omega arith)
row_at s at (suc n) l zero h = let e : at ≡ at + s * 0 = omega (arith, mul-zero s) in ap (four_at l) e
row_at s at (suc n) l (suc i) h = row_at s (at + s) n l i (omega arith) ∙ ap (four_at l) (further_on at s i)

pub count_read : (s at n : ℕ) (l : List ℕ) (i v : ℕ) → i < n → v < 4 → get_or (get_or (rows_from s at n l) i []) v 0 ≡ get_or l (at + s * i + v) 0
count_read s at n l i v h m = rw (row_at s at n l i h) (four_read l (at + s * i) v m)

-- rows with the same numbers
pub rows_same : (s s' at at' n : ℕ) (l l' : List ℕ) → ((i v : ℕ) → i < n → v < 4 → get_or l (at + s * i + v) 0 ≡ get_or l' (at' + s' * i + v) 0) → rows_from s at n l ≡ rows_from s' at' n l'
unfolding rows_from
rows_same s s' at at' zero l l' e = refl
rows_same s s' at at' (suc n) l l' e =
    let head : four_at l at ≡ four_at l' at' = four_same l l' at at' (λ v h. let a : at ≡ at + s * 0 = omega (arith, mul-zero s) in let b : at' ≡ at' + s' * 0 = omega (arith, mul-zero s') in rw (a, b) (e 0 v (omega arith) h)) in
    let tail : rows_from s (at + s) n l ≡ rows_from s' (at' + s') n l' = rows_same s s' (at + s) (at' + s') n l l' (λ i v h m. rw (further_on at s i, further_on at' s' i) (e (suc i) v (omega arith) m)) in
    cc

pub rows_other : (s at n : ℕ) (l : List ℕ) (k x : ℕ) → ((i v : ℕ) → i < n → v < 4 → at + s * i + v ≡ k → ⊥) → rows_from s at n (set l k x) ≡ rows_from s at n l
rows_other s at n l k x e = rows_same s s at at n (set l k x) l (λ i v h m. get_or-set_other l k (at + s * i + v) x 0 (e i v h m))

-- one number of a row is set
pub rows_set : (s at n : ℕ) (l : List ℕ) (i v x : ℕ) → 4 ≤ s → i < n → v < 4 → at + s * i + v < length l →
    rows_from s at n (set l (at + s * i + v) x) ≡ set (rows_from s at n l) i (set (four_at l (at + s * i)) v x)
unfolding rows_from
rows_set s at zero l i v x w h m b = absurd (omega arith)
rows_set s at (suc n) l zero v x w h m b =
    let z : at + s * 0 ≡ at = omega (arith, mul-zero s) in
    rw z
    (let head : four_at (set l (at + v) x) at ≡ set (four_at l at) v x = four_set l at v x m (rw z at b) in
    let tail : rows_from s (at + s) n (set l (at + v) x) ≡ rows_from s (at + s) n l = rows_other s (at + s) n l (at + v) x (λ j u hj hu e. omega arith) in
    cc)
rows_set s at (suc n) l (suc i) v x w h m b =
    let head : four_at (set l (at + s * suc i + v) x) at ≡ four_at l at = four_other l at (at + s * suc i + v) x (λ u hu y. omega (arith, mul-suc s i)) in
    let tail = there (at + s * suc i) (further_on at s i) (rows_set s (at + s) n l i v x w (omega arith) m (omega (arith, mul-suc s i))) in
    cc
  where
    Row : ℕ → Type 0
    Row k = rows_from s (at + s) n (set l (k + v) x) ≡ set (rows_from s (at + s) n l) i (set (four_at l k) v x)

    there : (k : ℕ) → at + s + s * i ≡ k → Row (at + s + s * i) → Row k
    there k e h = rw (← e) h

-- ---- a count where it stands in the list
module _ (s n : ℕ) (l : List ℕ) (i v : ℕ) {k : ℕ} (e : k ≡ s * i + v) (h : i < n) (m : v < 4) where
  pub count_at_lem : get_or (get_or (rows_from s 0 n l) i []) v 0 ≡ get_or l k 0
  count_at_lem = let z : k ≡ 0 + s * i + v = omega arith in rw z (count_read s 0 n l i v h m)

  pub count_set : (x : ℕ) → 4 ≤ s → k < length l → rows_from s 0 n (set l k x) ≡ set (rows_from s 0 n l) i (set (get_or (rows_from s 0 n l) i []) v x)
  count_set x w b = let z : k ≡ 0 + s * i + v = omega arith in rw (row_at s 0 n l i h, z) (rows_set s 0 n l i v x w h m (omega arith))

-- ---- nothing counted
pub rows_none : (s at n m : ℕ) → rows_from s at n (replicate m 0) ≡ replicate n (replicate verdicts 0)
unfolding rows_from four_at
rows_none s at zero m = refl
rows_none s at (suc n) m =
    let a : get_or {A = ℕ} (replicate m 0) (at + 0) 0 ≡ 0 = zeros m (at + 0) in
    let b : get_or {A = ℕ} (replicate m 0) (at + 1) 0 ≡ 0 = zeros m (at + 1) in
    let c : get_or {A = ℕ} (replicate m 0) (at + 2) 0 ≡ 0 = zeros m (at + 2) in
    let d : get_or {A = ℕ} (replicate m 0) (at + 3) 0 ≡ 0 = zeros m (at + 3) in
    let tail : rows_from s (at + s) n (replicate m 0) ≡ replicate n (replicate verdicts 0) = rows_none s (at + s) n m in
    rw (a, b, c, d, tail)
  where
    zeros : (k i : ℕ) → get_or {A = ℕ} (replicate k 0) i 0 ≡ 0
    zeros zero i = refl
    zeros (suc k) zero = refl
    zeros (suc k) (suc i) = zeros k i
