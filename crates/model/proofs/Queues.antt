-- Sums over the queues, what is true of each frame of a queue, and the highest waiting priority.
use mathlib.Core.Path.{◌≡◌, refl, ap}
use mathlib.Core.Logic.{◌≢◌, inl, inr}
use mathlib.Core.Option.{Option, none, some}
use mathlib.Core.List.{List, [], ◌∷◌, ◌++◌}
use Prim.Native.Nat.{ℕ, zero, suc, ◌+◌, ◌≤◌, ◌<◌}
use native.Mathlib.Nat.{le_refl, eq-or-lt_of_le}
use native.Mathlib.Decide.{ℕ_discrete}
use native.Mathlib.Omega.{arith}
use lib.ListN.{length, get_or, drop, set}
use lib.Seq.{get_or-set_same, get_or-set_other}
use Rattle.model.specs.Basics.{sum_to, further, Each, done, also}
use Rattle.model.specs.Machine.{Frame, blank_frame, queue_of, highest_waiting, bytes}
use Rattle.model.specs.Promises.{Weight}
use Rattle.model.proofs.Lists.{each_of_both}

-- the sum of the lengths
abbrev pub wire_bytes : List Frame → ℕ
wire_bytes l = bytes (λ n. n) l

-- ---- sums of numbers
pub sum_to_ext : (f g : ℕ → ℕ) (n : ℕ) → ((k : ℕ) → k < n → f k ≡ g k) → sum_to f n ≡ sum_to g n
unfolding sum_to
sum_to_ext f g zero h = refl
sum_to_ext f g (suc n) h = omega (arith, sum_to_ext f g n (λ k l. h k (omega arith)), h n (le_refl (suc n)))

pub sum_to_change : (f g : ℕ → ℕ) (r n : ℕ) → r < n → ((k : ℕ) → k < n → k ≢ r → f k ≡ g k) → sum_to f n + g r ≡ sum_to g n + f r
unfolding sum_to
sum_to_change f g r zero l h = absurd (omega arith)
sum_to_change f g r (suc n) l h = go (ℕ_discrete n r) (sum_to_change f g r n)
  where
    go : Dec (n ≡ r) → (r < n → ((k : ℕ) → k < n → k ≢ r → f k ≡ g k) → sum_to f n + g r ≡ sum_to g n + f r) → sum_to f n + f n + g r ≡ sum_to g n + g n + f r
    go (yes e) ih = rw (← e) (omega (arith, sum_to_ext f g n (λ k m. h k (omega arith) (λ x. omega arith))))
    go (no e) ih = omega (arith, ih (omega arith) (λ k m. h k (omega arith)), h n (le_refl (suc n)) e)

pub sum_to_one_le : (f : ℕ → ℕ) (r n : ℕ) → r < n → f r ≤ sum_to f n
unfolding sum_to
sum_to_one_le f r zero l = absurd (omega arith)
sum_to_one_le f r (suc n) l = elim (eq-or-lt_of_le l) [ inl x ↦ same (omega arith) | inr x ↦ omega (arith, sum_to_one_le f r n (omega arith)) ]
  where
    same : r ≡ n → f r ≤ sum_to f n + f n
    same x = rw x (omega arith)

pub sum_to_two_le : (f : ℕ → ℕ) (q r n : ℕ) → q < r → r < n → f q + f r ≤ sum_to f n
unfolding sum_to
sum_to_two_le f q r zero k l = absurd (omega arith)
sum_to_two_le f q r (suc n) k l = elim (eq-or-lt_of_le l) [ inl x ↦ same (omega arith) | inr x ↦ omega (arith, sum_to_two_le f q r n k (omega arith)) ]
  where
    same : r ≡ n → f q + f r ≤ sum_to f n + f n
    same x = rw x (omega (arith, sum_to_one_le f q n (omega arith)))

-- ---- each frame of a queue
pub each_map : {P Q : Frame → Type 0} {l : List Frame} → ((f : Frame) → P f → Q f) → Each P l → Each Q l
each_map k done = done
each_map k (also {a = f} p e) = also (k f p) (each_map k e)

pub each_tail : {P : Frame → Type 0} {l : List Frame} → Each P l → Each P (drop 1 l)
each_tail done = done
each_tail (also p e) = e

pub each_snoc : {P : Frame → Type 0} {l : List Frame} (f : Frame) → Each P l → P f → Each P (l ++ (f ∷ []))
each_snoc f e q = each_of_both e (also q done)

pub each_head : {P : Frame → Type 0} {l : List Frame} → Each P l → 0 < length l → P (get_or l 0 blank_frame)
each_head done k = absurd (omega arith)
each_head (also p e) k = p

-- ---- wire_bytes
pub bytes_snoc : (weight : ℕ → ℕ) (l : List Frame) (f : Frame) → bytes weight (l ++ (f ∷ [])) ≡ bytes weight l + weight f.length
unfolding bytes
bytes_snoc weight [] f = omega arith
bytes_snoc weight (g ∷ l) f = omega (arith, bytes_snoc weight l f)

pub bytes_tail : (weight : ℕ → ℕ) (l : List Frame) → 0 < length l → bytes weight (drop 1 l) + weight (get_or l 0 blank_frame).length ≡ bytes weight l
unfolding bytes
bytes_tail weight [] k = absurd (omega arith)
bytes_tail weight (f ∷ l) k = omega arith

pub bytes_below : (weight : ℕ → ℕ) → Weight weight → (l : List Frame) → bytes weight l ≤ wire_bytes l
unfolding bytes
bytes_below weight z [] = omega arith
bytes_below weight z (f ∷ l) = omega (arith, bytes_below weight z l, z.below f.length)

pub sizes_head : (l : List Frame) → 0 < length l → (get_or l 0 blank_frame).length ≤ wire_bytes l
unfolding bytes
sizes_head [] k = absurd (omega arith)
sizes_head (f ∷ l) k = omega arith

pub sizes_none : {P Q : Frame → Type 0} {l : List Frame} → ((f : Frame) → P f → 0 < f.length) → Each P l → wire_bytes l ≡ 0 → Each Q l
unfolding bytes
sizes_none k done e = done
sizes_none k (also {a = f} p r) e = absurd (omega (arith, k f p))

pub sizes_waits : {P : Frame → Type 0} {l : List Frame} → ((f : Frame) → P f → 0 < f.length) → Each P l → 0 < wire_bytes l → 0 < length l
unfolding bytes
sizes_waits k done e = absurd (omega arith)
sizes_waits k (also {a = f} p r) e = omega arith

-- ---- the queues 0 to p
unfoldable pub up : ℕ → List (List Frame) → ℕ
up p qs = sum_to (λ q. wire_bytes (queue_of qs q)) (suc p)

pub up_other : (p r : ℕ) (qs : List (List Frame)) (l : List Frame) → p < r → up p (set qs r l) ≡ up p qs
unfolding up
up_other p r qs l k = sum_to_ext _ _ (suc p) (λ j m. ap wire_bytes (get_or-set_other qs r j l [] (λ e. omega arith)))

pub up_same : (p r : ℕ) (qs : List (List Frame)) (l : List Frame) → r ≤ p → r < length qs → up p (set qs r l) + wire_bytes (queue_of qs r) ≡ up p qs + wire_bytes l
unfolding up
up_same p r qs l k m =
    rw (ap wire_bytes (get_or-set_same qs r l [] m)) at
    (sum_to_change (λ q. wire_bytes (queue_of (set qs r l) q)) (λ q. wire_bytes (queue_of qs q)) r (suc p) (omega arith) (λ j i n. ap wire_bytes (get_or-set_other qs r j l [] n)))

pub up_one : (p r : ℕ) (qs : List (List Frame)) → r ≤ p → wire_bytes (queue_of qs r) ≤ up p qs
unfolding up
up_one p r qs k = sum_to_one_le (λ q. wire_bytes (queue_of qs q)) r (suc p) (omega arith)

pub up_two : (p r : ℕ) (qs : List (List Frame)) → r < p → wire_bytes (queue_of qs r) + wire_bytes (queue_of qs p) ≤ up p qs
unfolding up
up_two p r qs k = sum_to_two_le (λ q. wire_bytes (queue_of qs q)) r p (suc p) k (omega arith)

pub up_none : (p : ℕ) (qs : List (List Frame)) → ((q : ℕ) → q ≤ p → queue_of qs q ≡ []) → up p qs ≡ 0
unfolding up sum_to bytes
up_none p qs k = go (suc p) (omega arith)
  where
    go : (n : ℕ) → n ≤ suc p → sum_to (λ q. wire_bytes (queue_of qs q)) n ≡ 0
    go zero l = refl
    go (suc n) l = omega (arith, go n (omega arith), ap wire_bytes (k n (omega arith)))

-- ---- the highest waiting priority
pub record Waits (qs : List (List Frame)) (q : ℕ) : Type 0 where
  pub in_range : q < length qs
  pub waits : 0 < length (queue_of qs q)
  pub above : (j : ℕ) → j < q → queue_of qs j ≡ []

pub waiting_some : (qs : List (List Frame)) (q : ℕ) → highest_waiting qs ≡ some q → Waits qs q
unfolding highest_waiting further
waiting_some [] q e = absurd (let z : ◌≡◌ {A = ℕ} 0 1 = cc in omega arith)
waiting_some ((f ∷ l) ∷ qs) q e =
    let z : 0 ≡ q = cc in
    rw (← z) (record { in_range = omega arith; waits = omega arith; above = λ j k. absurd (omega arith) })
waiting_some ([] ∷ qs) q e = go (highest_waiting qs) refl (waiting_some qs)
  where
    go : (o : Option ℕ) → highest_waiting qs ≡ o → ((r : ℕ) → highest_waiting qs ≡ some r → Waits qs r) → Waits ([] ∷ qs) q
    go none x ih = absurd (let z : ◌≡◌ {A = ℕ} 0 1 = let y : ◌≡◌ {A = Option ℕ} none (some q) = rw x at e in cc in omega arith)
    go (some r) x ih =
        let z : suc r ≡ q = let y : some (suc r) ≡ some q = rw x at e in cc in
        let w : Waits qs r = ih r x in
        rw (← z) (record { in_range = omega (arith, w.in_range); waits = w.waits; above = λ j k. higher j k w })
      where
        higher : (j : ℕ) → j < suc r → Waits qs r → queue_of ([] ∷ qs) j ≡ []
        higher zero k w = refl
        higher (suc j) k w = w.above j (omega arith)

pub waiting_none : (qs : List (List Frame)) → highest_waiting qs ≡ none → (j : ℕ) → queue_of qs j ≡ []
unfolding highest_waiting further
waiting_none [] e j = refl
waiting_none ((f ∷ l) ∷ qs) e j = absurd (let z : ◌≡◌ {A = ℕ} 0 1 = cc in omega arith)
waiting_none ([] ∷ qs) e j = go (highest_waiting qs) refl (waiting_none qs) j
  where
    go : (o : Option ℕ) → highest_waiting qs ≡ o → (highest_waiting qs ≡ none → (i : ℕ) → queue_of qs i ≡ []) → (i : ℕ) → queue_of ([] ∷ qs) i ≡ []
    go none x ih zero = refl
    go none x ih (suc i) = ih x i
    go (some r) x ih i = absurd (let z : ◌≡◌ {A = ℕ} 0 1 = let y : ◌≡◌ {A = Option ℕ} (some (suc r)) none = rw x at e in cc in omega arith)
