-- A list of ticks from which some are left out keeps BAG and jitter if the whole does; and so does a list that follows it at some distance.
use mathlib.Core.Path.{◌≡◌, refl}
use mathlib.Core.List.{List, [], ◌∷◌, ◌++◌}
use Prim.Native.Nat.{ℕ, zero, suc, ◌+◌, ◌-◌, ◌*◌, ◌≤◌, ◌<◌}
use native.Mathlib.Nat.{le_refl, mul-le-mul_right}
use native.Mathlib.Omega.{arith}
use lib.ListN.{length, get_or, length-append, get_or-append}
use Rattle.model.specs.Link.{VirtualLink, bag}
use Rattle.model.specs.Run.{KeepBagAndJitter}

pub keeping_front : (v : VirtualLink) (a b : List ℕ) → KeepBagAndJitter v (a ++ b) → KeepBagAndJitter v a
unfolding KeepBagAndJitter
keeping_front v a b k i j o l =
    rw (get_or-append a b 0 i (omega arith), get_or-append a b 0 (i + j) l) at (k i j o (omega (arith, length-append a b)))

-- ---- some left out
pub data Thinned : List ℕ → List ℕ → Type 0 where
  none_left : {b : List ℕ} → Thinned [] b
  kept : {x : ℕ} {a b : List ℕ} → Thinned a b → Thinned (x ∷ a) (x ∷ b)
  left_out : {x : ℕ} {a b : List ℕ} → Thinned a b → Thinned a (x ∷ b)

pub thinned_more : {a b : List ℕ} (c : List ℕ) → Thinned a b → Thinned a (b ++ c)
thinned_more c none_left = none_left
thinned_more c (kept x) = kept (thinned_more c x)
thinned_more c (left_out x) = left_out (thinned_more c x)

thinned_end : (b : List ℕ) (x : ℕ) → Thinned (x ∷ []) (b ++ (x ∷ []))
thinned_end [] x = kept none_left
thinned_end (y ∷ b) x = left_out (thinned_end b x)

pub thinned_last : {a b : List ℕ} (x : ℕ) → Thinned a b → Thinned (a ++ (x ∷ [])) (b ++ (x ∷ []))
thinned_last x (none_left {b = b}) = thinned_end b x
thinned_last x (kept r) = kept (thinned_last x r)
thinned_last x (left_out r) = left_out (thinned_last x r)

-- the place in b of what stands at i in a
record Place (a b : List ℕ) (i : ℕ) : Type 0 where
  k : ℕ
  later : i ≤ k
  below : k < length b
  same : get_or a i 0 ≡ get_or b k 0

place : {a b : List ℕ} (i : ℕ) → Thinned a b → i < length a → Place a b i
place i none_left l = absurd (omega arith)
place i (left_out r) l =
    let p = place i r l in
    record { k = suc p.k; later = omega (arith, p.later); below = omega (arith, p.below); same = p.same }
place zero (kept r) l = record { k = 0; later = le_refl 0; below = omega arith; same = refl }
place (suc i) (kept r) l =
    let p = place i r (omega arith) in
    record { k = suc p.k; later = omega (arith, p.later); below = omega (arith, p.below); same = p.same }

-- two of them, i and j, are no farther from each other in a
record Spread (a b : List ℕ) (i j : ℕ) : Type 0 where
  k : ℕ
  m : ℕ
  wider : j + k ≤ i + m
  below : m < length b
  first : get_or a i 0 ≡ get_or b k 0
  second : get_or a j 0 ≡ get_or b m 0

spread : {a b : List ℕ} (i j : ℕ) → Thinned a b → i ≤ j → j < length a → Spread a b i j
spread i j none_left o l = absurd (omega arith)
spread i j (left_out r) o l =
    let p = spread i j r o l in
    record { k = suc p.k; m = suc p.m; wider = omega (arith, p.wider); below = omega (arith, p.below); first = p.first; second = p.second }
spread zero zero (kept r) o l = record { k = 0; m = 0; wider = le_refl 0; below = omega arith; first = refl; second = refl }
spread zero (suc j) (kept r) o l =
    let p = place j r (omega arith) in
    record { k = 0; m = suc p.k; wider = omega (arith, p.later); below = omega (arith, p.below); first = refl; second = p.same }
spread (suc i) zero (kept r) o l = absurd (omega arith)
spread (suc i) (suc j) (kept r) o l =
    let p = spread i j r (omega arith) (omega arith) in
    record { k = suc p.k; m = suc p.m; wider = omega (arith, p.wider); below = omega (arith, p.below); first = p.first; second = p.second }

pub thinned_keeps : (v : VirtualLink) {a b : List ℕ} → Thinned a b → KeepBagAndJitter v b → KeepBagAndJitter v a
unfolding KeepBagAndJitter
thinned_keeps v {a = a} {b = b} r k i j o l =
    let p = spread i (i + j) r (omega arith) l in
    let e : p.k + (p.m - p.k) ≡ p.m = omega (arith, p.wider) in
    let d : j ≤ p.m - p.k = omega (arith, p.wider) in
    let x : get_or b p.k 0 + (p.m - p.k) * bag v ≤ get_or b p.m 0 + v.jitter = rw e at (k p.k (p.m - p.k) (omega arith) (rw e p.below)) in
    rw (p.first, p.second) (omega (arith, x, mul-le-mul_right (bag v) d))

-- ---- a list that follows another, each from low to high later
pub data Follows (low high : ℕ) : List ℕ → List ℕ → Type 0 where
  nothing : Follows low high [] []
  after : {x y : ℕ} {a b : List ℕ} → x + low ≤ y → y ≤ x + high → Follows low high a b → Follows low high (x ∷ a) (y ∷ b)

pub follows_append : {low high : ℕ} {a b c d : List ℕ} → Follows low high a b → Follows low high c d → Follows low high (a ++ c) (b ++ d)
follows_append nothing y = y
follows_append (after p q r) y = after p q (follows_append r y)

record Within (low high x y : ℕ) : Type 0 where
  from : x + low ≤ y
  to : y ≤ x + high

follows_length : {low high : ℕ} {a b : List ℕ} → Follows low high a b → length a ≡ length b
follows_length nothing = refl
follows_length (after p q r) = omega (arith, follows_length r)

follows_at : {low high : ℕ} {a b : List ℕ} (i : ℕ) → Follows low high a b → i < length a → Within low high (get_or a i 0) (get_or b i 0)
follows_at i nothing l = absurd (omega arith)
follows_at zero (after p q r) l = record { from = p; to = q }
follows_at (suc i) (after p q r) l = follows_at i r (omega arith)

-- with jitter J + high − low
pub follows_keeps : (v w : VirtualLink) {low high : ℕ} {a b : List ℕ} → bag w ≡ bag v → v.jitter + high ≤ w.jitter + low → Follows low high a b
    → KeepBagAndJitter v a → KeepBagAndJitter w b
unfolding KeepBagAndJitter
follows_keeps v w {low = low} {high = high} {a = a} {b = b} same wide r k i j o l =
    let n : i + j < length a = omega (arith, follows_length r) in
    let p = follows_at i r (omega arith) in
    let q = follows_at (i + j) r n in
    rw same (omega (arith, k i j o n, p.to, q.from))
