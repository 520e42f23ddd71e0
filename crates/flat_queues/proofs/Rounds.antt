-- Rings: places go round, a frame less, a frame more; one ring among several.
use mathlib.Core.Path.{◌≡◌, refl, ap}
use mathlib.Core.Logic.{◌≢◌}
use mathlib.Core.List.{List, [], ◌∷◌, ◌++◌}
use Prim.Native.Nat.{ℕ, zero, suc, ◌+◌, ◌-◌, ◌*◌, ◌%◌, ◌≤◌, ◌<◌}
use native.Mathlib.Numerals.{add-one}
use native.Mathlib.Decide.{ℕ_discrete}
use native.Mathlib.Omega.{arith}
use lib.ListN.{length, get_or, set, drop, length-set}
use lib.Seq.{ext_get_or, get_or-set_same, get_or-set_other}
use Rattle.model.specs.Machine.{Frame, queue_of, without_head, queued_last}
use Rattle.model.specs.Report.{arrived}
use Rattle.flat_queues.specs.View.{slot_of, frame_at, ring, rings_from, rings_of, Room}
use Rattle.flat_queues.proofs.Slots.{put3, other, same}

-- ---- one ring
pub around : (l : List ℕ) (p a b n : ℕ) → a % 256 ≡ b % 256 → ring l p a n ≡ ring l p b n
unfolding ring
around l p a b zero e = refl
around l p a b (suc n) e = rw (e, around l p (suc a) (suc b) n (omega arith))

pub length_ring : (l : List ℕ) (p a n : ℕ) → length (ring l p a n) ≡ n
unfolding ring
length_ring l p a zero = refl
length_ring l p a (suc n) = ap suc (length_ring l p (suc a) n)

-- "the oldest" gone
pub without : (l : List ℕ) (p a n : ℕ) → 0 < n → ring l p (a % 256 + 1) (n - 1) ≡ drop 1 (ring l p a n)
unfolding ring
without l p a zero h = absurd (omega arith)
without l p a (suc n) h = let e : suc n - 1 ≡ n = omega arith in rw e (around l p (a % 256 + 1) (suc a) n (omega arith))

longer : (l : List ℕ) (p a n : ℕ) → ring l p a (suc n) ≡ ring l p a n ++ (frame_at l (slot_of p (a + n)) ∷ [])
unfolding ring
longer l p a zero = let e : a + 0 ≡ a = omega arith in rw e
longer l p a (suc n) =
    let e : a + suc n ≡ suc a + n = omega arith in
    rw e (ap (λ (r : List Frame). frame_at l (slot_of p a) ∷ r) (longer l p (suc a) n))

-- a slot that no frame of the ring has
untouched : (l : List ℕ) (p a n k x y z : ℕ) → ((i : ℕ) → i < n → 256 * p + (a + i) % 256 ≢ k) → ring (put3 l (3 * k) x y z) p a n ≡ ring l p a n
unfolding ring
untouched l p a zero k x y z h = refl
untouched l p a (suc n) k x y z h =
    let u : 256 * p + a % 256 ≢ k = λ e. h 0 (omega arith) (omega arith) in
    rw (
      other l x y z (256 * p + a % 256) k u,
      untouched l p (suc a) n k x y z (λ i b e. h (suc i) (omega arith) (omega arith)),
    )

-- "queued last"
pub with_last : (l : List ℕ) (p a n x y z : ℕ) → n < 256 → slot_of p (a % 256 + n) + 3 ≤ length l →
    ring (put3 l (slot_of p (a % 256 + n)) x y z) p a (n + 1) ≡ ring l p a n ++ (arrived x y z ∷ [])
with_last l p a n x y z h k =
    let e : (a % 256 + n) % 256 ≡ (a + n) % 256 = omega arith in
    rw (
      add-one n,
      e,
      longer,
      untouched l p a n (256 * p + (a + n) % 256) x y z (λ i b q. omega arith),
      same l x y z (slot_of p (a + n)) (rw e at k),
    )

-- ---- several
pub length_rings : (l heads : List ℕ) (p : ℕ) (counts : List ℕ) → length (rings_from l heads p counts) ≡ length counts
unfolding rings_from
length_rings l heads p [] = refl
length_rings l heads p (n ∷ counts) = ap suc (length_rings l heads (suc p) counts)

from_at : (l heads : List ℕ) (p : ℕ) (counts : List ℕ) (i : ℕ) → queue_of (rings_from l heads p counts) i ≡ ring l (p + i) (get_or heads (p + i) 0) (get_or counts i 0)
unfolding rings_from ring
from_at l heads p [] i = refl
from_at l heads p (n ∷ counts) zero = let e : p + 0 ≡ p = omega arith in rw e
from_at l heads p (n ∷ counts) (suc i) = let e : p + suc i ≡ suc p + i = omega arith in rw e (from_at l heads (suc p) counts i)

pub ring_at : (l heads counts : List ℕ) (p : ℕ) → queue_of (rings_of l heads counts) p ≡ ring l p (get_or heads p 0) (get_or counts p 0)
ring_at l heads counts p = let e : 0 + p ≡ p = omega arith in rw e at (from_at l heads 0 counts p)

-- one ring is set, and the others are what they were
pub one_set : (l l' heads heads' counts counts' : List ℕ) (p : ℕ) (r : List Frame) → p < length counts → length counts' ≡ length counts →
    ring l' p (get_or heads' p 0) (get_or counts' p 0) ≡ r →
    ((q : ℕ) → q ≢ p → ring l' q (get_or heads' q 0) (get_or counts' q 0) ≡ ring l q (get_or heads q 0) (get_or counts q 0)) →
    rings_of l' heads' counts' ≡ set (rings_of l heads counts) p r
one_set l l' heads heads' counts counts' p r h n here there =
    let len : length (rings_of l heads counts) ≡ length counts = length_rings l heads 0 counts in
    ext_get_or [] (rings_of l' heads' counts') (set (rings_of l heads counts) p r) (rw (length_rings, length-set, length_rings) n)
    (λ q k. go q (ℕ_discrete q p))
  where
    go : (q : ℕ) → Dec (q ≡ p) → queue_of (rings_of l' heads' counts') q ≡ queue_of (set (rings_of l heads counts) p r) q
    go q (yes e) =
        let len : p < length (rings_of l heads counts) = rw length_rings h in
        rw (e, ring_at, get_or-set_same (rings_of l heads counts) p r [] len) here
    go q (no d) = rw (ring_at, get_or-set_other (rings_of l heads counts) p q r [] d, ring_at) (there q d)

-- ---- what the two calls leave
pub popped : (heads counts : List ℕ) (p : ℕ) → p < length heads → p < length counts → 0 < get_or counts p 0 → (l : List ℕ) →
    rings_of l (set heads p (get_or heads p 0 % 256 + 1)) (set counts p (get_or counts p 0 - 1)) ≡ without_head (rings_of l heads counts) p
popped heads counts p h k w l =
    rw (ring_at l heads counts p)
    (one_set l l heads (set heads p (get_or heads p 0 % 256 + 1)) counts (set counts p (get_or counts p 0 - 1)) p (drop 1 (ring l p (get_or heads p 0) (get_or counts p 0))) k (length-set counts p (get_or counts p 0 - 1))
    (rw (get_or-set_same heads p (get_or heads p 0 % 256 + 1) 0 h, get_or-set_same counts p (get_or counts p 0 - 1) 0 k) (without l p (get_or heads p 0) (get_or counts p 0) w))
    (λ q d. rw (get_or-set_other heads p q (get_or heads p 0 % 256 + 1) 0 d, get_or-set_other counts p q (get_or counts p 0 - 1) 0 d)))

pub pushed : (l heads counts : List ℕ) (p x y z : ℕ) → Room p l heads counts →
    rings_of (put3 l (slot_of p (get_or heads p 0 % 256 + get_or counts p 0)) x y z) heads (set counts p (get_or counts p 0 + 1)) ≡ queued_last (rings_of l heads counts) p (arrived x y z)
pushed l heads counts p x y z m =
    let a = get_or heads p 0 in
    let n = get_or counts p 0 in
    let l' = put3 l (slot_of p (a % 256 + n)) x y z in
    let room : slot_of p (a % 256 + n) + 3 ≤ length l = omega (arith, m.slots) in
    rw (ring_at l heads counts p)
    (one_set l l' heads heads counts (set counts p (n + 1)) p (ring l p a n ++ (arrived x y z ∷ [])) m.count (length-set counts p (n + 1))
    (rw (get_or-set_same counts p (n + 1) 0 m.count) (with_last l p a n x y z m.free room))
    (λ q d. rw (get_or-set_other counts p q (n + 1) 0 d) (untouched l q (get_or heads q 0) (get_or counts q 0) (256 * p + (a % 256 + n) % 256) x y z (λ i b e. d (omega arith)))))
