-- Rings: their counts and heads, who starts, the held bytes without a head; what an advance comes to where it ends.
use Rattle.std.specs.List.{AllWithin, HoldsAt}
use mathlib.Core.Path.{◌≡◌, refl}
use mathlib.Core.List.{List, []}
use Prim.Native.Nat.{ℕ, zero, suc, ◌+◌, ◌-◌, ◌<◌}
use native.Mathlib.Decide.{ℕ_discrete}
use native.Mathlib.Omega.{arith}
use lib.ListN.{length, get_or, drop, set, length-set}
use lib.Seq.{get_or-set_same, get_or-set_other}
use Rattle.model.specs.Units.{occupied}
use Rattle.model.specs.Machine.{Frame, Sender, idle, sending, Advance, at, advanced, queue_of, head_of, without_head, highest_waiting, start_if_any, held as heldBytes, frames_held, blank_frame}
use Rattle.model.proofs.Queues.{bytes_tail}
use Rattle.port_scheduler.proofs.Starts.{waits_at, waits_nowhere, starts_at, starts_nowhere}
use Rattle.port_scheduler.proofs.Progress.{Progress}
use Rattle.flat_queues.specs.View.{slot_of, frame_at, ring, rings_of}
use Rattle.flat_queues.proofs.Rounds.{length_ring, length_rings, ring_at}
use Rattle.flat_scheduler.specs.Promised.{Holds, Advanced}

-- ---- rings: their counts and heads
pub ring_count : (l heads counts : List ℕ) (p : ℕ) → length (queue_of (rings_of l heads counts) p) ≡ get_or counts p 0
ring_count l heads counts p = rw ring_at (length_ring l p (get_or heads p 0) (get_or counts p 0))

oldest : (l : List ℕ) (p a n : ℕ) → 0 < n → get_or (ring l p a n) 0 blank_frame ≡ frame_at l (slot_of p a)
unfolding ring
oldest l p a zero h = absurd (omega arith)
oldest l p a (suc n) h = refl

pub ring_head : (l heads counts : List ℕ) (p : ℕ) → 0 < length (queue_of (rings_of l heads counts) p) → head_of (rings_of l heads counts) p ≡ frame_at l (slot_of p (get_or heads p 0))
ring_head l heads counts p h =
    let n = ring_count l heads counts p in
    rw ring_at (oldest l p (get_or heads p 0) (get_or counts p 0) (omega arith))

-- the slot that the code reads has the head
module _ (l heads counts : List ℕ) (p : ℕ) {from : ℕ} (e : from ≡ slot_of p (get_or heads p 0)) (w : 0 < length (queue_of (rings_of l heads counts) p)) where
  pub head_number : get_or l from 0 ≡ (head_of (rings_of l heads counts) p).number
  head_number = rw (e, ring_head l heads counts p w)

  pub head_length : get_or l (from + 1) 0 ≡ (head_of (rings_of l heads counts) p).length
  head_length = rw (e, ring_head l heads counts p w)

-- ---- who starts
module _ (l heads counts : List ℕ) (m : ℕ) where
  pub starts_here : (i : ℕ) → (i < length counts) × HoldsAt (λ n. 0 < n) counts i × AllWithin (λ n. n ≡ 0) counts 0 i → sending i m ≡ start_if_any m (highest_waiting (rings_of l heads counts))
  starts_here i h =
      starts_at m (rings_of l heads counts)
      (waits_at (rings_of l heads counts) i (rw length_rings h.0) (λ j k. rw ring_count (h.2 j 0 (omega arith) k)) (rw ring_count (h.1 0)))

  pub starts_none : AllWithin (λ n. n ≡ 0) counts 0 (length counts) → idle ≡ start_if_any m (highest_waiting (rings_of l heads counts))
  starts_none h =
      starts_nowhere m (rings_of l heads counts)
      (waits_nowhere (rings_of l heads counts) (λ j k. rw ring_count (h j 0 (omega arith) (rw length_rings at k))))

-- ---- the held bytes without the head
pub holds_less : {held : List ℕ} {queues : List (List Frame)} → Holds held queues → (p x : ℕ) → p < 8 → 0 < length (queue_of queues p) →
    x ≡ (head_of queues p).length → Holds (set held p (get_or held p 0 - occupied x)) (without_head queues p)
holds_less {held} {queues} k p x h w ex = record { queues_eight = rw length-set k.queues_eight; eight = rw length-set k.eight; bytes_are = λ q b. go q b (ℕ_discrete q p) }
  where
    go : (q : ℕ) → q < 8 → Dec (q ≡ p) → get_or (set held p (get_or held p 0 - occupied x)) q 0 ≡ heldBytes (queue_of (without_head queues p) q)
    go q b (yes d) =
        let u : p < length held = omega (arith, k.eight) in
        let v : p < length queues = omega (arith, k.queues_eight) in
        rw (d, get_or-set_same held p (get_or held p 0 - occupied x) 0 u, get_or-set_same queues p (drop 1 (queue_of queues p)) [] v, k.bytes_are p h, ex)
        (omega (arith, bytes_tail occupied (queue_of queues p) w))
    go q b (no d) = rw (get_or-set_other held p q (get_or held p 0 - occupied x) 0 d, get_or-set_other queues p q (drop 1 (queue_of queues p)) [] d) (k.bytes_are q b)

-- ---- the end
pub ended : {time : ℕ} {whole : Advance} {queues₀ : List (List Frame)} {list₀ : List ℕ} {qs : List (List Frame)} {s r : Sender} {m k : ℕ} {list : List ℕ} →
    (f : Progress time whole (frames_held queues₀) list₀ qs s m k list) → whole ≡ advanced f.gone (at time qs r) → Advanced queues₀ whole qs r k list₀ list
ended f w = record { queues_are = rw w; sender_is = rw w; frames_are = rw w f.count; list_is = rw (w, ← f.count) f.listing; none_lost = f.none_lost }
