-- A ring read slot by slot into a queue, and the rings into queues.
use mathlib.Core.Path.{◌≡◌, ap, ◌∙◌}
use mathlib.Core.List.{List, []}
use Prim.Native.Nat.{ℕ, zero, suc, ◌+◌, ◌%◌, ◌<◌}
use native.Mathlib.Decide.{ℕ_discrete}
use native.Mathlib.Omega.{arith}
use lib.ListN.{length, get_or, set, length-map, get_or-map}
use lib.Seq.{ext_get_or, get_or-set_same, get_or-set_other}
use Rattle.model.specs.Basics.{Each, also, entries}
use Rattle.model.proofs.Entries.{get_d_entries}
use Rattle.model.specs.Machine.{Frame, blank_frame}
use Rattle.port_scheduler.specs.declared.Frame.{Frame as FrameRecord}
use Rattle.port_scheduler.specs.declared.Queue.{Queue}
use Rattle.port_scheduler.specs.View.{view_frame, blank_entry, blank_queue, view_queue, view_queues, view_marks}
use Rattle.port_scheduler.proofs.Shown.{count_shown, length_shown, queue_shown}
use Rattle.flat_queues.specs.declared.Rings.{Rings}
use Rattle.flat_queues.specs.View.{slot_of, frame_at, ring, queues_in}
use Rattle.flat_queues.proofs.Rounds.{length_ring, length_rings, ring_at}
use Rattle.flat_record.specs.Promised.{Narrow, RingFits, RingRead, RingsFit, QueuesRead}

-- ---- one ring, place by place; a head that went round is the same place
round : (p a i : ℕ) → slot_of p (a % 256 + i) ≡ slot_of p (a + i)
round p a i = let e : (a % 256 + i) % 256 ≡ (a + i) % 256 = omega arith in rw e

frame_there : (l : List ℕ) (p a n i : ℕ) → i < n → get_or (ring l p a n) i blank_frame ≡ frame_at l (slot_of p (a + i))
unfolding ring
frame_there l p a zero i h = absurd (omega arith)
frame_there l p a (suc n) zero h = let e : a + 0 ≡ a = omega arith in rw e
frame_there l p a (suc n) (suc i) h = let e : a + suc i ≡ suc a + i = omega arith in rw e (frame_there l p (suc a) n i (omega arith))

each_there : (P : Frame → Type 0) (l : List ℕ) (p a n i : ℕ) → i < n → Each P (ring l p a n) → P (frame_at l (slot_of p (a + i)))
unfolding ring
each_there P l p a zero i h e = absurd (omega arith)
each_there P l p a (suc n) zero h (also x e) = let z : a + 0 ≡ a = omega arith in rw z x
each_there P l p a (suc n) (suc i) h (also x e) = let z : a + suc i ≡ suc a + i = omega arith in rw z (each_there P l p (suc a) n i (omega arith) e)

module _ {r : Rings} {p : ℕ} (fits : RingFits r p) where
  abbrev head : ℕ
  head = get_or r.heads p 0

  abbrev count : ℕ
  count = get_or r.counts p 0

  pub narrow_there : (i : ℕ) → i < count → Narrow (frame_at r.frames (slot_of p (head % 256 + i)))
  narrow_there i h = rw round (each_there Narrow r.frames p head count i h fits.narrow)

-- the first i entries are the frames of ring p
abbrev pub Taken : List FrameRecord → Rings → ℕ → ℕ → Type 0
Taken list r p i = (j : ℕ) → j < i → view_frame (get_or list j blank_entry) ≡ frame_at r.frames (slot_of p (get_or r.heads p 0 % 256 + j))

pub one_taken : (list : List FrameRecord) (r : Rings) (p : ℕ) {i : ℕ} {f : FrameRecord} → i < length list → view_frame f ≡ frame_at r.frames (slot_of p (get_or r.heads p 0 % 256 + i)) → Taken list r p i → Taken (set list i f) r p (i + 1)
one_taken list r p {i} {f} h e s j b = go (ℕ_discrete j i)
  where
    go : Dec (j ≡ i) → view_frame (get_or (set list i f) j blank_entry) ≡ frame_at r.frames (slot_of p (get_or r.heads p 0 % 256 + j))
    go (yes d) = rw (d, get_or-set_same list i f blank_entry h) e
    go (no d) = rw (get_or-set_other list i j f blank_entry d) (s j (omega arith))

pub ring_read : (q : Queue) (r : Rings) (p : ℕ) → length r.counts ≡ 8 → length r.marks ≡ 8 → q.count ≡ get_or r.counts p 0 → q.mark ≡ get_or r.marks p 0 → Taken q.frames r p (get_or r.counts p 0) → RingRead r p q
unfolding view_queue
ring_read q r p x y c k s =
    record {
      frames_are = ext_get_or blank_frame (view_queue q) (ring r.frames p (get_or r.heads p 0) (get_or r.counts p 0)) (rw (count_shown, length_ring) c) (λ j b. here j (rw count_shown at b));
      mark_is = k;
      counts_room = x;
      marks_room = y;
    }
  where
    here : (j : ℕ) → j < q.count → get_or (view_queue q) j blank_frame ≡ get_or (ring r.frames p (get_or r.heads p 0) (get_or r.counts p 0)) j blank_frame
    here j b =
        get_or-map view_frame (entries blank_entry q.count q.frames) j blank_entry
        ∙ ap view_frame (get_d_entries blank_entry q.count q.frames j b)
        ∙ rw (frame_there r.frames p (get_or r.heads p 0) (get_or r.counts p 0) j (omega arith), ← round) (s j (omega arith))

-- ---- the first i rings
abbrev pub Kept : List Queue → Rings → ℕ → Type 0
Kept queues r i = (p : ℕ) → p < i → RingRead r p (get_or queues p blank_queue)

pub ring_fits : {r : Rings} → RingsFit r → (p : ℕ) → p < 8 → RingFits r p
ring_fits fits p h = record { eight = h; few = fits.few p h; low = fits.low p h; narrow = rw ring_at at (fits.narrow p h) }

pub one_kept : (queues : List Queue) {r : Rings} {i : ℕ} {q : Queue} → i < length queues → RingRead r i q → Kept queues r i → Kept (set queues i q) r (i + 1)
one_kept queues {r} {i} {q} h x s p b = go (ℕ_discrete p i)
  where
    go : Dec (p ≡ i) → RingRead r p (get_or (set queues i q) p blank_queue)
    go (yes d) = rw (d, get_or-set_same queues i q blank_queue h) x
    go (no d) = rw (get_or-set_other queues i p q blank_queue d) (s p (omega arith))

pub all_kept : (queues : List Queue) {r : Rings} → length queues ≡ 8 → Kept queues r 8 → QueuesRead r queues
all_kept queues {r} n s =
    let c : length r.counts ≡ 8 = (s 0 (omega arith)).counts_room in
    let m : length r.marks ≡ 8 = (s 0 (omega arith)).marks_room in
    record {
      rings =
          ext_get_or [] (view_queues queues) (queues_in r) (rw (length_shown, length_rings) (omega arith))
          (λ p k. let b : p < length queues = rw length_shown at k in rw (queue_shown, ring_at) (s p (omega arith)).frames_are);
      marks_are =
          ext_get_or 0 (view_marks queues) r.marks (rw length-map (omega arith))
          (λ p k. let b : p < length queues = rw length-map at k in get_or-map (λ (q : Queue). q.mark) queues p blank_queue ∙ (s p (omega arith)).mark_is);
    }
