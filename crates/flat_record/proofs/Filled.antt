-- A queue pushed frame by frame into its ring, and the rings filled one by one.
use mathlib.Core.Path.{◌≡◌, refl, sym, ap, ◌∙◌}
use mathlib.Core.List.{List, [], ◌∷◌, ◌++◌, map, map-append}
use Prim.Native.Nat.{ℕ, ◌+◌, ◌≤◌, ◌<◌}
use native.Mathlib.Numerals.{add-one}
use native.Mathlib.Decide.{ℕ_discrete}
use native.Mathlib.Omega.{arith}
use lib.ListN.{length, get_or, set, take, length-set, length-map, get_or-map}
use lib.Seq.{ext_get_or, get_or-set_same, get_or-set_other, set-set, take-suc, length-take-le}
use Rattle.model.specs.Units.{most_frames}
use Rattle.model.specs.Machine.{Frame, queue_of, queued_last, held as heldBytes}
use Rattle.model.specs.Report.{arrived}
use Rattle.port_scheduler.specs.declared.Queue.{Queue}
use Rattle.port_scheduler.specs.View.{view_frame, blank_entry, blank_queue, view_queue, view_queues, view_marks}
use Rattle.port_scheduler.proofs.Shown.{entries_take, length_shown, queue_shown}
use Rattle.flat_queues.specs.declared.Rings.{Rings}
use Rattle.flat_queues.specs.View.{ring, rings_of, queues_in, HasRoom, Kept}
use Rattle.flat_queues.proofs.Rounds.{length_ring, length_rings, ring_at, one_set}
use Rattle.flat_record.specs.Promised.{QueuePut, QueuePutInPlace, QueuesPut}

-- ---- one ring: it has the first i frames of the queue
pub record Filling (q : Queue) (p : ℕ) (r₀ r : Rings) (i : ℕ) : Type 0 where
  pub rings : queues_in r ≡ set (queues_in r₀) p (map view_frame (take i q.frames))
  pub beside : Kept r₀ r

-- a ring that counts none is empty
emptied : (frames heads counts : List ℕ) (p : ℕ) → p < length counts → rings_of frames heads (set counts p 0) ≡ set (rings_of frames heads counts) p []
unfolding ring
emptied frames heads counts p h =
    one_set frames frames heads heads counts (set counts p 0) p [] h (length-set counts p 0)
    (rw (get_or-set_same counts p 0 0 h))
    (λ r d. rw (get_or-set_other counts p r 0 0 d))

pub none_filled : (q : Queue) (p : ℕ) (r : Rings) → p < length r.counts →
    Filling q p r (record { frames = r.frames; heads = r.heads; counts = set r.counts p 0; held = r.held; marks = r.marks }) 0
none_filled q p r h = record { rings = emptied r.frames r.heads r.counts p h; beside = record { held = refl; marks = refl } }

module _ {q : Queue} {p : ℕ} {r₀ r : Rings} {i : ℕ} (eight : p < length (queues_in r₀)) (k : Filling q p r₀ r i) where
  -- so many frames
  ring_counts : i ≤ length q.frames → get_or r.counts p 0 ≡ i
  ring_counts few =
      let at : queue_of (queues_in r) p ≡ map view_frame (take i q.frames) =
      rw k.rings (get_or-set_same (queues_in r₀) p (map view_frame (take i q.frames)) [] eight) in
      sym (length_ring r.frames p (get_or r.heads p 0) (get_or r.counts p 0))
      ∙ ap (λ (l : List Frame). length l) (sym (ring_at r.frames r.heads r.counts p) ∙ at)
      ∙ length-map (take i q.frames) view_frame
      ∙ length-take-le i q.frames few

  pub room_left : p < 8 → length q.frames ≡ most_frames → i < most_frames → HasRoom p r.counts
  room_left h w few = record { ring = h; unfilled = omega (arith, ring_counts (omega arith)) }

  pub one_filled : {r' : Rings} {x y : ℕ} → i < length q.frames → x ≡ (get_or q.frames i blank_entry).number → y ≡ (get_or q.frames i blank_entry).length →
      queues_in r' ≡ queued_last (queues_in r) p (arrived x y (get_or q.frames i blank_entry).arrival) → Kept r r' → Filling q p r₀ r' (i + 1)
  one_filled {r'} {x} {y} few a b e beside =
      let before = queues_in r₀ in
      let front = map view_frame (take i q.frames) in
      record {
        rings =
            e ∙ rw (
              k.rings,
              get_or-set_same before p front [] eight,
              set-set before p front (front ++ (arrived x y (get_or q.frames i blank_entry).arrival ∷ [])),
              add-one,
              take-suc q.frames i blank_entry few,
              map-append view_frame (take i q.frames) (get_or q.frames i blank_entry ∷ []),
              a,
              b,
            );
        beside = record { held = beside.held ∙ k.beside.held; marks = beside.marks ∙ k.beside.marks };
      }

  pub all_filled : q.count ≤ length q.frames → i ≡ q.count → QueuePut q p r₀ r
  unfolding view_queue
  all_filled few e = record { rings = k.rings ∙ rw (e, entries_take blank_entry q.count q.frames few); beside = k.beside }

-- ---- and the heads stay
pub record FillingInPlace (q : Queue) (p : ℕ) (r₀ r : Rings) (i : ℕ) : Type 0 where
  pub filling : Filling q p r₀ r i
  pub heads : r.heads ≡ r₀.heads

pub none_filled_in_place : (q : Queue) (p : ℕ) (r : Rings) → p < length r.counts →
    FillingInPlace q p r (record { frames = r.frames; heads = r.heads; counts = set r.counts p 0; held = r.held; marks = r.marks }) 0
none_filled_in_place q p r h = record { filling = none_filled q p r h; heads = refl }

module _ {q : Queue} {p : ℕ} {r₀ r : Rings} {i : ℕ} (eight : p < length (queues_in r₀)) (k : FillingInPlace q p r₀ r i) where
  pub one_filled_in_place : {r' : Rings} {x y : ℕ} → i < length q.frames → x ≡ (get_or q.frames i blank_entry).number → y ≡ (get_or q.frames i blank_entry).length →
      queues_in r' ≡ queued_last (queues_in r) p (arrived x y (get_or q.frames i blank_entry).arrival) → Kept r r' → r'.heads ≡ r.heads → FillingInPlace q p r₀ r' (i + 1)
  one_filled_in_place few a b e beside heads = record { filling = one_filled eight k.filling few a b e beside; heads = heads ∙ k.heads }

  pub all_filled_in_place : q.count ≤ length q.frames → i ≡ q.count → QueuePutInPlace q p r₀ r
  all_filled_in_place few e = record { put = all_filled eight k.filling few e; heads = k.heads }

-- ---- the first i rings
pub record Filled (queues : List Queue) (r : Rings) (i : ℕ) : Type 0 where
  pub rings : (p : ℕ) → p < i → queue_of (queues_in r) p ≡ view_queue (get_or queues p blank_queue)
  pub held_are : (p : ℕ) → p < i → get_or r.held p 0 ≡ heldBytes (view_queue (get_or queues p blank_queue))
  pub marks_are : (p : ℕ) → p < i → get_or r.marks p 0 ≡ (get_or queues p blank_queue).mark
  pub counts_room : length r.counts ≡ 8
  pub held_room : length r.held ≡ 8
  pub marks_room : length r.marks ≡ 8

pub no_ring : (queues : List Queue) (r : Rings) → length r.counts ≡ 8 → length r.held ≡ 8 → length r.marks ≡ 8 → Filled queues r 0
no_ring queues r x y z =
    record {
      rings = λ p h. absurd (omega arith);
      held_are = λ p h. absurd (omega arith);
      marks_are = λ p h. absurd (omega arith);
      counts_room = x;
      held_room = y;
      marks_room = z;
    }

-- what a number is that was set, and what it was elsewhere
set_also : (l : List ℕ) (i x : ℕ) (f : ℕ → ℕ) → i < length l → x ≡ f i → ((p : ℕ) → p < i → get_or l p 0 ≡ f p) → (p : ℕ) → p < i + 1 → get_or (set l i x) p 0 ≡ f p
set_also l i x f h e c p b = go (ℕ_discrete p i)
  where
    go : Dec (p ≡ i) → get_or (set l i x) p 0 ≡ f p
    go (yes d) = rw (d, get_or-set_same l i x 0 h) e
    go (no d) = rw (get_or-set_other l i p x 0 d) (c p (omega arith))

pub ring_more : (queues : List Queue) {r r' : Rings} {i x y : ℕ} → i < 8 → Filled queues r i → QueuePut (get_or queues i blank_queue) i r r' →
    x ≡ heldBytes (view_queue (get_or queues i blank_queue)) → y ≡ (get_or queues i blank_queue).mark →
    Filled queues (record { frames = r'.frames; heads = r'.heads; counts = r'.counts; held = set r'.held i x; marks = set r'.marks i y }) (i + 1)
ring_more queues {r} {r'} {i} {x} {y} few s put a b =
    let m : i < length r.held = omega (arith, s.held_room) in
    let k : i < length r.marks = omega (arith, s.marks_room) in
    let same : length (queues_in r') ≡ length (queues_in r) = rw (put.rings, length-set) in
    let eight : length r'.counts ≡ length r.counts = sym (length_rings r'.frames r'.heads 0 r'.counts) ∙ same ∙ length_rings r.frames r.heads 0 r.counts in
    rw (put.beside.held, put.beside.marks)
    (record {
      rings = λ p c. go p c (ℕ_discrete p i);
      held_are = set_also r.held i x (λ p. heldBytes (view_queue (get_or queues p blank_queue))) m a s.held_are;
      marks_are = set_also r.marks i y (λ p. (get_or queues p blank_queue).mark) k b s.marks_are;
      counts_room = eight ∙ s.counts_room;
      held_room = rw length-set s.held_room;
      marks_room = rw length-set s.marks_room;
    })
  where
    go : (p : ℕ) → p < i + 1 → Dec (p ≡ i) → queue_of (queues_in r') p ≡ view_queue (get_or queues p blank_queue)
    go p c (yes d) =
        let h : i < length (queues_in r) = rw length_rings (omega (arith, s.counts_room)) in
        rw (d, put.rings, get_or-set_same (queues_in r) i (view_queue (get_or queues i blank_queue)) [] h)
    go p c (no d) = rw (put.rings, get_or-set_other (queues_in r) i p (view_queue (get_or queues i blank_queue)) [] d) (s.rings p (omega arith))

pub eight_rings : {queues : List Queue} {r : Rings} → length queues ≡ 8 → Filled queues r 8 → QueuesPut queues r
eight_rings {queues} {r} n s =
    let c = s.counts_room in
    let m = s.marks_room in
    record {
      rings =
          ext_get_or [] (queues_in r) (view_queues queues) (rw (length_rings, length_shown) (omega arith))
          (λ p k. let b : p < length r.counts = rw length_rings at k in rw queue_shown (s.rings p (omega arith)));
      holds = record { queues_eight = rw length_rings c; eight = s.held_room; bytes_are = λ p b. rw (s.rings p b) (s.held_are p b) };
      marks_are =
          ext_get_or 0 r.marks (view_marks queues) (rw length-map (omega arith))
          (λ p k. s.marks_are p (omega arith) ∙ sym (get_or-map (λ (q : Queue). q.mark) queues p blank_queue));
    }
