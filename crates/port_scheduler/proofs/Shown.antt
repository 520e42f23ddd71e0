-- The views: their lengths, their elements, one queue set.
use mathlib.Core.Path.{◌≡◌, refl, ap, ◌∙◌}
use mathlib.Core.List.{List, [], ◌∷◌, map-append}
use Prim.Native.Nat.{ℕ, zero, suc, ◌+◌, ◌≤◌, ◌<◌}
use native.Mathlib.Numerals.{add-one}
use native.Mathlib.Omega.{arith}
use lib.ListN.{length, get_or, take, set, length-set, length-map, get_or-map}
use lib.Seq.{take-suc-set, map-set_same}
use Rattle.model.specs.Basics.{entries}
use Rattle.model.proofs.Entries.{length_entries, get_d_entries}
use Rattle.model.specs.Machine.{Frame, blank_frame, queue_of, head_of, without_head}
use Rattle.port_scheduler.specs.declared.Frame.{Frame as FrameRecord}
use Rattle.port_scheduler.specs.declared.Queue.{Queue}
use Rattle.port_scheduler.specs.View.{view_frame, blank_entry, blank_queue, view_queue, view_queues, view_marks}
use Rattle.port_scheduler.specs.Promised.{Pushed}
use Rattle.port_scheduler.specs.Sending.{HeadGone}

-- ---- what stands before a count
pub entries_take {ℓ} : {A : Type ℓ} (b : A) (n : ℕ) (l : List A) → n ≤ length l → entries b n l ≡ take n l
unfolding entries
entries_take b zero l h = refl
entries_take b (suc n) [] h = absurd (omega arith)
entries_take {A = A} b (suc n) (x ∷ l) h = ap (λ (r : List A). x ∷ r) (entries_take b n l (omega arith))

-- ---- a queue
pub count_shown : (q : Queue) → length (view_queue q) ≡ q.count
unfolding view_queue
count_shown q = length-map (entries blank_entry q.count q.frames) view_frame ∙ length_entries blank_entry q.count q.frames

pub oldest_shown : (q : Queue) → 0 < q.count → get_or (view_queue q) 0 blank_frame ≡ view_frame (get_or q.frames 0 blank_entry)
unfolding view_queue
oldest_shown q h =
    get_or-map view_frame (entries blank_entry q.count q.frames) 0 blank_entry
    ∙ ap view_frame (get_d_entries blank_entry q.count q.frames 0 h)

pub pushed_shown : (q : Queue) (f : FrameRecord) → q.count < length q.frames →
    Pushed q f (record { count = q.count + 1; mark = q.mark; frames = set q.frames q.count f })
unfolding view_queue
pushed_shown q f h =
    record {
      frames =
          rw (
            add-one,
            entries_take blank_entry (suc q.count) (set q.frames q.count f) (rw length-set (omega arith)),
            take-suc-set q.frames q.count f h,
            entries_take blank_entry q.count q.frames (omega arith),
          ) (map-append view_frame (take q.count q.frames) (f ∷ []));
      mark = refl;
    }

-- ---- the eight
pub length_shown : (qs : List Queue) → length (view_queues qs) ≡ length qs
unfolding view_queues
length_shown qs = length-map qs view_queue

pub queue_shown : (qs : List Queue) (p : ℕ) → queue_of (view_queues qs) p ≡ view_queue (get_or qs p blank_queue)
unfolding view_queues view_queue entries
queue_shown qs p = get_or-map view_queue qs p blank_queue

pub queue_count : (qs : List Queue) (p : ℕ) → length (queue_of (view_queues qs) p) ≡ (get_or qs p blank_queue).count
queue_count qs p = rw queue_shown (count_shown (get_or qs p blank_queue))

pub queues_set : (qs : List Queue) (p : ℕ) (r : Queue) → view_queues (set qs p r) ≡ set (view_queues qs) p (view_queue r)
unfolding view_queues
queues_set [] p r = refl
queues_set (q ∷ qs) zero r = refl
queues_set (q ∷ qs) (suc p) r = ap (λ (l : List (List Frame)). view_queue q ∷ l) (queues_set qs p r)

pub marks_set : (qs : List Queue) (p : ℕ) (r : Queue) → r.mark ≡ (get_or qs p blank_queue).mark → view_marks (set qs p r) ≡ view_marks qs
marks_set qs p r e = map-set_same (λ (q : Queue). q.mark) qs p r blank_queue e

-- ---- the head of a queue, and the queues without it
module _ (qs : List Queue) (p : ℕ) where
  pub head_shown : 0 < length (queue_of (view_queues qs) p) → head_of (view_queues qs) p ≡ view_frame (get_or (get_or qs p blank_queue).frames 0 blank_entry)
  head_shown h = let n = queue_count qs p in rw queue_shown (oldest_shown (get_or qs p blank_queue) (omega arith))

  pub gone_shown : {r : Queue} → HeadGone (get_or qs p blank_queue) r → view_queues (set qs p r) ≡ without_head (view_queues qs) p
  gone_shown gone = rw (queues_set, gone.frames, queue_shown)
