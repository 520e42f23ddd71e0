-- Sums over a queue and over the queues, element by element.
use Rattle.std.specs.List.{sum_by}
use Rattle.std.proofs.lemmas.List.Recursion.{is_sum_by}
use mathlib.Core.Path.{◌≡◌, refl, sym, ap}
use mathlib.Core.List.{List, [], ◌∷◌, ◌++◌, map}
use Prim.Native.Nat.{ℕ, zero, suc, ◌+◌, ◌*◌, ◌≤◌, ◌<◌}
use native.Mathlib.Numerals.{add-one}
use native.Mathlib.Omega.{arith}
use lib.ListN.{length, get_or, take, length-append}
use lib.Seq.{take-suc, take_all}
use Rattle.model.specs.Units.{occupied}
use Rattle.model.specs.Machine.{Frame, queue_of, queued_last, without_head, bytes, held, frames_held}
use Rattle.port_scheduler.specs.declared.Frame.{Frame as FrameRecord}
use Rattle.port_scheduler.specs.declared.Queue.{Queue}
use Rattle.port_scheduler.specs.View.{view_frame, blank_entry, blank_queue, view_queue, view_queues}
use Rattle.port_scheduler.proofs.Shown.{entries_take, length_shown, count_shown, queue_count}

-- ---- what the code's chains add up
pub bytes_shown : (q : Queue) → q.count ≤ length q.frames → sum_by (λ (f : FrameRecord). occupied f.length) (take q.count q.frames) ≡ held (view_queue q)
unfolding view_queue bytes
bytes_shown q h =
    rw (entries_take blank_entry q.count q.frames h)
    (sym (is_sum_by (λ (l : List FrameRecord). held (map view_frame l)) (λ (f : FrameRecord). occupied f.length) refl (λ _ _. refl) (take q.count q.frames)))

pub frames_shown : (qs : List Queue) → sum_by (λ (q : Queue). q.count) qs ≡ frames_held (view_queues qs)
unfolding view_queues frames_held
frames_shown qs = sym (is_sum_by (λ (l : List Queue). frames_held (map view_queue l)) (λ (q : Queue). q.count) refl (λ q l. ap (λ (n : ℕ). n + frames_held (map view_queue l)) (count_shown q)) qs)

-- ---- the frames of the first i queues
frames_append : (a b : List (List Frame)) → frames_held (a ++ b) ≡ frames_held a + frames_held b
unfolding frames_held
frames_append [] b = omega arith
frames_append (q ∷ a) b = omega (arith, frames_append a b)

pub frames_none : (qs : List (List Frame)) → 0 ≡ frames_held (take 0 qs)
unfolding frames_held
frames_none qs = refl

pub frames_more : (qs : List Queue) (i : ℕ) → i < length qs → frames_held (take (i + 1) (view_queues qs)) ≡ frames_held (take i (view_queues qs)) + (get_or qs i blank_queue).count
unfolding frames_held
frames_more qs i h =
    rw (add-one, take-suc (view_queues qs) i [] (rw length_shown h), frames_append) (omega (arith, queue_count qs i))

pub frames_all : (qs : List Queue) (i : ℕ) → length qs ≤ i → frames_held (take i (view_queues qs)) ≡ frames_held (view_queues qs)
frames_all qs i h = rw (take_all i (view_queues qs) (rw length_shown h))

-- ---- one frame more, one frame less
pub frames_last : (qs : List (List Frame)) (p : ℕ) (f : Frame) → p < length qs → frames_held (queued_last qs p f) ≡ frames_held qs + 1
unfolding frames_held
frames_last [] p f h = absurd (omega arith)
frames_last (q ∷ qs) zero f h = omega (arith, length-append q (f ∷ []))
frames_last (q ∷ qs) (suc p) f h = omega (arith, frames_last qs p f (omega arith))

pub frames_gone : (qs : List (List Frame)) (p : ℕ) → 0 < length (queue_of qs p) → frames_held (without_head qs p) + 1 ≡ frames_held qs
unfolding frames_held
frames_gone [] p h = absurd (omega arith)
frames_gone ([] ∷ qs) zero h = absurd (omega arith)
frames_gone ((f ∷ l) ∷ qs) zero h = omega arith
frames_gone (q ∷ qs) (suc p) h = omega (arith, frames_gone qs p h)

pub frames_few : (qs : List (List Frame)) (n : ℕ) → ((p : ℕ) → length (queue_of qs p) ≤ n) → frames_held qs ≤ n * length qs
unfolding frames_held
frames_few [] n h = omega arith
frames_few (q ∷ qs) n h = omega (arith, frames_few qs n (λ p. h (suc p)), h 0)
