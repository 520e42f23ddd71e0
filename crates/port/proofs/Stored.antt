-- One queue of the eight after a frame, and the model's port.
use mathlib.Core.Path.{◌≡◌, refl, ap, ◌∙◌}
use mathlib.Core.Bool.{Bool, true, false}
use mathlib.Core.List.{List, [], ◌∷◌, ◌++◌}
use Prim.Native.Nat.{ℕ, ◌+◌, ◌<◌, max}
use native.Mathlib.Omega.{arith}
use lib.Dec.{leb}
use lib.ListN.{length, get_or, set, get_or-map}
use lib.Seq.{set-get_or, get_or-set_same}
use Rattle.model.specs.Units.{occupied}
use Rattle.model.specs.Machine.{Frame, queue_of, queued_last, held}
use Rattle.model.specs.Report.{stored_if}
use Rattle.model.proofs.Queues.{bytes_snoc}
use Rattle.port_scheduler.specs.declared.Frame.{Frame as FrameRecord}
use Rattle.port_scheduler.specs.declared.Queue.{Queue}
use Rattle.port_scheduler.specs.View.{view_frame, blank_queue, view_queue, view_queues, view_marks}
use Rattle.port_scheduler.proofs.Shown.{queue_shown, queues_set, length_shown}
use Rattle.port_refusals.specs.Verdicts.{verdict_of}
use Rattle.port_storing.specs.declared.Settled.{Settled}
use Rattle.port_storing.specs.Storing.{verdict_if, Kept, Settles}
use Rattle.port.specs.declared.Port.{Port as PortRecord}
use Rattle.port.specs.View.{view_port}
use Rattle.model.proofs.Lists.{map-set}

-- the port with those queues, and all else as it is
abbrev pub with_queues : PortRecord → List Queue → PortRecord
with_queues p queues = record { table = p.table; clock = p.clock; queues = queues; sender = p.sender; gate = p.gate; counts = p.counts; unknown = p.unknown }

module _ (p : PortRecord) (k : ℕ) (eight : length p.queues ≡ 8) (below : k < 8) (f : FrameRecord) where
  abbrev qs : List Queue
  qs = p.queues

  abbrev q : Queue
  q = get_or qs k blank_queue

  queued : (r : Queue) → view_queue r ≡ view_queue q ++ (view_frame f ∷ []) → view_queues (set qs k r) ≡ queued_last (view_queues qs) k (view_frame f)
  queued r e = rw (queues_set, e, queue_shown)

  mark_shown : get_or (view_marks qs) k 0 ≡ q.mark
  mark_shown = get_or-map (λ (x : Queue). x.mark) qs k blank_queue

  holds_more : held (queue_of (queued_last (view_queues qs) k (view_frame f)) k) ≡ held (view_queue q) + occupied f.length
  holds_more =
      ap (λ (l : List Frame). held l) (get_or-set_same (view_queues qs) k (queue_of (view_queues qs) k ++ (view_frame f ∷ [])) [] (omega (arith, length_shown qs)))
      ∙ bytes_snoc occupied (queue_of (view_queues qs) k) (view_frame f) ∙ rw queue_shown

  marked : (r : Queue) → r.mark ≡ max q.mark (held (view_queue q) + occupied f.length) →
      view_marks (set qs k r) ≡ set (view_marks qs) k (max (get_or (view_marks qs) k 0) (held (queue_of (queued_last (view_queues qs) k (view_frame f)) k)))
  marked r e = map-set (λ (x : Queue). x.mark) qs k r ∙ ap (λ (n : ℕ). set (view_marks qs) k n) (e ∙ rw (mark_shown, holds_more))

  kept_shown : (b : Bool) (r : Queue) → Kept (verdict_if b) q f r → view_port (with_queues p (set qs k r)) ≡ (stored_if b (view_port p) k (view_frame f)).port
  unfolding verdict_if stored_if view_port
  kept_shown true r s = rw (queued r s.frames, marked r s.mark)
  kept_shown false r e = rw (e, set-get_or qs k blank_queue)

  verdict_same : (b : Bool) → verdict_if b ≡ (stored_if b (view_port p) k (view_frame f)).verdict
  unfolding verdict_if stored_if
  verdict_same true = refl
  verdict_same false = refl

  -- the verdict and the port of the model
  module _ (size : ℕ) {s : Settled} (settles : Settles q size f s) where
    abbrev room : Bool
    room = leb (held (queue_of (view_queues qs) k) + occupied f.length) size

    verdict_is : verdict_of s.verdict ≡ verdict_if room
    verdict_is = settles.verdict ∙ rw queue_shown

    pub settled_verdict : verdict_of s.verdict ≡ (stored_if room (view_port p) k (view_frame f)).verdict
    settled_verdict = verdict_is ∙ verdict_same room

    pub settled_port : view_port (with_queues p (set qs k s.queue)) ≡ (stored_if room (view_port p) k (view_frame f)).port
    settled_port = kept_shown room s.queue (rw verdict_is at settles.queue)
