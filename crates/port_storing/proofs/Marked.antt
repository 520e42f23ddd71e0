-- The queue that a frame is stored in.
use mathlib.Core.Path.{◌≡◌, refl, ap, ◌∙◌}
use Prim.Native.Nat.{ℕ, max}
use Rattle.port_scheduler.specs.declared.Frame.{Frame as FrameRecord}
use Rattle.port_scheduler.specs.declared.Queue.{Queue}
use Rattle.port_scheduler.specs.View.{view_queue}
use Rattle.port_scheduler.specs.Promised.{Pushed}
use Rattle.port_storing.specs.Storing.{Stored}

-- the mark is no part of the frames
re_marked : (q : Queue) (m : ℕ) → view_queue (record { count = q.count; mark = m; frames = q.frames }) ≡ view_queue q
unfolding view_queue
re_marked q m = refl

pub stored_shown : {q r : Queue} {f : FrameRecord} {holds m : ℕ} → Pushed q f r → m ≡ max r.mark holds →
    Stored q f holds (record { count = r.count; mark = m; frames = r.frames })
stored_shown {r = r} {holds = holds} {m = m} p e =
    record { frames = re_marked r m ∙ p.frames; mark = e ∙ ap (λ (k : ℕ). max k holds) p.mark }
