-- What a frame that passed the police check comes to: the verdict, and the queue of its link's priority afterwards.
use Rattle.std.specs.Prelude.{◌≡◌, Bool, true, false, [], ◌∷◌, ◌++◌, ℕ, zero, suc, ◌+◌, ◌≤◌, ◌<◌, max, leb}
use Rattle.model.specs.Units.{occupied, most_frames}
use Rattle.model.specs.Machine.{held}
use Rattle.port_scheduler.specs.declared.Frame.{Frame as FrameRecord}
use Rattle.port_scheduler.specs.declared.Queue.{Queue}
use Rattle.port_scheduler.specs.View.{view_frame, view_queue}
use Rattle.port_refusals.specs.Verdicts.{verdict_of}
use Rattle.port_storing.specs.declared.Settled.{Settled}

-- "dropped (3): .. held bytes + length exceed the size", the length being what the frame occupies; "stored (0): otherwise"
unfoldable pub verdict_if : Bool → ℕ
verdict_if true = 0
verdict_if false = 3

abbrev pub verdict_in : Queue → ℕ → FrameRecord → ℕ
verdict_in q size f = verdict_if (leb (held (view_queue q) + occupied f.length) size)

-- "queued last, and the mark rises to the held bytes if they are more"
pub record Stored (q : Queue) (f : FrameRecord) (holds : ℕ) (r : Queue) : Type 0 where
  pub frames : view_queue r ≡ view_queue q ++ (view_frame f ∷ [])
  pub mark : r.mark ≡ max q.mark holds

-- the queue after a frame with that verdict
abbrev pub Kept : ℕ → Queue → FrameRecord → Queue → Type 0
Kept zero q f r = Stored q f (held (view_queue q) + occupied f.length) r
Kept (suc n) q f r = r ≡ q

-- a queue that counts at most as many frames as a queue may, and fewer where the frame has room
pub record Roomy (q : Queue) (size : ℕ) (f : FrameRecord) : Type 0 where
  pub few : q.count ≤ most_frames
  pub room : held (view_queue q) + occupied f.length ≤ size → q.count < most_frames

pub record Settles (q : Queue) (size : ℕ) (f : FrameRecord) (r : Settled) : Type 0 where
  pub verdict : verdict_of r.verdict ≡ verdict_in q size f
  pub queue : Kept (verdict_of r.verdict) q f r.queue
