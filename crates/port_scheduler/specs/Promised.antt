-- What the public functions ask and promise.
use Rattle.std.specs.Prelude.{◌≡◌, true, List, [], ◌∷◌, ◌++◌, ℕ, ◌*◌, ◌≤◌, ◌<◌, length, get_or, Option}
use Rattle.model.specs.Basics.{Each}
use Rattle.model.specs.Units.{last_tick, most_frames}
use Rattle.model.specs.Machine.{Frame, Advance, at, advance, queue_of, frames_held}
use Rattle.model.specs.Fitness.{sender_fit}
use Rattle.model.specs.Report.{listed, bytes_freed}
use Rattle.port_scheduler.specs.declared.Frame.{Frame as FrameRecord}
use Rattle.port_scheduler.specs.declared.Queue.{Queue}
use Rattle.port_scheduler.specs.declared.Sending.{Sending}
use Rattle.port_scheduler.specs.declared.Moved.{Moved}
use Rattle.port_scheduler.specs.View.{view_frame, blank_queue, view_queue, view_queues, view_marks, view_sender}

-- "queued last"
pub record Pushed (q : Queue) (f : FrameRecord) (r : Queue) : Type 0 where
  pub frames : view_queue r ≡ view_queue q ++ (view_frame f ∷ [])
  pub mark : r.mark ≡ q.mark

-- what an advance asks, of queues, sender and clock that are fit, and of a list of that length
pub record Ready (queues : List Queue) (s : Option Sending) (clock time len : ℕ) : Type 0 where
  pub few : (p : ℕ) → p < 8 → length (queue_of (view_queues queues) p) ≤ most_frames
  pub positive : (p : ℕ) → p < 8 → Each (λ (f : Frame). 0 < f.length) (queue_of (view_queues queues) p)
  pub sender : sender_fit clock (view_queues queues) (view_sender s) ≡ true
  pub later : clock ≤ time
  pub early : time ≤ last_tick
  pub room : 3 * frames_held (view_queues queues) ≤ len

-- the tick machine's advance
abbrev pub advance_from : ℕ → ℕ → List Queue → Option Sending → Advance
advance_from time clock queues sender = advance time (at clock (view_queues queues) (view_sender sender))

-- what is left, what was freed and the whole list are the tick machine's; the marks stay
pub record Advanced (a : Advance) (high before after : List ℕ) (r : Moved) : Type 0 where
  pub queues : view_queues r.queues ≡ a.scheduler.queues
  pub marks : view_marks r.queues ≡ high
  pub sender : view_sender r.sender ≡ a.scheduler.sender
  pub frames : r.frames ≡ length a.departures
  pub bytes : r.bytes ≡ bytes_freed a.departures
  pub list : after ≡ listed a.departures before
  pub eight : length r.queues ≡ 8
  pub few : (p : ℕ) → p < 8 → (get_or r.queues p blank_queue).count ≤ most_frames
