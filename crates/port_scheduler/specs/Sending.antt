-- Who sends: what holds of the sender between two departures.
use Rattle.std.specs.Prelude.{◌≡◌, List, [], ℕ, ◌+◌, ◌≤◌, ◌<◌, length, drop}
use Rattle.model.specs.Basics.{Each}
use Rattle.model.specs.Machine.{Frame, Sender, idle, sending, at, advanced, advance, queue_of, head_of}
use Rattle.port_scheduler.specs.declared.Queue.{Queue}
use Rattle.port_scheduler.specs.View.{view_queue}

-- the head of queue p started by tick m, and is not through at it
pub record UnderWay (queues : List (List Frame)) (p start m : ℕ) : Type 0 where
  pub in_range : p < 8
  pub waits : 0 < length (queue_of queues p)
  pub began : start ≤ m
  pub ends : m < start + (head_of queues p).length

abbrev pub Sends : List (List Frame) → Sender → ℕ → Type 0
Sends queues idle m = Unit
Sends queues (sending p start) m = UnderWay queues p start m

abbrev pub Positive : List (List Frame) → Type 0
Positive queues = (p : ℕ) → Each (λ (f : Frame). 0 < f.length) (queue_of queues p)

-- from tick m the advance goes on as if r were the sender; if nobody sends, it is over
pub record GoesOn (queues : List (List Frame)) (s : Sender) (m time : ℕ) (r : Sender) : Type 0 where
  pub same : advance time (at m queues s) ≡ advance time (at m queues r)
  pub sends : Sends queues r m
  pub over : r ≡ idle → advance time (at m queues r) ≡ advanced [] (at time queues idle)

-- a queue without its oldest frame
pub record HeadGone (q r : Queue) : Type 0 where
  pub frames : view_queue r ≡ drop 1 (view_queue q)
  pub mark : r.mark ≡ q.mark
