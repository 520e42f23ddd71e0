-- What the advance on flat lists asks and promises.
use Rattle.std.specs.Prelude.{◌≡◌, true, List, ◌∷◌, ◌++◌, ℕ, ◌+◌, ◌-◌, ◌*◌, ◌≤◌, ◌<◌, length, get_or, set, take, drop}
use Rattle.model.specs.Basics.{Each}
use Rattle.model.specs.Units.{last_tick, occupied, most_frames}
use Rattle.model.specs.Machine.{Frame, Sender, Advance, queue_of, without_head, held as heldBytes, frames_held}
use Rattle.model.specs.Fitness.{sender_fit}
use Rattle.model.specs.Report.{listed}
use Rattle.flat_queues.specs.declared.Rings.{Rings}
use Rattle.flat_queues.specs.View.{queues_in}

-- the held bytes of each of eight queues, kept beside it
pub record Holds (held : List ℕ) (queues : List (List Frame)) : Type 0 where
  pub queues_eight : length queues ≡ 8
  pub eight : length held ≡ 8
  pub bytes_are : (p : ℕ) → p < 8 → get_or held p 0 ≡ heldBytes (queue_of queues p)

-- the head of ring i stands at a slot, and a list of that length has room for its departure
pub record Leaving (r : Rings) (i from len k : ℕ) : Type 0 where
  pub ring : i < 8
  pub slot : from + 3 ≤ 3 * (8 * most_frames)
  pub waits : 0 < get_or r.counts i 0
  pub room : k + 3 ≤ len

pub record Departs (r : Rings) (i from end : ℕ) (list : List ℕ) (k : ℕ) (r' : Rings) (list' : List ℕ) : Type 0 where
  pub frames_stay : r'.frames ≡ r.frames
  pub queues_are : queues_in r' ≡ without_head (queues_in r) i
  pub held_is : r'.held ≡ set r.held i (get_or r.held i 0 - occupied (get_or r.frames (from + 1) 0))
  pub marks_stay : r'.marks ≡ r.marks
  pub list_is : list' ≡ take k list ++ (get_or r.frames from 0 ∷ get_or r.frames (from + 1) 0 ∷ end ∷ drop (k + 3) list)

-- what an advance asks, of queues, sender and clock that are fit, and of a list of that length
pub record Ready (queues : List (List Frame)) (s : Sender) (clock time len : ℕ) : Type 0 where
  pub few : (p : ℕ) → p < 8 → length (queue_of queues p) ≤ most_frames
  pub positive : (p : ℕ) → p < 8 → Each (λ (f : Frame). 0 < f.length) (queue_of queues p)
  pub sender : sender_fit clock queues s ≡ true
  pub later : clock ≤ time
  pub early : time ≤ last_tick
  pub room : 3 * frames_held queues ≤ len

-- what is left, what was freed and the whole list are the tick machine's; no frame is lost
pub record Advanced (queues : List (List Frame)) (a : Advance) (queues' : List (List Frame)) (s : Sender) (frames : ℕ) (before after : List ℕ) : Type 0 where
  pub queues_are : queues' ≡ a.scheduler.queues
  pub sender_is : s ≡ a.scheduler.sender
  pub frames_are : frames ≡ length a.departures
  pub list_is : after ≡ listed a.departures before
  pub none_lost : frames + frames_held queues' ≡ frames_held queues
