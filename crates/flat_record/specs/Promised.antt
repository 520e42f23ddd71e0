-- What the functions ask and promise.
use Rattle.std.specs.Prelude.{◌≡◌, List, ℕ, ◌+◌, ◌*◌, ◌≤◌, ◌<◌, ◌^◌, length, get_or, set}
use Rattle.model.specs.Basics.{Each}
use Rattle.model.specs.Units.{most_frames}
use Rattle.model.specs.Machine.{Frame, queue_of}
use Rattle.port_scheduler.specs.declared.Queue.{Queue}
use Rattle.port_scheduler.specs.View.{blank_queue, view_queue, view_queues, view_marks}
use Rattle.counters.specs.View.{view_counts, view_tallies}
use Rattle.flat_queues.specs.declared.Rings.{Rings}
use Rattle.flat_queues.specs.View.{ring, queues_in, Kept}
use Rattle.flat_scheduler.specs.Promised.{Holds}

-- ---- counts
-- the counts of the record, four a link and the unknown one, in a list
pub record CountsPut (counts : List ℕ) (unknown : ℕ) (tallies : List ℕ) : Type 0 where
  pub counters_are : (n : ℕ) → n ≤ 256 → view_tallies n tallies ≡ view_counts n counts unknown
  pub each : (i v : ℕ) → i < 256 → v < 4 → get_or tallies (5 * i + v) 0 ≡ get_or counts (4 * i + v) 0
  pub unknown_is : get_or tallies 1280 0 ≡ unknown
  pub room : length tallies ≡ 1281

-- the counts of a list, four a link, in a record
pub record CountsRead (tallies counts : List ℕ) : Type 0 where
  pub counters_are : (n : ℕ) → n ≤ 256 → view_counts n counts (get_or tallies 1280 0) ≡ view_tallies n tallies
  pub each : (i v : ℕ) → i < 256 → v < 4 → get_or counts (4 * i + v) 0 ≡ get_or tallies (5 * i + v) 0
  pub all : length counts ≡ 1024

-- ---- queues
-- a queue that has no more frames than a ring has slots, and one of eight rings
pub record QueueFits (q : Queue) (p : ℕ) : Type 0 where
  pub eight : p < 8
  pub few : q.count ≤ most_frames

-- ring p is the queue; the other rings stay, and so do held bytes and marks
pub record QueuePut (q : Queue) (p : ℕ) (r r' : Rings) : Type 0 where
  pub rings : queues_in r' ≡ set (queues_in r) p (view_queue q)
  pub beside : Kept r r'

-- and the heads of the rings stay
pub record QueuePutInPlace (q : Queue) (p : ℕ) (r r' : Rings) : Type 0 where
  pub put : QueuePut q p r r'
  pub heads : r'.heads ≡ r.heads

-- queues that have no more frames than rings have slots
abbrev pub QueuesFit : List Queue → Type 0
QueuesFit queues = (p : ℕ) → p < 8 → (get_or queues p blank_queue).count ≤ most_frames

-- the queues of the record, as rings, with the bytes that each holds and its mark
pub record QueuesPut (queues : List Queue) (r : Rings) : Type 0 where
  pub rings : queues_in r ≡ view_queues queues
  pub holds : Holds r.held (queues_in r)
  pub marks_are : r.marks ≡ view_marks queues

-- a frame whose number and length go into 16 bits
abbrev pub Narrow : Frame → Type 0
Narrow f = (f.number ≤ 65535) × (f.length ≤ 65535)

-- one of eight rings that goes into a queue, with its mark
pub record RingFits (r : Rings) (p : ℕ) : Type 0 where
  pub eight : p < 8
  pub few : get_or r.counts p 0 ≤ most_frames
  pub low : get_or r.marks p 0 < 2 ^ 32
  pub narrow : Each Narrow (ring r.frames p (get_or r.heads p 0) (get_or r.counts p 0))

pub record RingRead (r : Rings) (p : ℕ) (q : Queue) : Type 0 where
  pub frames_are : view_queue q ≡ ring r.frames p (get_or r.heads p 0) (get_or r.counts p 0)
  pub mark_is : q.mark ≡ get_or r.marks p 0
  pub counts_room : length r.counts ≡ 8
  pub marks_room : length r.marks ≡ 8

-- eight rings and their marks that go into a record
pub record RingsFit (r : Rings) : Type 0 where
  pub few : (p : ℕ) → p < 8 → get_or r.counts p 0 ≤ most_frames
  pub low : (p : ℕ) → p < 8 → get_or r.marks p 0 < 2 ^ 32
  pub narrow : (p : ℕ) → p < 8 → Each Narrow (queue_of (queues_in r) p)

-- the rings and their marks, as the queues of a record
pub record QueuesRead (r : Rings) (queues : List Queue) : Type 0 where
  pub rings : view_queues queues ≡ queues_in r
  pub marks_are : view_marks queues ≡ r.marks
