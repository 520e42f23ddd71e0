-- A frame that passed the police check, stored in a ring or dropped, against the model's definition.
use Rattle.std.specs.Prelude.{◌≡◌, ◌⊎◌, List, ℕ, ◌+◌, ◌≤◌, ◌<◌, get_or}
use Rattle.model.specs.Units.{occupied, most_frames}
use Rattle.model.specs.Table.{Table, size_of}
use Rattle.model.specs.Machine.{Frame, at, frames_held}
use Rattle.model.specs.Port.{Port}
use Rattle.model.specs.Report.{store}
use Rattle.flat_queues.specs.declared.Rings.{Rings}
use Rattle.flat_queues.specs.View.{queues_in}
use Rattle.flat_scheduler.specs.Promised.{Holds}

-- what is asked: the held bytes of each ring stand beside it, and where the size has room for the frame the ring has
pub record Roomy (r : Rings) (p size len : ℕ) : Type 0 where
  pub ring : p < 8
  pub holds : Holds r.held (queues_in r)
  pub free : get_or r.held p 0 + occupied len ≤ size → get_or r.counts p 0 < most_frames

-- a table and a port of the model that have this size, these queues and these marks
pub record Shown (t : Table) (s : Port) (p size : ℕ) (queues : List (List Frame)) (marks : List ℕ) : Type 0 where
  pub size_is : size_of t p ≡ size
  pub queues_are : s.scheduler.queues ≡ queues
  pub marks_are : s.marks ≡ marks

-- the port with these queues and marks, and all else as it is
abbrev pub with_queues : Port → List (List Frame) → List ℕ → Port
with_queues s queues marks = record { scheduler = at s.scheduler.clock queues s.scheduler.sender; marks = marks; gate = s.gate; counters = s.counters }

-- verdict and port are the model's
pub record Settles (t : Table) (s : Port) (p : ℕ) (f : Frame) (verdict : ℕ) (queues : List (List Frame)) (marks : List ℕ) : Type 0 where
  pub verdict_is : verdict ≡ (store t s p f).verdict
  pub port_is : with_queues s queues marks ≡ (store t s p f).port

-- stored: one frame more is held; dropped: nothing is touched
pub record Kept (r : Rings) (verdict : ℕ) (r' : Rings) : Type 0 where
  pub either : (verdict ≡ 0) ⊎ (verdict ≡ 3)
  pub stored : verdict ≡ 0 → frames_held (queues_in r') ≡ frames_held (queues_in r) + 1
  pub dropped : verdict ≡ 3 → r' ≡ r

-- and the heads of the rings stay
pub record KeptInPlace (r : Rings) (verdict : ℕ) (r' : Rings) : Type 0 where
  pub kept : Kept r verdict r'
  pub heads : r'.heads ≡ r.heads
