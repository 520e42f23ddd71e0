-- The tick machine: eight queues, a sender, one byte a tick.
use Rattle.std.specs.Prelude.{Bool, true, false, List, [], ◌∷◌, ◌++◌, ℕ, zero, suc, ◌+◌, ◌-◌, eqb, length, get_or, drop, set}
use Rattle.std.proofs.Math.Option.{Option, none, some}
use Rattle.model.specs.Basics.{further}
use Rattle.model.specs.Units.{occupied}

-- "stored frames (number, length, arrival tick)"
pub record Frame : Type 0 where
  pub number : ℕ
  pub length : ℕ
  pub arrival : ℕ

-- "the frame being sent with its start tick or idle": it is the head of the queue of that priority
pub data Sender : Type 0 where
  idle : Sender
  -- priority, start tick
  sending : ℕ → ℕ → Sender

-- the part of the state that a tick changes
pub record Scheduler : Type 0 where
  pub clock : ℕ
  -- a queue for each priority, oldest frame first
  pub queues : List (List Frame)
  pub sender : Sender

-- "number, length, tick freed"
pub record Departure : Type 0 where
  pub number : ℕ
  pub length : ℕ
  pub freed : ℕ

-- the departures "in order of leaving", and the scheduler after them
pub record Advance : Type 0 where
  pub departures : List Departure
  pub scheduler : Scheduler

abbrev pub at : ℕ → List (List Frame) → Sender → Scheduler
at clock queues sender = record { clock = clock; queues = queues; sender = sender }

abbrev pub advanced : List Departure → Scheduler → Advance
advanced departures s = record { departures = departures; scheduler = s }

abbrev pub blank_frame : Frame
blank_frame = record { number = 0; length = 0; arrival = 0 }

abbrev pub queue_of : List (List Frame) → ℕ → List Frame
queue_of queues p = get_or queues p []

abbrev pub head_of : List (List Frame) → ℕ → Frame
head_of queues p = get_or (queue_of queues p) 0 blank_frame

-- "the highest waiting priority", 0 being the highest
unfoldable pub highest_waiting : List (List Frame) → Option ℕ
highest_waiting [] = none
highest_waiting ([] ∷ queues) = further (highest_waiting queues)
highest_waiting ((f ∷ queue) ∷ queues) = some 0

-- "if idle and a frame waits, the oldest of the highest waiting priority starts at m"
unfoldable pub start_if_any : ℕ → Option ℕ → Sender
start_if_any m none = idle
start_if_any m (some p) = sending p m

unfoldable pub started : ℕ → List (List Frame) → Sender → Sender
started m queues idle = start_if_any m (highest_waiting queues)
started m queues (sending p start) = sending p start

-- "one byte leaves. A frame started at m is freed at m + length": the last byte frees it whole
abbrev pub without_head : List (List Frame) → ℕ → List (List Frame)
without_head queues p = set queues p (drop 1 (queue_of queues p))

abbrev pub departure : Frame → ℕ → Departure
departure f tick = record { number = f.number; length = f.length; freed = tick }

unfoldable pub freed_if : Bool → ℕ → List (List Frame) → ℕ → ℕ → Advance
freed_if true m queues p start = advanced (departure (head_of queues p) (suc m) ∷ []) (at (suc m) (without_head queues p) idle)
freed_if false m queues p start = advanced [] (at (suc m) queues (sending p start))

unfoldable pub byte_leaves : ℕ → List (List Frame) → Sender → Advance
byte_leaves m queues idle = advanced [] (at (suc m) queues idle)
byte_leaves m queues (sending p start) = freed_if (eqb (start + (head_of queues p).length) (suc m)) m queues p start

-- one tick m, the clock being m
unfoldable pub tick : Scheduler → Advance
tick s = byte_leaves s.clock s.queues (started s.clock s.queues s.sender)

-- an advance with departures before its own
abbrev pub preceded : List Departure → Advance → Advance
preceded departures a = record { departures = departures ++ a.departures; scheduler = a.scheduler }

unfoldable pub ticks : ℕ → Scheduler → Advance
ticks zero s = advanced [] s
ticks (suc k) s = let a = tick s in preceded a.departures (ticks k a.scheduler)

-- "Advance to T, for each tick m from clock to T − 1"
unfoldable pub advance : ℕ → Scheduler → Advance
advance time s = ticks (time - s.clock) s

-- "queued last"
abbrev pub queued_last : List (List Frame) → ℕ → Frame → List (List Frame)
queued_last queues p f = set queues p (queue_of queues p ++ (f ∷ []))

abbrev pub stored : Scheduler → ℕ → Frame → Scheduler
stored s p f = at s.clock (queued_last s.queues p f) s.sender

-- the sum over frames of a weight on their lengths; "held bytes" are what they occupy
unfoldable pub bytes : (ℕ → ℕ) → List Frame → ℕ
bytes weight [] = 0
bytes weight (f ∷ frames) = weight f.length + bytes weight frames

abbrev pub held : List Frame → ℕ
held frames = bytes occupied frames

unfoldable pub frames_held : List (List Frame) → ℕ
frames_held [] = 0
frames_held (queue ∷ queues) = length queue + frames_held queues
