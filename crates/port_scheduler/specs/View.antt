-- The records of the code and what they are in the model: frames, queues, the sender.
use Rattle.std.specs.Prelude.{List, [], map, ℕ, Option, Some, None}
use Rattle.model.specs.Basics.{entries}
use Rattle.model.specs.Machine.{Frame, Sender, idle, sending}
use Rattle.port_scheduler.specs.declared.Frame.{Frame as FrameRecord}
use Rattle.port_scheduler.specs.declared.Queue.{Queue}
use Rattle.port_scheduler.specs.declared.Sending.{Sending}

abbrev pub view_frame : FrameRecord → Frame
view_frame f = record { number = f.number; length = f.length; arrival = f.arrival }

abbrev pub blank_entry : FrameRecord
blank_entry = record { number = 0; length = 0; arrival = 0 }

-- what stands at no place of the queues
abbrev pub blank_queue : Queue
blank_queue = record { count = 0; mark = 0; frames = [] }

-- "Entries of a record behind its counts are no part of a table or queue": the frames before the count, oldest first
unfoldable pub view_queue : Queue → List Frame
view_queue q = map view_frame (entries blank_entry q.count q.frames)

unfoldable pub view_queues : List Queue → List (List Frame)
view_queues queues = map view_queue queues

abbrev pub view_marks : List Queue → List ℕ
view_marks queues = map (λ (q : Queue). q.mark) queues

-- none sends, or one does
abbrev pub view_sender : Option Sending → Sender
view_sender None = idle
view_sender (Some s) = sending s.priority s.start
