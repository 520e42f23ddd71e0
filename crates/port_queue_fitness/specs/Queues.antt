-- The conditions of fitness on queues and sender, over the records of the code.
use Rattle.std.specs.Prelude.{Bool, List, [], ◌∷◌, ℕ, leb, length, get_or, Option}
use Rattle.std.specs.Bool.{then_some}
use Rattle.model.specs.Basics.{all_to, all_hold}
use Rattle.model.specs.Units.{most_frames}
use Rattle.model.specs.Machine.{queue_of, held, frames_held}
use Rattle.model.specs.Fitness.{frames_fit, sender_fit}
use Rattle.table.specs.declared.Table.{Table as TableRecord}
use Rattle.table.specs.View.{view_table}
use Rattle.port_scheduler.specs.declared.Queue.{Queue}
use Rattle.port_scheduler.specs.declared.Sending.{Sending}
use Rattle.port_scheduler.specs.View.{view_queue, view_queues, view_marks, view_sender}

-- of one queue, of priority p: its frames and its held sum
abbrev pub load_fits : TableRecord → ℕ → ℕ → Queue → Bool
load_fits t clock p q = all_hold (frames_fit (view_table t) p clock 0 (view_queue q) ∷ leb (held (view_queue q)) q.mark ∷ [])

-- of the queue of priority p: its count, its frames, its held sum, its mark
abbrev pub queue_fits : TableRecord → ℕ → List Queue → ℕ → Bool
queue_fits t clock queues p =
    all_hold (
    leb (length (queue_of (view_queues queues) p)) most_frames
    ∷ frames_fit (view_table t) p clock 0 (queue_of (view_queues queues) p)
    ∷ leb (held (queue_of (view_queues queues) p)) (get_or (view_marks queues) p 0)
    ∷ leb (get_or (view_marks queues) p 0) (get_or t.sizes p 0)
    ∷ []
    )

abbrev pub queues_fit : TableRecord → ℕ → List Queue → Bool
queues_fit t clock queues = all_to (queue_fits t clock queues) 8

-- of the queues and the sender: the frames held, if they fit
abbrev pub queues_fitness : TableRecord → ℕ → List Queue → Option Sending → Option ℕ
queues_fitness t clock queues sender = then_some (all_hold (queues_fit t clock queues ∷ sender_fit clock (view_queues queues) (view_sender sender) ∷ [])) (frames_held (view_queues queues))
