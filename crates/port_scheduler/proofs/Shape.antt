-- The arrays of a value that the code holds have their lengths: from what owning the value tells.
use mathlib.Core.Path.{◌≡◌}
use mathlib.Core.List.{List}
use lib.ListN.{length}
use mir.Val.{Val}
use denote.Laws.{Is}
use denote.Array.{Array}
use denote.Struct.Declared.{row}
use Rattle.model.specs.Units.{most_frames}
use Rattle.port_scheduler.specs.declared.Queue.{Queue}
use Rattle.port_scheduler.specs.contracts.Queue.{the_type}

pub queue_whole : (q : Queue) (vs : List Val) → Is (row the_type) q vs → length q.frames ≡ most_frames
queue_whole q vs p = p.1.1.1.1.0.1.0.1

pub queues_eight : (qs : List Queue) (vs : List Val) → Is (Array (row the_type) 8) qs vs → length qs ≡ 8
queues_eight qs vs s = s.1.0.1
