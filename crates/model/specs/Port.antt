-- The port: its state, fresh, and with one part of it changed.
use Rattle.std.specs.Prelude.{List, [], map, ℕ, ◌+◌, length, get_or, set, replicate}
use Rattle.model.specs.Link.{VirtualLink, bag}
use Rattle.model.specs.Table.{Table}
use Rattle.model.specs.Machine.{idle, Scheduler, at}
use Rattle.model.specs.Counters.{Counters, none_counted}

-- "for each virtual link a credit and its tick": the token bucket of the police check
pub record Account : Type 0 where
  pub credit : ℕ
  pub tick : ℕ

-- "for each line the tick of its last frame, for each virtual link a credit and its tick". Gate is our word for the part of a
-- port that the timing of the lines and the police check read and change; queues do not enter
pub record Gate : Type 0 where
  pub line_ticks : List ℕ
  -- in the table's order
  pub accounts : List Account

-- The state of a port, its table beside it
pub record Port : Type 0 where
  pub scheduler : Scheduler
  -- "for each priority a queue .. and its mark": the paper's word for the high-water mark of its buffer
  pub marks : List ℕ
  pub gate : Gate
  pub counters : Counters

abbrev pub blank_account : Account
blank_account = record { credit = 0; tick = 0 }

abbrev pub account_at : List Account → ℕ → Account
account_at accounts i = get_or accounts i blank_account

abbrev pub line_tick : List ℕ → ℕ → ℕ
line_tick ticks ℓ = get_or ticks ℓ 0

abbrev pub mark_of : Port → ℕ → ℕ
mark_of s p = get_or s.marks p 0

-- "Fresh: clock, ticks and marks 0, queues empty, idle, credit B + J", and nothing counted
abbrev pub full_account : VirtualLink → Account
full_account v = record { credit = bag v + v.jitter; tick = 0 }

unfoldable pub fresh : Table → Port
fresh t =
    record {
      scheduler = at 0 (replicate 8 []) idle;
      marks = replicate 8 0;
      gate = record { line_ticks = replicate t.lines 0; accounts = map full_account t.links };
      counters = none_counted (length t.links);
    }

-- ---- with one part changed
abbrev pub with_scheduler : Port → Scheduler → Port
with_scheduler s scheduler = record { scheduler = scheduler; marks = s.marks; gate = s.gate; counters = s.counters }

abbrev pub with_gate : Port → Gate → Port
with_gate s g = record { scheduler = s.scheduler; marks = s.marks; gate = g; counters = s.counters }

abbrev pub with_counters : Port → Counters → Port
with_counters s c = record { scheduler = s.scheduler; marks = s.marks; gate = s.gate; counters = c }

-- "sets the line's tick to T"
abbrev pub with_line_tick : Gate → ℕ → ℕ → Gate
with_line_tick g line time = record { line_ticks = set g.line_ticks line time; accounts = g.accounts }

-- "The account of a virtual link is charged where it stands in the port, no other account being touched"
abbrev pub with_account : Gate → ℕ → Account → Gate
with_account g i a = record { line_ticks = g.line_ticks; accounts = set g.accounts i a }
