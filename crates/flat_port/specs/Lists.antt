-- The port as rings and flat arrays, and what it is in the model.
use Rattle.std.specs.Prelude.{◌≡◌, true, List, map, ℕ, length}
use Rattle.model.specs.Basics.{entries}
use Rattle.model.specs.Table.{Table}
use Rattle.model.specs.Machine.{Frame, Sender, at, frames_held}
use Rattle.model.specs.Port.{Port, blank_account}
use Rattle.model.specs.Fitness.{fit}
use Rattle.port_policing.specs.Check.{view_account}
use Rattle.port_scheduler.specs.View.{view_sender}
use Rattle.counters.specs.View.{view_tallies}
use Rattle.flat_queues.specs.View.{queues_in as queues_of_rings}
use Rattle.flat_scheduler.specs.Promised.{Holds}
use Rattle.flat_port.specs.declared.Lists.{Lists}
use Rattle.flat_port.specs.declared.FlatPort.{FlatPort}

abbrev pub queues_in : Lists → List (List Frame)
queues_in l = queues_of_rings l.rings

-- with the clock and who sends: what stands before the table's counts
abbrev pub view_lists : Table → ℕ → Sender → Lists → Port
view_lists t clock sender l =
    record {
      scheduler = at clock (queues_in l) sender;
      marks = l.rings.marks;
      gate = record { line_ticks = entries 0 t.lines l.ticks; accounts = entries blank_account (length t.links) (map view_account l.accounts) };
      counters = view_tallies (length t.links) l.tallies;
    }

abbrev pub view_flat : Table → FlatPort → Port
view_flat t p = view_lists t p.state.clock (view_sender p.state.sender) p.lists

-- held bytes are those of the queues
abbrev pub Held : Lists → Type 0
Held l = Holds l.rings.held (queues_in l)

-- the port is fit, and holds as many frames as its state says
pub record Stands (t : Table) (p : FlatPort) : Type 0 where
  pub holds : Held p.lists
  pub frames : p.state.frames ≡ frames_held (queues_in p.lists)
  pub fits : fit t (view_flat t p) ≡ true
