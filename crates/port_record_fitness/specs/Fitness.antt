-- The fitness of a whole port record.
use Rattle.std.specs.Prelude.{Option, Bool, List, [], ◌∷◌, ℕ, eqb, leb}
use Rattle.model.specs.Basics.{all_hold}
use Rattle.model.specs.Units.{last_tick}
use Rattle.model.specs.Machine.{frames_held}
use Rattle.model.specs.Fitness.{fit}
use Rattle.table.specs.declared.Table.{Table as TableRecord}
use Rattle.table.specs.View.{view_table}
use Rattle.port_policing.specs.declared.Gate.{Gate as GateRecord}
use Rattle.port_scheduler.specs.declared.Queue.{Queue}
use Rattle.port_scheduler.specs.declared.Sending.{Sending}
use Rattle.port_scheduler.specs.View.{view_queues}
use Rattle.std.specs.Bool.{then_some}
use Rattle.port_record_fitness.specs.View.{view_parts}

-- "its table passes 3 to 6; clock ≤ 2^48 − 1", by the refusal of the table, 23 among them
abbrev pub table_fits : ℕ → ℕ → Bool
table_fits refused clock = all_hold (eqb refused 0 ∷ leb clock last_tick ∷ [])

-- the frames that the record of these parts holds, if it is fit
abbrev pub port_fitness : TableRecord → ℕ → List Queue → Option Sending → GateRecord → List ℕ → ℕ → Option ℕ
port_fitness t clock queues sender gate counts unknown =
    then_some (fit (view_table t) (view_parts t clock queues sender gate counts unknown)) (frames_held (view_queues queues))
