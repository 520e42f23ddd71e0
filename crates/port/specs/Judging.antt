-- The verdict of a frame that has wholly arrived at the port's clock.
use Rattle.std.specs.Prelude.{◌≡◌, true, ℕ, ◌≤◌, ◌<◌, get_or, set, drop}
use Rattle.std.proofs.Math.Option.{some}
use Rattle.model.specs.Units.{least_length, greatest_length}
use Rattle.model.specs.Link.{VirtualLink, link_at}
use Rattle.model.specs.Table.{table_refusal}
use Rattle.model.specs.Fitness.{fit}
use Rattle.model.specs.Report.{frame, Judged, store, judge, judge_report, arrived}
use Rattle.table.specs.View.{view_links}
use Rattle.port_scheduler.specs.declared.Frame.{Frame as FrameRecord}
use Rattle.port_scheduler.specs.View.{blank_queue}
use Rattle.port_storing.specs.Storing.{Roomy}
use Rattle.port.specs.declared.Port.{Port as PortRecord}
use Rattle.port.specs.View.{view_port_table, view_port}
use Rattle.port.specs.Charging.{port_with}

-- "sets the line's tick to T", the clock
abbrev pub ticked : PortRecord → ℕ → PortRecord
ticked p line = port_with p (record { line_ticks = set p.gate.line_ticks line p.clock; accounts = p.gate.accounts })

-- what the refusals leave: a fit port, a line of it, a length within limits
pub record Arrived (p : PortRecord) (line len : ℕ) : Type 0 where
  pub fit_port : fit (view_port_table p) (view_port p) ≡ true
  pub line_in : line < p.table.lines
  pub long : least_length ≤ len
  pub short : len ≤ greatest_length

-- a link of the table at place i, and queues in which a frame of that length has a place if it has room
pub record LetThrough (p : PortRecord) (i len : ℕ) : Type 0 where
  pub table : table_refusal (view_port_table p) ≡ 0
  pub place : i < p.table.count
  pub short : len ≤ greatest_length
  pub roomy : (k : ℕ) → k < 8 → (f : FrameRecord) → f.length ≡ len → Roomy (get_or p.queues k blank_queue) (get_or p.table.sizes k 0) f

abbrev pub link_of : PortRecord → ℕ → VirtualLink
link_of p i = link_at (view_links p.table) i

-- a verdict by its number, and the port record after it
pub record JudgedRecord : Type 0 where
  pub verdict : ℕ
  pub port : PortRecord

-- verdict and port are the model's; the table stays, and so do what stands behind its counts, and the counts of frames
pub record Gives (p : PortRecord) (j : Judged) (r : JudgedRecord) : Type 0 where
  pub verdict : r.verdict ≡ j.verdict
  pub port : view_port r.port ≡ j.port
  pub table : r.port.table ≡ p.table
  pub lines_behind : drop p.table.lines r.port.gate.line_ticks ≡ drop p.table.lines p.gate.line_ticks
  pub accounts_behind : drop p.table.count r.port.gate.accounts ≡ drop p.table.count p.gate.accounts
  pub counts : r.port.counts ≡ p.counts

-- of a frame of the link at place i that passed the police check; of one that the filter lets through; of any frame
abbrev pub Stores : PortRecord → ℕ → ℕ → JudgedRecord → Type 0
Stores p i len = Gives p (store (view_port_table p) (view_port p) (link_of p i).priority (arrived (link_of p i).number len p.clock))

abbrev pub Polices : PortRecord → ℕ → ℕ → JudgedRecord → Type 0
Polices p i len = Gives p (judge (view_port_table p) (view_port p) (arrived (link_of p i).number len p.clock) (some i))

abbrev pub Judges : PortRecord → ℕ → ℕ → ℕ → JudgedRecord → Type 0
Judges p line number len = Gives p (judge_report (view_port_table p) (view_port p) (frame p.clock line number len))
