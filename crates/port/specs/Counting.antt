-- A frame counted in a port record.
use Rattle.std.specs.Prelude.{◌≡◌, ℕ, ◌*◌, drop}
use Rattle.model.specs.Link.{place_of}
use Rattle.model.specs.Counters.{counted}
use Rattle.model.specs.Port.{with_counters}
use Rattle.table.specs.View.{view_links}
use Rattle.port.specs.declared.Port.{Port as PortRecord}
use Rattle.port.specs.View.{view_port}

-- the counters are the model's; all else stays, and so do the counts behind those of the table's links
pub record Counts (p : PortRecord) (number verdict : ℕ) (r : PortRecord) : Type 0 where
  pub port : view_port r ≡ with_counters (view_port p) (counted (place_of number (view_links p.table)) verdict (view_port p).counters)
  pub table : r.table ≡ p.table
  pub gate : r.gate ≡ p.gate
  pub behind : drop (4 * p.table.count) r.counts ≡ drop (4 * p.table.count) p.counts
