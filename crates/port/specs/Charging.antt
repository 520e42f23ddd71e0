-- The account of a virtual link, charged where it stands in the port.
use Rattle.std.specs.Prelude.{Bool, List, ℕ, get_or, set}
use Rattle.model.specs.Port.{blank_account}
use Rattle.port_policing.specs.declared.Account.{Account as AccountRecord}
use Rattle.port_policing.specs.declared.Checked.{Checked}
use Rattle.port_policing.specs.declared.Gate.{Gate as GateRecord}
use Rattle.port_policing.specs.Check.{record_account, check_by}
use Rattle.port.specs.declared.Port.{Port as PortRecord}

-- the gate with those accounts, and all else as it is; the port with that gate
abbrev pub gate_with : GateRecord → List AccountRecord → GateRecord
gate_with g accounts = record { line_ticks = g.line_ticks; accounts = accounts }

abbrev pub port_with : PortRecord → GateRecord → PortRecord
port_with p gate = record { table = p.table; clock = p.clock; queues = p.queues; sender = p.sender; gate = gate; counts = p.counts; unknown = p.unknown }

-- whether a frame passed the police check, and the port after it
pub record Charged : Type 0 where
  pub passed : Bool
  pub port : PortRecord

-- the account at a place, as the check leaves it, and no other touched
abbrev pub charged_at : PortRecord → ℕ → Checked → Charged
charged_at p i c = record { passed = c.passed; port = port_with p (gate_with p.gate (set p.gate.accounts i c.account)) }

-- for any B and J
abbrev pub charge_by : (bag jitter : ℕ) → PortRecord → ℕ → ℕ → Charged
charge_by bag jitter p i time = charged_at p i (check_by bag jitter (get_or p.gate.accounts i (record_account blank_account)) time)
