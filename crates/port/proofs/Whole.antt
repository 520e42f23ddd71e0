-- A port record that the code holds is whole, and stays so.
use Prim.Native.Nat.{ℕ}
use mathlib.Core.Path.{◌≡◌, ◌∙◌}
use mathlib.Core.List.{List}
use lib.ListN.{length-set}
use mir.Val.{Val}
use denote.Laws.{Is}
use denote.Struct.Declared.{row}
use Rattle.table.proofs.Shape.{sized}
use Rattle.port.specs.declared.Port.{Port as PortRecord}
use Rattle.port.specs.Whole.{Whole}
use Rattle.port.specs.Charging.{Charged, charge_by}
use Rattle.port.specs.Judging.{ticked}
use Rattle.port.specs.contracts.Port.{the_type}

pub whole : (p : PortRecord) (vs : List Val) → Is (row the_type) p vs → Whole p
whole p vs s =
    let gate = s.1.1.1.1.1.1.0 in
    record {
      table = sized p.table _ s.1.1.0;
      queues = s.1.1.1.1.0.1.0.1;
      lines = gate.1.1.0.1.0.1;
      accounts = gate.1.1.1.0.1.0.1;
      counts = s.1.1.1.1.1.1.1.0.1.0.1;
    }

pub whole_ticked : {p x : PortRecord} (line : ℕ) → Whole p → x ≡ ticked p line → Whole x
whole_ticked {p} line w e =
    rw e (record { table = w.table; queues = w.queues; lines = length-set p.gate.line_ticks line p.clock ∙ w.lines; accounts = w.accounts; counts = w.counts })

pub whole_charged : {p : PortRecord} {x : Charged} (B J i time : ℕ) → Whole p → x ≡ charge_by B J p i time → Whole x.port
whole_charged {p} B J i time w e =
    rw e (record { table = w.table; queues = w.queues; lines = w.lines; accounts = length-set p.gate.accounts i _ ∙ w.accounts; counts = w.counts })
