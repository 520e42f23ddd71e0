-- For callers: what fitness tells of what an advance asks.
use mathlib.Core.Path.{◌≡◌}
use mathlib.Core.List.{List}
use Prim.Native.Nat.{ℕ, ◌*◌, ◌≤◌}
use Rattle.model.specs.Units.{last_tick}
use Rattle.model.specs.Table.{Table}
use Rattle.model.specs.Machine.{Frame, Sender, at, frames_held}
use Rattle.model.specs.Port.{Port}
use Rattle.model.proofs.Fitness.{FitPort}
use Rattle.port_scheduler.proofs.Callers.{fit_positive}
use Rattle.flat_scheduler.specs.Promised.{Ready}

-- the port's fitness, its tick tests and refusal 16 are what an advance asks
pub fit_ready : (t : Table) (port : Port) {qs : List (List Frame)} {s : Sender} {clock time len : ℕ} → FitPort t port → port.scheduler ≡ at clock qs s →
    clock ≤ time → time ≤ last_tick → 3 * frames_held qs ≤ len → Ready qs s clock time len
fit_ready t port k e later early room =
    record {
      few = λ p h. rw e at (k.few p h);
      positive = λ p h. rw e at (fit_positive t port k p h);
      sender = rw e at k.sender;
      later = later;
      early = early;
      room = room;
    }
