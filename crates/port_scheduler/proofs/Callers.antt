-- For callers: what fitness tells of what an advance asks, and a frame queued among the eight.
use Rattle.std.specs.Prelude.{Option}
use mathlib.Core.Path.{◌≡◌}
use mathlib.Core.List.{List}
use Prim.Native.Nat.{ℕ, ◌*◌, ◌≤◌, ◌<◌}
use lib.ListN.{get_or, set}
use Rattle.model.specs.Basics.{Each}
use Rattle.model.specs.Units.{last_tick}
use Rattle.model.specs.Table.{Table}
use Rattle.model.specs.Machine.{Frame, at, queue_of, queued_last, frames_held}
use Rattle.model.specs.Port.{Port}
use Rattle.model.proofs.Queues.{each_map}
use Rattle.model.proofs.Lined.{lined_meets}
use Rattle.model.proofs.Fitness.{FitPort}
use Rattle.port_scheduler.specs.declared.Frame.{Frame as FrameRecord}
use Rattle.port_scheduler.specs.declared.Queue.{Queue}
use Rattle.port_scheduler.specs.declared.Sending.{Sending}
use Rattle.port_scheduler.specs.View.{view_frame, blank_queue, view_queues, view_sender}
use Rattle.port_scheduler.specs.Promised.{Pushed, Ready}
use Rattle.port_scheduler.proofs.Shown.{queue_shown, queues_set}

-- every frame of a queue that is fit has a length
pub fit_positive : (t : Table) (port : Port) → FitPort t port → (p : ℕ) → p < 8 → Each (λ (f : Frame). 0 < f.length) (queue_of port.scheduler.queues p)
fit_positive t port k p h = each_map (λ (f : Frame) m. m.positive) (lined_meets t p port.scheduler.clock 0 (queue_of port.scheduler.queues p) k.table (k.lined p h))

-- the port's fitness, its tick tests and refusal 16 are what an advance asks
pub fit_ready : (t : Table) (port : Port) {qs : List Queue} {s : Option Sending} {clock time len : ℕ} → FitPort t port → port.scheduler ≡ at clock (view_queues qs) (view_sender s) →
    clock ≤ time → time ≤ last_tick → 3 * frames_held (view_queues qs) ≤ len → Ready qs s clock time len
fit_ready t port {qs} {s} {clock} {time} {len} k e later early room =
    record {
      few = λ p h. rw e at (k.few p h);
      positive = λ p h. rw e at (fit_positive t port k p h);
      sender = rw e at k.sender;
      later = later;
      early = early;
      room = room;
    }

pub queued_last_lem : (qs : List Queue) (p : ℕ) {f : FrameRecord} {r : Queue} → Pushed (get_or qs p blank_queue) f r → view_queues (set qs p r) ≡ queued_last (view_queues qs) p (view_frame f)
queued_last_lem qs p k = rw (queues_set, k.frames, queue_shown)
