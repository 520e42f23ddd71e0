use mathlib.Core.Path.{◌≡◌, sym, ap, ◌∙◌}
use mathlib.Core.Bool.{true}
use Prim.Native.Nat.{◌≤◌}
use native.Mathlib.Omega.{arith}
use lib.ListN.{get_or}
use Rattle.port_scheduler.specs.View.{blank_queue, view_queues, view_sender}
use Rattle.port_scheduler.proofs.Shape.{queues_eight}
use Rattle.port_scheduler.proofs.Sums.{frames_none, frames_more}
use Rattle.port_fitness.proofs.All.{all_none, all_more}
use Rattle.table.proofs.PassingRecord.{counts_pass}
use Rattle.port_queue_fitness.proofs.QueueTests.{too_many, load_unfit, mark_above, queue_fits_lem, none_queued, queue_told, sender_told, all_told}
use Rattle.port_fitness.proofs.Sending.{sends_nothing, no_queue}
use Rattle.port_queue_fitness.proofs.queues_fit.Goals as goal
use Rattle.port_queue_fitness.proofs.queues_fit.Goals.{then-queues-i-ne0+else-q+else-not-load_fits, else-queues-i-ne0}

pub loop-i-init : goal.loop-i-init
loop-i-init c = (all_none _, omega arith, frames_none (view_queues c.args.queues))

pub guesses_of-guesses-requires : goal.guesses_of-guesses-requires
guesses_of-guesses-requires c = (counts_pass c.args.t c.requires).links_most

pub returns-then-q : goal.returns-then-q
returns-then-q c = queue_told c.args.t c.args.clock c.args.queues c.args.sender c.loop-i.i (omega arith) (too_many c.args.t c.args.clock c.args.queues c.loop-i.i (omega arith))

pub load_fits-requires : goal.load_fits-requires
load_fits-requires c = (c.requires, omega arith)

pub returns-then-not-load_fits : goal.returns-then-not-load_fits
returns-then-not-load_fits c =
    queue_told c.args.t c.args.clock c.args.queues c.args.sender c.loop-i.i (omega arith)
    (load_unfit c.args.t c.args.clock c.args.queues c.loop-i.i (sym (c.if-not-load_fits.true) ∙ c.load_fits.ensures))

pub returns-then-t-i : goal.returns-then-t-i
returns-then-t-i c = queue_told c.args.t c.args.clock c.args.queues c.args.sender c.loop-i.i (omega arith) (mark_above c.args.t c.args.clock c.args.queues c.loop-i.i (omega arith))

pub loop-i-preserved : goal.loop-i-preserved
loop-i-preserved c =
    let n = queues_eight c.args.queues _ c.well_formed.1.0 in
    let more = frames_more c.args.queues c.loop-i.i (omega arith) in
    let mark : (get_or c.args.queues c.loop-i.i blank_queue).mark ≤ get_or c.args.t.sizes c.loop-i.i 0 = omega arith in (
      all_more _ c.loop-i.i c.loop-i.invariant.0
          (elim c.if-queues-i-ne0.branch [
            | then-queues-i-ne0+else-q+else-not-load_fits w ↦ queue_fits_lem c.args.t c.args.clock c.args.queues c.loop-i.i (omega arith) (sym w.if-not-load_fits.false ∙ w.load_fits.ensures) mark
            | else-queues-i-ne0 w ↦
                let e : (get_or c.args.queues c.loop-i.i blank_queue).count ≡ 0 = omega arith in
                queue_fits_lem c.args.t c.args.clock c.args.queues c.loop-i.i (omega arith) (none_queued c.args.t c.args.clock c.loop-i.i _ e) mark
          ]),
      omega arith,
      omega arith,
    )

pub returns-in_default : goal.returns-in_default
returns-in_default c =
    all_told c.args.t c.args.clock c.args.queues c.args.sender c.loop-i.i (omega arith) (omega arith) (queues_eight c.args.queues _ c.well_formed.1.0) c.loop-i.invariant.0 c.loop-i.invariant.2 true
    (sends_nothing c.args.clock c.args.queues (ap view_sender c.in_default.is))

pub returns-then-sending-ge8 : goal.returns-then-sending-ge8
returns-then-sending-ge8 c =
    let told = c.in-Some in
    sender_told c.args.t c.args.clock c.args.queues c.args.sender (no_queue c.args.clock c.args.queues told.sending.priority told.sending.start (ap view_sender told.is) (omega arith))

pub returns : goal.returns
returns c =
    let told = c.in-Some in
    c.then_some.ensures
    ∙ all_told c.args.t c.args.clock c.args.queues c.args.sender c.loop-i.i (omega arith) (omega arith)
    (queues_eight c.args.queues _ c.well_formed.1.0) c.loop-i.invariant.0 c.loop-i.invariant.2 c.head_fits.result
    (rw (ap view_sender told.is) (c.head_fits.ensures c.args.queues told.sending.priority (omega arith) (rw c.from.ensures)))
