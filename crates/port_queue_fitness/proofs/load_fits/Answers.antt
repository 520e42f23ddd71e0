use mathlib.Core.Path.{refl}
use native.Mathlib.Omega.{arith}
use Rattle.table.proofs.Shape.{sized}
use Rattle.table.proofs.PassingRecord.{counts_pass}
use Rattle.port_scheduler.proofs.Shape.{queue_whole}
use Rattle.table_lookup.proofs.Tables.{searchable}
use Rattle.port_queue_fitness.proofs.QueueTests.{sum_decides, unnamed, unfit, goes_on}
use Rattle.port_queue_fitness.proofs.load_fits.Goals as goal

pub loop-i-init : goal.loop-i-init
loop-i-init c = refl

pub place_near-place-requires : goal.place_near-place-requires
place_near-place-requires c = searchable c.args.t c.requires.0 (sized c.args.t _ c.well_formed.0).numbers

pub returns-in_default : goal.returns-in_default
returns-in_default c =
    let w = queue_whole c.args.q _ c.well_formed.1.1.0 in
    unnamed c.args.t c.args.q c.args.priority c.args.clock c.loop-i.low c.loop-i.i c.loop-i.invariant c.requires.0 (omega arith) (omega arith) _ refl _ c.place_near-place.ensures c.in_default.is

pub bounds-t-k : goal.bounds-t-k
bounds-t-k c =
    let k = counts_pass c.args.t c.requires.0 in
    omega (arith, c.place_near-place.ensures.below _ c.in-Some.is)

pub returns-then-not-frame_fits : goal.returns-then-not-frame_fits
returns-then-not-frame_fits c =
    let w = queue_whole c.args.q _ c.well_formed.1.1.0 in
    unfit c.args.t c.args.q c.args.priority c.args.clock c.loop-i.low c.loop-i.i c.loop-i.invariant c.requires.0 (omega arith) (omega arith) _ refl _ c.place_near-place.ensures _ c.in-Some.is _ c.frame_fits.ensures (c.if-not-frame_fits.true)

pub loop-i-preserved : goal.loop-i-preserved
loop-i-preserved c =
    let w = queue_whole c.args.q _ c.well_formed.1.1.0 in
    goes_on c.args.t c.args.q c.args.priority c.args.clock c.loop-i.low c.loop-i.i c.loop-i.invariant c.requires.0 (omega arith) (omega arith) _ refl _ c.place_near-place.ensures _ c.in-Some.is _ c.frame_fits.ensures (c.if-not-frame_fits.false)

pub returns : goal.returns
returns c =
    let w = queue_whole c.args.q _ c.well_formed.1.1.0 in
    sum_decides c.args.t c.args.q c.args.priority c.args.clock c.loop-i.low c.loop-i.i c.loop-i.invariant (omega arith) c.held.ensures c.from-2.ensures
