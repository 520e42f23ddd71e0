use mathlib.Core.Path.{ap, ◌∙◌}
use native.Mathlib.Omega.{arith}
use Rattle.model.specs.Units.{occupied}
use Rattle.port_storing.proofs.Settling.{settles_not, has_room, has_place, settles}
use Rattle.port_storing.proofs.settle.Goals as goal

pub returns-then-not-has_room : goal.returns-then-not-has_room
returns-then-not-has_room c = settles_not c.args.queue c.args.size c.args.f c.held-held.ensures (c.occupancy-more.ensures.0 ∙ ap occupied c.from-wire.ensures) c.from.ensures c.has_room.ensures (c.if-not-has_room.true)

pub overflow_add-held : goal.overflow_add-held
overflow_add-held c = omega (arith, has_room c.args.queue c.args.size c.args.f c.held-held.ensures (c.occupancy-more.ensures.0 ∙ ap occupied c.from-wire.ensures) c.from.ensures c.has_room.ensures (c.if-not-has_room.false))

pub stored-longer-requires : goal.stored-longer-requires
stored-longer-requires c = (has_place c.args.queue c.args.size c.args.f c.held-held.ensures (c.occupancy-more.ensures.0 ∙ ap occupied c.from-wire.ensures) c.from.ensures c.has_room.ensures (c.if-not-has_room.false) c.requires, omega (arith, has_room c.args.queue c.args.size c.args.f c.held-held.ensures (c.occupancy-more.ensures.0 ∙ ap occupied c.from-wire.ensures) c.from.ensures c.has_room.ensures (c.if-not-has_room.false)))

pub returns : goal.returns
returns c = settles c.args.queue c.args.size c.args.f c.held-held.ensures (c.occupancy-more.ensures.0 ∙ ap occupied c.from-wire.ensures) c.from.ensures c.has_room.ensures (c.if-not-has_room.false) c.stored-longer.ensures
