use Rattle.port_storing.proofs.Room.{room_left}
use Rattle.port_storing.proofs.has_room.Goals as goal

pub returns-then-more-size : goal.returns-then-more-size
returns-then-more-size c = room_left c.args.held c.args.more c.args.size c.if-more-size.true
