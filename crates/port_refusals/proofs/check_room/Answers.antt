use native.Mathlib.Omega.{arith}
use Rattle.port_refusals.proofs.Refused.{no_room, roomy}
use Rattle.port_refusals.proofs.check_room.Goals as goal

pub returns-then-room-frames : goal.returns-then-room-frames
returns-then-room-frames c = no_room c.args.frames c.args.room (omega arith)

pub returns : goal.returns
returns c = roomy c.args.frames c.args.room (omega arith)
