use native.Mathlib.Omega.{arith}
use lib.ListN.{length}
use Rattle.port.proofs.Moved.{ready, reaches}
use Rattle.port.proofs.advancing.move_to.Goals as goal

pub advance-moved-requires : goal.advance-moved-requires
advance-moved-requires c = ready c.args.p.now c.args.time (length c.args.list.now) c.requires

pub returns : goal.returns
returns c = reaches c.args.p.now c.args.time c.requires c.advance-moved.ensures (omega arith)
