use Rattle.port.specs.View.{view_port}
use Rattle.port.proofs.Port.frames_if_fit.Goals as goal

pub returns : goal.returns
unfolding view_port
returns c = c.fit.ensures
