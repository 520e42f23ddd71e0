use mathlib.Core.Path.{refl}
use Rattle.flat_queues.proofs.Rings.pop.Goals as goal

pub returns : goal.returns
returns c = (c.pop.ensures c.args.self.now.frames, record { held = refl; marks = refl }, refl)
