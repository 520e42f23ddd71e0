use mathlib.Core.Path.{refl}
use native.Mathlib.Omega.{arith}
use Rattle.flat_queues.proofs.Rings.push.Goals as goal

pub push-requires : goal.push-requires
push-requires c =
    let h = c.requires in
    record { few = omega arith; slots = omega arith; head = omega arith; count = omega arith; free = h.unfilled }

pub returns : goal.returns
returns c = (c.push.ensures, record { held = refl; marks = refl }, refl)
