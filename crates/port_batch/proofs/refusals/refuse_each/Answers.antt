use mathlib.Core.Path.{refl, ◌∙◌}
use native.Mathlib.Omega.{arith}
use Rattle.port_batch.proofs.Refusing.{nothing_yet, refuses_one, all_refused}
use Rattle.port_batch.proofs.refusals.refuse_each.Goals as goal

pub loop-i-init : goal.loop-i-init
loop-i-init c = (refl, nothing_yet c.args.answers.now)

pub loop-i-preserved : goal.loop-i-preserved
loop-i-preserved c = (omega arith, refuses_one c.args.answers.now c.loop-i.answers _ c.loop-i.i c.loop-i.invariant.1 (c.copy_from_slice.ensures.after ∙ c.numbers-refused.ensures) refl)

pub returns : goal.returns
returns c = all_refused c.args.answers.now c.loop-i.answers (omega arith) c.loop-i.invariant.1
