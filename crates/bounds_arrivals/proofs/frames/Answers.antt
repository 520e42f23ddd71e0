use native.Mathlib.Omega.{arith}
use Rattle.bounds_arrivals.proofs.Fitting.{quotient_fits, frames_few, frames_are}
use Rattle.bounds_arrivals.proofs.frames.Goals as goal

pub overflow_shr-result : goal.overflow_shr-result
overflow_shr-result c = omega (arith, c.requires.0)

pub overflow_add-result-2 : goal.overflow_add-result-2
overflow_add-result-2 c = record { fits = quotient_fits _ _ _ (omega (arith, c.requires.1, c.requires.2, c.from.ensures)) }

pub returns : goal.returns
returns c = (
  frames_are c.args.l c.requires.0 c.args.w c.from.result c.from.ensures,
  omega (arith, frames_few c.args.l c.requires.0 c.args.w c.from.result c.from.ensures c.requires.1 c.requires.2),
)
