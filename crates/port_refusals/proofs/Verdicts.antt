-- Verdicts are four.
use Rattle.std.proofs.Common.{◌<◌, arith}
use Rattle.port_refusals.specs.declared.Verdict.{Verdict}
use Rattle.port_refusals.specs.declared.Verdict.TheVariants.{Stored, Filtered, Policed, Dropped}
use Rattle.port_refusals.specs.Verdicts.{verdict_of}

pub verdict_below_4 : (v : Verdict) → verdict_of v < 4
verdict_below_4 Stored = omega arith
verdict_below_4 Filtered = omega arith
verdict_below_4 Policed = omega arith
verdict_below_4 Dropped = omega arith
