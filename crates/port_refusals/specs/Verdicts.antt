-- The paper's number of each verdict.
use Rattle.std.specs.Prelude.{ℕ, Option, None, Some}
use Rattle.port_refusals.specs.declared.Verdict.{Verdict}
use Rattle.port_refusals.specs.declared.Verdict.TheVariants.{Stored, Filtered, Policed, Dropped}

abbrev pub verdict_of : Verdict → ℕ
verdict_of Stored = 0
verdict_of Filtered = 1
verdict_of Policed = 2
verdict_of Dropped = 3

-- "verdict (0 for a wait)"
abbrev pub verdict_or_0 : Option Verdict → ℕ
verdict_or_0 None = 0
verdict_or_0 (Some verdict) = verdict_of verdict
