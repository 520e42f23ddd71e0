-- The cases of the record that was answered.
use mathlib.Core.Path.{◌≡◌, sym}
use native.Mathlib.Omega.{arith}
use Rattle.std.specs.Prelude.{Option, None, Some, unwrap_or}
use Rattle.refusal.specs.declared.Refusal.{Refusal}
use Rattle.refusal.specs.Numbers.{number_of}
use Rattle.refusal.proofs.Numbers.{number_not_0}
use Rattle.table_record_reader.specs.declared.Record.{Record}
use Rattle.table_record_reader.specs.declared.Record.TheVariants.{Counts, Link, Sizes, Refused}
use Rattle.table_record_reader.specs.Records.{said, refusal_said}

-- where no record was answered, its refusal, whatever stands in for that of a record
pub refusal_here : (o : Option Refusal) (x : Record) (other : Refusal) → refusal_said o ≡ (said x).refused → (said x).kind ≡ 0 → number_of (unwrap_or o other) ≡ (said x).refused
unfolding said
refusal_here (Some s) x other e k = e
refusal_here None (Refused s) other e k = absurd (number_not_0 s (sym e))
refusal_here None (Counts lines n) other e k = absurd (omega arith)
refusal_here None (Link number v) other e k = absurd (omega arith)
refusal_here None (Sizes sizes) other e k = absurd (omega arith)
