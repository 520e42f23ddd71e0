-- What the code answers and the model's sums.
use Rattle.std.specs.Prelude.{Bool, true, false, ℕ, Result, Ok, Err, Option, Some, None, replicate}
use Rattle.model.specs.Basics.{entries}
use Rattle.model.specs.Sums.{Sums}
use Rattle.refusal.specs.declared.Refusal.{Refusal}
use Rattle.refusal.specs.Numbers.{number_of}
use Rattle.counter_sums.specs.declared.Sums.{Sums as SumsRecord}

-- a flag with the total beside it
abbrev pub has_total : Option ℕ → Bool
has_total None = false
has_total (Some n) = true

abbrev pub total_or_0 : Option ℕ → ℕ
total_or_0 None = 0
total_or_0 (Some n) = n

-- "else 10", and no sums; or the sums of 256 places
abbrev pub answered : Result SumsRecord Refusal → Sums
answered (Ok s) = record { refused = 0; sums = s.sums; has_total = has_total s.total; total = total_or_0 s.total }
answered (Err refusal) = record { refused = number_of refusal; sums = replicate 256 0; has_total = false; total = 0 }

-- 0 stands behind the sums
abbrev pub padded : Sums → Sums
padded s = record { refused = s.refused; sums = entries 0 256 s.sums; has_total = s.has_total; total = s.total }
