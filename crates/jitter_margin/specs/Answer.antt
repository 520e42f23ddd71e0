-- What the call for the jitter that is left answers: 0 and the jitter, or a refusal's number and 0 for a jitter.
use Rattle.std.specs.Prelude.{ℕ, Result, Ok, Err}
use Rattle.model.specs.JitterMargin.{Margin}
use Rattle.refusal.specs.declared.Refusal.{Refusal}
use Rattle.refusal.specs.Numbers.{number_of}

abbrev pub margin_of : Result ℕ Refusal → Margin
margin_of (Ok jitter) = record { refused = 0; jitter = jitter }
margin_of (Err refusal) = record { refused = number_of refusal; jitter = 0 }
