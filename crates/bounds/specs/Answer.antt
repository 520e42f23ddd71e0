-- What the bound calculation answers, as the paper's number and lists: 0 and the numbers, or a refusal's and lists of 0.
use Rattle.std.specs.Prelude.{Result, Ok, Err, replicate}
use Rattle.model.specs.Bounds.{Sizing}
use Rattle.refusal.specs.declared.Refusal.{Refusal}
use Rattle.refusal.specs.Numbers.{number_of}
use Rattle.bounds.specs.declared.Bounds.{Bounds}

abbrev pub sizing_of : Result Bounds Refusal → Sizing
sizing_of (Ok b) = record { refused = 0; bounds = b.bounds; holds = b.holds; windows = b.windows }
sizing_of (Err r) = record { refused = number_of r; bounds = replicate 8 0; holds = replicate 8 0; windows = replicate 8 0 }
