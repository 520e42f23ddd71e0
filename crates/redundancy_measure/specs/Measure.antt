-- A part by its length and its ends.
use Rattle.std.specs.Prelude.{List, ℕ, ◌-◌, length, get_or}
use Rattle.redundancy_measure.specs.declared.Measure.{Measure}

unfoldable pub measure_of : List ℕ → Measure
measure_of part = record { length = length part; first = get_or part 0 0; last = get_or part (length part - 1) 0 }
