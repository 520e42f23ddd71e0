-- Sums that a bench compares.
use Rattle.std.specs.Prelude.{ℕ, ◌+◌, sum}
use Rattle.model.specs.Table.{Table}
use Rattle.model.specs.Bounds.{sizing}

-- the blank table of a refused file is refused too, and has bounds, holds and windows of 0
unfoldable pub sizing_sum : Table → ℕ
sizing_sum t = sum (sizing t).bounds + sum (sizing t).holds + sum (sizing t).windows
