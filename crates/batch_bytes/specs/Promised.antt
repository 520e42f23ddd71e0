-- What a batch in bytes promises.
use Rattle.std.specs.Prelude.{◌≡◌, ℕ}
use mathlib.Core.List.{List, flat_map}
use Rattle.model.specs.Batch.{Batched, bytes_of, answer_numbers, departure_numbers, over}

-- answers and departures at the start of the two runs of bytes, and all behind them as found
pub record BytesAnswers (b : Batched) (answers answers' list list' : List ℕ) : Type 0 where
  pub answers_are : answers' ≡ over (bytes_of (flat_map answer_numbers b.entries)) answers
  pub list_is : list' ≡ over (bytes_of (flat_map departure_numbers b.entries)) list
