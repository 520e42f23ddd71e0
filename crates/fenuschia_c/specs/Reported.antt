-- A batch through the C interface.
use Rattle.std.specs.Prelude.{◌≡◌, List, ℕ}
use Rattle.model.specs.Batch.{BytesOutcome}

-- the answer is 0 or the number of the refusal, and both runs of bytes afterwards are the model's
pub record Reported (o : BytesOutcome) (refused : ℕ) (answers list : List ℕ) : Type 0 where
  pub answer : refused ≡ o.refused
  pub answers_are : answers ≡ o.answers
  pub list_is : list ≡ o.list
