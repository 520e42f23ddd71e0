-- The sizing of a table file through the C interface.
use Rattle.std.specs.Prelude.{◌≡◌, List, [], ◌∷◌, ◌++◌, ℕ, zero, suc, ltb, length}
use Rattle.model.specs.Basics.{check, first_met, first_refusal}
use Rattle.model.specs.Table.{Table}
use Rattle.model.specs.TableFile.{read_table}
use Rattle.model.specs.Bounds.{Sizing, sizing}
use Rattle.model.specs.Batch.{bytes_of, over}

-- eight bounds, eight holds, eight windows, eight sizes
abbrev pub sizing_numbers : Table → Sizing → List ℕ
sizing_numbers t s = s.bounds ++ s.holds ++ s.windows ++ t.sizes

-- 0 or the refusal, and the output afterwards
pub record Outcome : Type 0 where
  pub refused : ℕ
  pub output : List ℕ

unfoldable pub sizing_or : ℕ → Table → List ℕ → Outcome
sizing_or zero t output = record { refused = 0; output = over (bytes_of (sizing_numbers t (sizing t))) output }
sizing_or (suc n) t output = record { refused = suc n; output = output }

-- the reader's refusal, then that of the bounds, then 9: an output shorter than 32 numbers
unfoldable pub sizing_file : List ℕ → List ℕ → Outcome
sizing_file file output =
    let t = (read_table file).table in
    sizing_or (first_refusal (read_table file).refused (first_refusal (sizing t).refused (first_met (check 9 (ltb (length output) 256) ∷ [])))) t output

pub record Sized (o : Outcome) (refused : ℕ) (output : List ℕ) : Type 0 where
  pub answer : refused ≡ o.refused
  pub output_is : output ≡ o.output
