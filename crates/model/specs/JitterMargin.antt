-- How much jitter is left: the greatest with which a table still has bounds that its sizes hold.
use Rattle.std.specs.Prelude.{Bool, cond, ◌&&◌, not, List, [], ◌∷◌, ℕ, zero, suc, eqb, leb}
use Rattle.std.proofs.Math.Option.{Option}
use Rattle.model.specs.Basics.{all_to, last_below, check, first_met, first_refusal}
use Rattle.model.specs.Units.{greatest_jitter}
use Rattle.model.specs.Link.{VirtualLink, place_of}
use Rattle.model.specs.Table.{Table, size_of, table_refusal}
use Rattle.model.specs.Bounds.{is_there, or_zero, bounds_refusal, bound}

-- "that jitter put in": a link with it, and the links with it put into the one of that number
abbrev pub jittered : ℕ → VirtualLink → VirtualLink
jittered jitter v =
    record { number = v.number; line = v.line; priority = v.priority; code = v.code; least = v.least; greatest = v.greatest; jitter = jitter }

unfoldable pub put_in : ℕ → ℕ → List VirtualLink → List VirtualLink
put_in number jitter [] = []
put_in number jitter (v ∷ links) = cond (eqb v.number number) (jittered jitter v ∷ links) (v ∷ put_in number jitter links)

abbrev pub with_jitter : Table → ℕ → ℕ → Table
with_jitter t number jitter = record { lines = t.lines; links = put_in number jitter t.links; sizes = t.sizes }

-- "has bounds and each is at most the table's size for it": each of the eight, those of priorities without links too
unfoldable pub sizes_suffice : Table → Bool
sizes_suffice t = eqb (bounds_refusal t) 0 && all_to (λ p. leb (bound t p) (size_of t p)) 8

unfoldable pub jitter_fits : Table → ℕ → ℕ → Bool
jitter_fits t number jitter = sizes_suffice (with_jitter t number jitter)

-- "the greatest jitter from 0 to 125,000 with which" it is so, or none
unfoldable pub greatest_fitting : Table → ℕ → Option ℕ
greatest_fitting t number = last_below (jitter_fits t number) (suc greatest_jitter)

-- ---- the call

-- "24, no such link number, after the table's own checks; 25, exactly if no jitter in the range fits"
unfoldable pub margin_refusal : Table → ℕ → ℕ
margin_refusal t number =
    first_refusal (table_refusal t)
    (first_met (check 24 (not (is_there (place_of number t.links))) ∷ check 25 (not (is_there (greatest_fitting t number))) ∷ []))

-- a refusal, and 0 for a jitter; or 0 and the jitter
pub record Margin : Type 0 where
  pub refused : ℕ
  pub jitter : ℕ

unfoldable pub margin_or : ℕ → Table → ℕ → Margin
margin_or zero t number = record { refused = 0; jitter = or_zero (greatest_fitting t number) }
margin_or (suc n) t number = record { refused = suc n; jitter = 0 }

unfoldable pub margin : Table → ℕ → Margin
margin t number = margin_or (margin_refusal t number) t number
