-- Bounds and holds of a table.
use Rattle.std.specs.Prelude.{Bool, true, false, cond, not, List, [], ◌∷◌, ◌++◌, ℕ, zero, suc, ◌+◌, ◌-◌, min, eqb, leb, ltb, replicate}
use Rattle.std.proofs.Math.Option.{Option, none, some}
use Rattle.model.specs.Basics.{greatest_to, all_to, first_from, eight, check, first_met}
use Rattle.model.specs.Units.{occupied}
use Rattle.model.specs.Link.{VirtualLink, any_of, greatest_over}
use Rattle.model.specs.Table.{Table, table_checks}
use Rattle.model.specs.Arrival.{arrival_curve}

-- the links of priority p; "those of priority 0 to p"; those of "priorities above p in number"
unfoldable pub of_priority : ℕ → VirtualLink → Bool
of_priority p v = eqb v.priority p

unfoldable pub up_to : ℕ → VirtualLink → Bool
up_to p v = leb v.priority p

unfoldable pub beyond : ℕ → VirtualLink → Bool
beyond p v = ltb p v.priority

-- "A_p takes the links of priority p": "L becomes L − 20 in both members of the smaller-of"
unfoldable pub own_arrivals : Table → ℕ → ℕ → ℕ
own_arrivals t p w = arrival_curve occupied (of_priority p) t.lines t.links w

-- "A_up those of priority 0 to p": "the other amount, with A_up, b and M, keeps wire bytes, and so does every hold"
unfoldable pub up_arrivals : Table → ℕ → ℕ → ℕ
up_arrivals t p w = arrival_curve (λ n. n) (up_to p) t.lines t.links w

-- "M is the greatest L of priority p"
unfoldable pub longest : Table → ℕ → ℕ
longest t p = greatest_over (of_priority p) (λ v. v.greatest) t.links

-- "b is the greatest L of priorities above p in number, less 1, or 0 if there are none"
unfoldable pub blocking : Table → ℕ → ℕ
blocking t p = greatest_over (beyond p) (λ v. v.greatest) t.links - 1

-- "hold_p is the smallest w from 1 to 65,536 with b + A_up(w − 1) ≤ w". Hold: the paper's word for the longest busy period.
-- Of a table it takes b and A_up alone
unfoldable pub hold_test : ℕ → (ℕ → ℕ) → ℕ → Bool
hold_test b up w = leb (b + up (w - 1)) w

unfoldable pub hold_by : ℕ → (ℕ → ℕ) → Option ℕ
hold_by b up = first_from (hold_test b up) 65_536 1

unfoldable pub hold_of : Table → ℕ → Option ℕ
hold_of t p = hold_by (blocking t p) (up_arrivals t p)

-- "the smaller of A_p(w) and A_up(w) − max(0, w − b) + M − 1": the most backlog w ticks into a busy period
unfoldable pub backlog : Table → ℕ → ℕ → ℕ
backlog t p w = min (own_arrivals t p w) (up_arrivals t p w - (w - blocking t p) + longest t p - 1)

-- "bound_p is the greatest, over w from 0 to hold_p − 1"; "With no link of priority p it is 0"
unfoldable pub bound_within : Table → ℕ → ℕ → ℕ
bound_within t p hold = cond (any_of (of_priority p) t.links) (greatest_to (backlog t p) hold) 0

unfoldable pub is_there : Option ℕ → Bool
is_there none = false
is_there (some w) = true

unfoldable pub or_zero : Option ℕ → ℕ
or_zero none = 0
or_zero (some w) = w

-- "the smallest w at which the greatest amount occurs, and 0 for a priority without links". Window: the paper's word for how long
-- into a busy period the bound is first reached
unfoldable pub window_within : Table → ℕ → ℕ → ℕ
window_within t p hold =
    let most = bound_within t p hold in
    cond (any_of (of_priority p) t.links) (or_zero (first_from (λ w. eqb (backlog t p w) most) hold 0)) 0

-- ---- the answer of the bound calculation

-- 8: "bounds: 3 to 6, then no hold", 23 among them; "If any of the eight has none, the table has no bounds (8)"
unfoldable pub bounds_refusal : Table → ℕ
bounds_refusal t = first_met (table_checks t ++ (check 8 (not (all_to (λ p. is_there (hold_of t p)) 8)) ∷ []))

-- hold_p, bound_p and window_p of a table that has bounds
unfoldable pub hold : Table → ℕ → ℕ
hold t p = or_zero (hold_of t p)

unfoldable pub bound : Table → ℕ → ℕ
bound t p = bound_within t p (hold t p)

unfoldable pub window : Table → ℕ → ℕ
window t p = window_within t p (hold t p)

pub record Sizing : Type 0 where
  pub refused : ℕ
  -- eight of each, priority 0 first; all 0 with a refusal
  pub bounds : List ℕ
  pub holds : List ℕ
  pub windows : List ℕ

unfoldable pub sized_or : ℕ → Table → Sizing
sized_or zero t = record { refused = 0; bounds = eight (bound t); holds = eight (hold t); windows = eight (window t) }
sized_or (suc n) t = record { refused = suc n; bounds = replicate 8 0; holds = replicate 8 0; windows = replicate 8 0 }

unfoldable pub sizing : Table → Sizing
sizing t = sized_or (bounds_refusal t) t
