-- The handful that breaks a table: links of it that together have no bounds, and have them without any one of them.
use Rattle.std.specs.Prelude.{Bool, cond, List, [], ◌∷◌, ◌++◌, ℕ, zero, suc, ◌+◌, ◌-◌, ◌*◌, ◌/◌, eqb}
use Rattle.model.specs.Basics.{check, first_met, first_refusal}
use Rattle.model.specs.Units.{line_capacity}
use Rattle.model.specs.Link.{VirtualLink}
use Rattle.model.specs.Table.{Table, blank_table, reserved_on, table_refusal}
use Rattle.model.specs.Bounds.{bounds_refusal}

-- the table with these links: "Line count and sizes are kept"
abbrev pub with_links : Table → List VirtualLink → Table
with_links t links = record { lines = t.lines; links = links; sizes = t.sizes }

-- it "has no bounds (8)"
unfoldable pub lacks_bounds : Table → Bool
lacks_bounds t = eqb (bounds_refusal t) 8

-- "Links are tried for removal in table order, each against those still kept, and the answer is what remains": from those that stay, of the
-- ones tried, and the ones not yet tried. A link whose removal still leaves no bounds is removed
unfoldable pub remaining : Table → List VirtualLink → List VirtualLink → List VirtualLink
remaining t kept [] = kept
remaining t kept (v ∷ untried) =
    let removed = remaining t kept untried in
    let stays = remaining t (kept ++ (v ∷ [])) untried in
    cond (lacks_bounds (with_links t (kept ++ untried))) removed stays

unfoldable pub core_links : Table → List VirtualLink
core_links t = remaining t [] t.links

-- ---- the call

-- "26, the table has bounds, after its own checks"
unfoldable pub core_refusal : Table → ℕ
core_refusal t = first_refusal (table_refusal t) (first_met (check 26 (eqb (bounds_refusal t) 0) ∷ []))

-- a refusal and no table, or 0 and the table with the links that remain
pub record Core : Type 0 where
  pub refused : ℕ
  pub table : Table

unfoldable pub core_or : ℕ → Table → Core
core_or zero t = record { refused = 0; table = with_links t (core_links t) }
core_or (suc n) t = record { refused = suc n; table = blank_table }

-- the handful: the paper's word for what remains, in the field's words an irreducible core of the overload
unfoldable pub core : Table → Core
core t = core_or (core_refusal t) t

-- ---- what is printed beside it: "1,000 × the kept links' sum of L × 2^(7 − code) / 1,600,000, rounded up (0 for a line without one)", of
-- what a line carries the thousandths that its links reserve
unfoldable pub sold_on : Table → ℕ → ℕ
sold_on t ℓ = (1_000 * reserved_on t.links ℓ + line_capacity - 1) / line_capacity
