-- A hold covers each frame of its priority: the arrival curve has at least one frame of each of its links.
use mathlib.Core.Path.{◌≡◌, refl}
use mathlib.Core.Bool.{Bool, true, false, cond, and-eq-true_iff}
use mathlib.Core.List.{List, Memᴰ}
use Prim.Native.Nat.{ℕ, ◌-◌, ◌*◌, ◌≤◌, ◌<◌}
use native.Mathlib.Nat.{le_refl, le_trans, mul-le-mul_left}
use native.Mathlib.Omega.{arith}
use borrow.Author.Tests.{le-leb, eq-eqb}
use Rattle.model.specs.Basics.{provided}
use Rattle.model.specs.Link.{VirtualLink, link_at, any_of, sum_over}
use Rattle.model.specs.Table.{Table}
use Rattle.model.specs.Arrival.{frame_curve, on_line, line_curve, arrival_curve}
use Rattle.model.specs.Bounds.{up_to, up_arrivals, hold}
use Rattle.model.specs.Promises.{HoldCovers}
use Rattle.model.proofs.TableFacts.{FieldsFit}
use Rattle.model.proofs.Curves.{greatest_ge}
use Rattle.model.proofs.Holds.{hold_is, HasBounds, has_bounds}
use Rattle.model.proofs.Gate.{mem_at}
use Rattle.model.proofs.Passing.{is_passing}
use Rattle.model.proofs.Queues.{sum_to_one_le}

-- ---- a curve is at least the greatest of each member
any_ge : (set : VirtualLink → Bool) {v : VirtualLink} {links : List VirtualLink} → Memᴰ v links → set v ≡ true → any_of set links ≡ true
unfolding any_of
any_ge set (Memᴰ.head e) m = rw (← e, m)
any_ge set (Memᴰ.tail {x = u} {xs = links} x) m = go (set u) (any_ge set x m)
  where
    go : (b : Bool) → any_of set links ≡ true → cond b true (any_of set links) ≡ true
    go true ih = refl
    go false ih = ih

sum_ge : (set : VirtualLink → Bool) (f : VirtualLink → ℕ) {v : VirtualLink} {links : List VirtualLink} → Memᴰ v links → set v ≡ true
    → f v ≤ sum_over set f links
unfolding sum_over provided
sum_ge set f (Memᴰ.head e) m = rw (← e, m) (omega arith)
sum_ge set f (Memᴰ.tail x) m = omega (arith, sum_ge set f x m)

pub frame_some : (v : VirtualLink) (w : ℕ) → 1 ≤ frame_curve v w
unfolding frame_curve
frame_some v w = omega arith

line_member : (weight : ℕ → ℕ) (set : VirtualLink → Bool) (links : List VirtualLink) (ℓ w : ℕ) (v : VirtualLink) → Memᴰ v links → on_line set ℓ v ≡ true
    → weight v.greatest ≤ line_curve weight set links ℓ w
unfolding line_curve provided
line_member weight set links ℓ w v m o =
    let x = sum_ge (on_line set ℓ) (λ u. weight u.greatest * frame_curve u w) m o in
    let y = greatest_ge (on_line set ℓ) (λ u. weight u.greatest) m o in
    rw (any_ge (on_line set ℓ) m o) (omega (arith, x, y, mul-le-mul_left (weight v.greatest) (frame_some v w)))

up_member : (t : Table) (v : VirtualLink) → Memᴰ v t.links → v.line < t.lines → (w : ℕ) → v.greatest ≤ up_arrivals t v.priority w
unfolding up_arrivals arrival_curve up_to on_line
up_member t v m l w =
    le_trans
    (line_member (λ n. n) (up_to v.priority) t.links v.line w v m
    ((and-eq-true_iff _ _).1 (le-leb v.priority v.priority (le_refl v.priority), eq-eqb v.line v.line refl)))
    (sum_to_one_le (λ ℓ. line_curve (λ n. n) (up_to v.priority) t.links ℓ w) v.line t.lines l)

pub hold_covers : HoldCovers
hold_covers t e i l =
    let b : HasBounds t = has_bounds t e in
    let v = link_at t.links i in
    let f : FieldsFit t.lines v = (is_passing t b.table).fields i l in
    let h = hold_is t v.priority (hold t v.priority) (b.holds v.priority (omega (arith, f.priority_most))) in
    omega (arith, h.holds, up_member t v (mem_at t.links i l) f.line_below (hold t v.priority - 1))
