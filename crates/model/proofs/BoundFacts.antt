-- Of a table that has bounds: the bound is the greatest amount and is first attained at the window, and the difference in it is never
-- truncated.
use mathlib.Core.Path.{◌≡◌, refl, sym, ◌∙◌}
use mathlib.Core.Bool.{Bool, true, false}
use mathlib.Core.Option.{Option, none, some}
use Prim.Native.Nat.{ℕ, ◌+◌, ◌-◌, ◌≤◌, ◌<◌, min}
use native.Mathlib.Decide.{dec_le}
use native.Mathlib.Omega.{arith}
use lib.Dec.{eqb}
use borrow.Author.Tests.{eqb-true, eq-eqb, eqb-false}
use Rattle.model.specs.Basics.{greatest_to, first_from}
use Rattle.model.specs.Link.{any_of}
use Rattle.model.specs.Table.{Table}
use Rattle.model.specs.Bounds.{of_priority, own_arrivals, up_arrivals, blocking, backlog, bound_within, or_zero, window_within, hold, bound, window}
use Rattle.model.specs.Promises.{IsHold, BoundIsGreatest}
use Rattle.model.proofs.Search.{IsFirst, found_first, found_none, greatest_to_ge, Attained, greatest_to_attained}
use Rattle.model.proofs.Curves.{curve_none}
use Rattle.model.proofs.Holds.{up_grows, hold_is, has_bounds}

-- ---- the greatest of g 0, .., g (n − 1) is m, first at w
pub record FirstGreatest (g : ℕ → ℕ) (n m w : ℕ) : Type 0 where
  pub greatest : (k : ℕ) → k < n → g k ≤ m
  pub within : w < n
  pub attained : g w ≡ m
  pub earlier : (k : ℕ) → k < w → g k < m

-- there is one
pub first_one : {g : ℕ → ℕ} {n m w m' w' : ℕ} → FirstGreatest g n m w → FirstGreatest g n m' w' → (m ≡ m') × (w ≡ w')
first_one {g} {n} {m} {w} {m'} {w'} a b = (same, omega (arith, before, behind))
  where
    same : m ≡ m'
    same = omega (arith, a.attained, b.attained, a.greatest w' b.within, b.greatest w a.within)

    before : w ≤ w'
    before = elim (dec_le w w') [ yes l ↦ l | no l ↦ absurd (omega (arith, a.earlier w' (omega arith), b.attained, same)) ]

    behind : w' ≤ w
    behind = elim (dec_le w' w) [ yes l ↦ l | no l ↦ absurd (omega (arith, b.earlier w (omega arith), a.attained, same)) ]

-- the search for it finds it
first_greatest : (g : ℕ → ℕ) (n : ℕ) → 0 < n → FirstGreatest g n (greatest_to g n) (or_zero (first_from (λ w. eqb (g w) (greatest_to g n)) n 0))
unfolding or_zero
first_greatest g n l = go (first_from test n 0) refl
  where
    test : ℕ → Bool
    test = λ w. eqb (g w) (greatest_to g n)

    a : Attained g n
    a = greatest_to_attained g n l

    go : (o : Option ℕ) → first_from test n 0 ≡ o → FirstGreatest g n (greatest_to g n) (or_zero o)
    go none q = absurd (let z : ◌≡◌ {A = ℕ} 0 1 = let y : true ≡ false = sym (eq-eqb (g a.at) (greatest_to g n) a.at_is) ∙ found_none test n 0 q a.at (omega arith) (omega (arith, a.at_lt)) in cc in omega arith)
    go (some w) q =
        let f : IsFirst test n 0 w = found_first test n 0 w q in
        record {
          greatest = greatest_to_ge g n;
          within = omega (arith, f.below);
          attained = eqb-true (g w) (greatest_to g n) f.holds;
          earlier = λ k x. let d = eqb-false (g k) (greatest_to g n) (f.before k (omega arith) x) in omega (arith, greatest_to_ge g n k (omega (arith, f.below)));
        }

-- of zeros
first_zero : (g : ℕ → ℕ) (n : ℕ) → 0 < n → ((k : ℕ) → g k ≡ 0) → FirstGreatest g n 0 0
first_zero g n l h = record { greatest = λ k x. omega (arith, h k); within = l; attained = h 0; earlier = λ k x. absurd (omega arith) }

-- ---- the smaller of A_p and A_up − what has left + M − 1 grows with A_p, A_up and M, and falls with what has left
less_left : (u u' x y m m' : ℕ) → u ≤ u' → x ≤ y → m ≤ m' → u - y + m - 1 ≤ u' - x + m' - 1
less_left u u' x y m m' k l h = omega arith

smaller_of_both : (a a' c d : ℕ) → a ≤ a' → c ≤ d → min a c ≤ min a' d
smaller_of_both a a' c d l m = omega arith

pub amount_grows : (a a' u u' x y m m' : ℕ) → a ≤ a' → u ≤ u' → x ≤ y → m ≤ m' → min a (u - y + m - 1) ≤ min a' (u' - x + m' - 1)
amount_grows a a' u u' x y m m' j k l h = smaller_of_both a a' (u - y + m - 1) (u' - x + m' - 1) j (less_left u u' x y m m' k l h)

pub unused : (t : Table) (p : ℕ) → any_of (of_priority p) t.links ≡ false → (bound t p ≡ 0) × (window t p ≡ 0)
unfolding bound bound_within window window_within
unused t p e = (rw e, rw e)

module _ (t : Table) (p : ℕ) (is_hold : IsHold t p (hold t p)) where
  untruncated : (w : ℕ) → w < hold t p → w - blocking t p ≤ up_arrivals t p w
  untruncated w l = go (dec_le 1 w)
    where
      go : Dec (1 ≤ w) → w - blocking t p ≤ up_arrivals t p w
      go (yes k) = omega (arith, is_hold.smallest w k l, up_grows t p (w - 1) w (omega arith))
      go (no k) = omega arith

  small : (w : ℕ) → w < hold t p → up_arrivals t p w ≤ 65_536
  small w l = omega (arith, is_hold.holds, is_hold.most_is, up_grows t p w (hold t p - 1) (omega arith))

  idle : any_of (of_priority p) t.links ≡ false → (w : ℕ) → backlog t p w ≡ 0
  unfolding backlog own_arrivals
  idle e w = let none : own_arrivals t p w ≡ 0 = curve_none _ (of_priority p) t.lines t.links w e in omega arith

  pub highest : FirstGreatest (backlog t p) (hold t p) (bound t p) (window t p)
  unfolding bound bound_within window window_within
  highest = go (any_of (of_priority p) t.links) refl
    where
      go : (x : Bool) → any_of (of_priority p) t.links ≡ x → FirstGreatest (backlog t p) (hold t p) (bound t p) (window t p)
      go true e = rw e (first_greatest (backlog t p) (hold t p) (omega (arith, is_hold.least_is)))
      go false e = rw e (first_zero (backlog t p) (hold t p) (omega (arith, is_hold.least_is)) (idle e))

pub bound_greatest : BoundIsGreatest
bound_greatest t e p l =
    let h : IsHold t p (hold t p) = hold_is t p (hold t p) ((has_bounds t e).holds p l) in
    let f : FirstGreatest (backlog t p) (hold t p) (bound t p) (window t p) = highest t p h in
    record {
      is_hold = h;
      greatest = f.greatest;
      within = f.within;
      attained = f.attained;
      earlier = f.earlier;
      unused = unused t p;
      untruncated = untruncated t p h;
      small = small t p h;
    }
