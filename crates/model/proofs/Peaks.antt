-- A hold, a bound and its window with few windows tried: the hold by climbing, the bound by stretches of windows, each capped by A_p at its
-- end and by A_up there less what has left at its start.
use mathlib.Core.Path.{◌≡◌, refl}
use mathlib.Core.Bool.{Bool, true, false, cond, ◌&&◌, and-eq-true_iff}
use mathlib.Core.List.{[], ◌∷◌}
use Prim.Native.Nat.{ℕ, zero, suc, ◌+◌, ◌-◌, ◌/◌, ◌≤◌, ◌<◌, min}
use native.Mathlib.Nat.{le_refl}
use native.Mathlib.Decide.{dec_le}
use native.Mathlib.Omega.{arith}
use lib.Dec.{eqb, ltb}
use borrow.Author.Tests.{eqb-true, ltb-true}
use Rattle.model.specs.Basics.{all_hold}
use Rattle.model.specs.Table.{Table}
use Rattle.model.specs.Bounds.{own_arrivals, up_arrivals, longest, blocking, backlog, or_zero, hold, bound, window}
use Rattle.model.proofs.Checks.{all_true}
use Rattle.model.proofs.Holds.{own_grows, up_grows, hold_is, climbs_to, climbed}
use Rattle.model.proofs.BoundFacts.{FirstGreatest, first_one, amount_grows, highest}

-- ---- every number of a stretch is below the limit: by its cap, or in halves
unfoldable pub all_below : (ℕ → ℕ → ℕ) → ℕ → ℕ → ℕ → ℕ → Bool
all_below cap limit zero s e = ltb (cap s e) limit
all_below cap limit (suc n) s e =
    let halves = all_below cap limit n s ((s + e) / 2) && all_below cap limit n (suc ((s + e) / 2)) e in
    cond (ltb (cap s e) limit) true halves

module _ (g : ℕ → ℕ) (cap : ℕ → ℕ → ℕ) (capped : (s e k : ℕ) → s ≤ k → k ≤ e → g k ≤ cap s e) (limit : ℕ) where
  below_cap : (s e k : ℕ) → s ≤ k → k ≤ e → ltb (cap s e) limit ≡ true → g k < limit
  below_cap s e k l m x = omega (arith, capped s e k l m, ltb-true (cap s e) limit x)

  pub all_below_lem : (n s e : ℕ) → all_below cap limit n s e ≡ true → (k : ℕ) → s ≤ k → k ≤ e → g k < limit
  unfolding all_below
  all_below_lem zero s e x k l m = below_cap s e k l m x
  all_below_lem (suc n) s e x k l m = go (ltb (cap s e) limit) refl (all_below_lem n s ((s + e) / 2)) (all_below_lem n (suc ((s + e) / 2)) e)
    where
      go : (b : Bool) → ltb (cap s e) limit ≡ b → (all_below cap limit n s ((s + e) / 2) ≡ true → (k : ℕ) → s ≤ k → k ≤ (s + e) / 2 → g k < limit)
          → (all_below cap limit n (suc ((s + e) / 2)) e ≡ true → (k : ℕ) → suc ((s + e) / 2) ≤ k → k ≤ e → g k < limit) → g k < limit
      go true q low high = below_cap s e k l m q
      go false q low high =
          let both = (and-eq-true_iff (all_below cap limit n s ((s + e) / 2)) (all_below cap limit n (suc ((s + e) / 2)) e)).0 (rw q at x) in
          elim (dec_le k ((s + e) / 2)) [ yes y ↦ low both.0 k l y | no y ↦ high both.1 k (omega arith) m ]

-- ---- the most of a backlog from s to e
unfoldable pub backlog_cap : Table → ℕ → ℕ → ℕ → ℕ
backlog_cap t p s e = min (own_arrivals t p e) (up_arrivals t p e - (s - blocking t p) + longest t p - 1)

later_left : (x y b : ℕ) → x ≤ y → x - b ≤ y - b
later_left x y b l = omega arith

pub backlog_capped : (t : Table) (p s e k : ℕ) → s ≤ k → k ≤ e → backlog t p k ≤ backlog_cap t p s e
unfolding backlog backlog_cap
backlog_capped t p s e k l m =
    amount_grows (own_arrivals t p k) (own_arrivals t p e) (up_arrivals t p k) (up_arrivals t p e) (s - blocking t p) (k - blocking t p) (longest t p) (longest t p)
    (own_grows t p k e m) (up_grows t p k e m) (later_left s k (blocking t p) l) (le_refl (longest t p))

-- ---- of the windows below n the amount is at most m, and is m at w first
unfoldable pub earlier_below : Table → ℕ → ℕ → ℕ → Bool
earlier_below t p m zero = true
earlier_below t p m (suc last) = all_below (backlog_cap t p) m 16 0 last

unfoldable pub peaks : Table → ℕ → ℕ → ℕ → ℕ → Bool
peaks t p n m w = all_hold (ltb w n ∷ eqb (backlog t p w) m ∷ all_below (backlog_cap t p) (suc m) 16 0 (n - 1) ∷ earlier_below t p m w ∷ [])

module _ (t : Table) (p : ℕ) where
  earlier : (m w : ℕ) → earlier_below t p m w ≡ true → (k : ℕ) → k < w → backlog t p k < m
  unfolding earlier_below
  earlier m zero x k l = absurd (omega arith)
  earlier m (suc last) x k l = all_below_lem (backlog t p) (backlog_cap t p) (backlog_capped t p) m 16 0 last x k (omega arith) (omega arith)

  pub first_peak : (n m w : ℕ) → peaks t p n m w ≡ true → FirstGreatest (backlog t p) n m w
  unfolding peaks
  first_peak n m w x =
      let a = all_true (ltb w n ∷ eqb (backlog t p w) m ∷ all_below (backlog_cap t p) (suc m) 16 0 (n - 1) ∷ earlier_below t p m w ∷ []) x in
      record {
        greatest = λ k l. omega (arith, all_below_lem (backlog t p) (backlog_cap t p) (backlog_capped t p) (suc m) 16 0 (n - 1) a.1.1.0 k (omega arith) (omega arith));
        within = ltb-true w n a.0;
        attained = eqb-true (backlog t p w) m a.1.0;
        earlier = earlier m w a.1.1.1.0;
      }

  pub by_first : (c h m w : ℕ) → climbs_to t p c h ≡ true → FirstGreatest (backlog t p) h m w → (hold t p ≡ h) × (bound t p ≡ m) × (window t p ≡ w)
  unfolding hold or_zero
  by_first c h m w ends x =
      let found = climbed t p c h ends in
      let is : hold t p ≡ h = rw found in
      let f : FirstGreatest (backlog t p) (hold t p) (bound t p) (window t p) = highest t p (hold_is t p (hold t p) (rw is found)) in
      let same = first_one (rw is at f) x in
      (is, same.0, same.1)

  pub by_peak : (c h m w : ℕ) → climbs_to t p c h ≡ true → peaks t p h m w ≡ true → (hold t p ≡ h) × (bound t p ≡ m) × (window t p ≡ w)
  by_peak c h m w ends x = by_first c h m w ends (first_peak h m w x)
