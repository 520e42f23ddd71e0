-- Hold, bound and window of one priority, from what the searches give.
use mathlib.Core.Path.{◌≡◌, refl}
use mathlib.Core.Bool.{Bool, true, false}
use mathlib.Core.List.{List, [], ◌∷◌}
use Prim.Native.Nat.{ℕ, suc, ◌+◌, ◌-◌, ◌≤◌, ◌<◌, min, max}
use native.Mathlib.Omega.{arith}
use lib.ListN.{length}
use Rattle.model.specs.Basics.{provided}
use Rattle.model.specs.Link.{VirtualLink, link_at, any_of, greatest_over}
use Rattle.model.specs.Table.{Table, table_refusal}
use Rattle.model.specs.Bounds.{of_priority, own_arrivals, up_arrivals, blocking, longest, backlog, bound_within, or_zero, window_within}
use Rattle.model.specs.Promises.{IsHold}
use Rattle.model.proofs.Curves.{greatest_none}
use Rattle.model.proofs.Holds.{up_grows}
use Rattle.table.specs.declared.Table.{Table as TableRecord}
use Rattle.table.specs.View.{view_links, view_table}
use Rattle.table.proofs.Shape.{count_shown}
use Rattle.table.proofs.PassingRecord.{link_fits}
use Rattle.bounds_backlog.specs.Peaks.{Highest}
use Rattle.bounds_backlog.specs.Stretches.{Given}
use Rattle.bounds_backlog.proofs.Highest.{highest_is, highest_first}
use Rattle.bounds.specs.Limits.{LimitsOf}
use Rattle.bounds.proofs.Climbing.{hold_found}

-- ---- a set has a link exactly if its greatest length is not 0
any_longest : (s : VirtualLink → Bool) (links : List VirtualLink) → ((i : ℕ) → i < length links → 84 ≤ (link_at links i).greatest) → any_of s links ≡ true
    → 84 ≤ greatest_over s (λ v. v.greatest) links
unfolding greatest_over any_of provided
any_longest s [] f e = absurd (let z : ◌≡◌ {A = ℕ} 0 1 = cc in omega arith)
any_longest s (v ∷ links) f e = go (s v) refl (any_longest s links (λ i l. f (suc i) (omega arith)))
  where
    go : (b : Bool) → s v ≡ b → (any_of s links ≡ true → 84 ≤ greatest_over s (λ v. v.greatest) links)
        → 84 ≤ max (provided (s v) v.greatest) (greatest_over s (λ v. v.greatest) links)
    go true q ih = rw q (omega (arith, f 0 (omega arith)))
    go false q ih = rw q (omega (arith, ih (rw q at e)))

module _ (t : TableRecord) (p m : ℕ) (q : m ≡ longest (view_table t) p) where
  pub none_of : table_refusal (view_table t) ≡ 0 → m ≡ 0 → any_of (of_priority p) (view_table t).links ≡ false
  unfolding longest view_table
  none_of pass z = go (any_of (of_priority p) (view_links t)) refl
    where
      long : (i : ℕ) → i < t.count → 84 ≤ (link_at (view_links t) i).greatest
      long i h = let f = link_fits t pass i h in omega arith

      go : (b : Bool) → any_of (of_priority p) (view_links t) ≡ b → b ≡ false
      go true x = absurd (omega (arith, any_longest (of_priority p) (view_links t) (λ i l. long i (omega (arith, count_shown t))) x))
      go false x = refl

  pub some_of : 0 < m → any_of (of_priority p) (view_table t).links ≡ true
  unfolding longest view_table
  some_of z = go (any_of (of_priority p) (view_links t)) refl
    where
      go : (b : Bool) → any_of (of_priority p) (view_links t) ≡ b → b ≡ true
      go true x = refl
      go false x = absurd (omega (arith, greatest_none (of_priority p) (λ v. v.greatest) (view_links t) x))

-- ---- with a hold
module _ (t : Table) (p : ℕ) where
  module _ (h : ℕ) (c : IsHold t p h) where
    pub limited_idle : any_of (of_priority p) t.links ≡ false → LimitsOf t p (record { hold = h; bound = 0; window = 0 })
    unfolding bound_within window_within
    limited_idle n = record { hold = hold_found t p h c; bound = rw n; window = rw n }

    module _ (last m w : ℕ) (e : last + 1 ≡ h) (t' : Highest (backlog t p) (last + 1) m w) where
      highest : Highest (backlog t p) h m w
      highest = rw e at t'

      pub limited_busy : any_of (of_priority p) t.links ≡ true → LimitsOf t p (record { hold = h; bound = m; window = w })
      unfolding bound_within window_within or_zero
      limited_busy n =
          let l : 0 < h = omega (arith, c.least_is) in
          record {
            hold = hold_found t p h c;
            bound = rw n (highest_is (backlog t p) h m w l highest);
            window = rw (n, highest_first (backlog t p) h m w l highest);
          }

      net_most : (a u d x : ℕ) → min a (u - d + x - 1) ≤ u + x
      net_most a u d x = omega arith

      pub bound_fits : longest t p ≤ 1_538 → m ≤ 67_074
      unfolding backlog
      bound_fits l =
          let x = net_most (own_arrivals t p w) (up_arrivals t p w) (w - blocking t p) (longest t p) in
          omega (arith, highest.hit, up_grows t p w (h - 1) highest.inside, c.holds, c.most_is)

  pub given_hold : (b m h : ℕ) → IsHold t p h → b ≡ blocking t p → m ≡ longest t p → 1 ≤ m → m ≤ 1_538
      → Given t (record { priority = p; blocking = b; longest = m; last = h - 1 })
  given_hold b m h c eb em x y =
      let e : h - 1 + 1 ≡ h = omega (arith, c.least_is) in
      record { blocking_is = eb; longest_is = em; some_link = x; longest_most = y; is_hold = rw e c }
