-- What passed, summed by lines and by links: what a set of links sends in a window is at most its arrival curve.
use mathlib.Core.Path.{◌≡◌, refl, sym}
use mathlib.Core.Bool.{Bool, true, false, ◌&&◌}
use mathlib.Core.List.{List, [], ◌∷◌, Memᴰ}
use Prim.Native.Nat.{ℕ, zero, suc, ◌+◌, ◌*◌, ◌≤◌, ◌<◌}
use native.Mathlib.Nat.{le_trans, mul-le-mul_left}
use native.Mathlib.Decide.{dec_le, ℕ_discrete}
use native.Mathlib.Omega.{arith}
use lib.Dec.{eqb, leb}
use borrow.Author.Tests.{eq-eqb, ne_eqb}
use Rattle.model.specs.Basics.{provided, sum_to, Each, done, also}
use Rattle.model.specs.Link.{VirtualLink, any_of, sum_over}
use Rattle.model.specs.Arrival.{frame_curve, on_line, line_curve, arrival_curve}
use Rattle.model.specs.Promises.{Weight}
use Rattle.model.proofs.Curves.{sum_to_mono, sum_over_mono, sum_over_none}
use Rattle.model.proofs.Passed.{Passed, Proper, total, counts, cnt, set_length, line_length}
use Rattle.model.proofs.Serialization.{line_greatest}

-- ---- by lines
sum_to_zero : (n : ℕ) → sum_to (λ (k : ℕ). 0) n ≡ 0
unfolding sum_to
sum_to_zero zero = refl
sum_to_zero (suc n) = omega (arith, sum_to_zero n)

pub sum_to_add : (f g : ℕ → ℕ) (n : ℕ) → sum_to (λ k. f k + g k) n ≡ sum_to f n + sum_to g n
unfolding sum_to
sum_to_add f g zero = refl
sum_to_add f g (suc n) = omega (arith, sum_to_add f g n)

-- one place of many
sum_to_none : (k x n : ℕ) → n ≤ k → sum_to (λ ℓ. provided (eqb k ℓ) x) n ≡ 0
unfolding sum_to provided
sum_to_none k x zero l = refl
sum_to_none k x (suc n) l = rw (ne_eqb k n (omega arith)) (omega (arith, sum_to_none k x n (omega arith)))

sum_to_one : (k x n : ℕ) → k < n → sum_to (λ ℓ. provided (eqb k ℓ) x) n ≡ x
unfolding sum_to provided
sum_to_one k x zero l = absurd (omega arith)
sum_to_one k x (suc n) l = go (ℕ_discrete k n) (sum_to_one k x n)
  where
    go : Dec (k ≡ n) → (k < n → sum_to (λ ℓ. provided (eqb k ℓ) x) n ≡ x) → sum_to (λ ℓ. provided (eqb k ℓ) x) n + provided (eqb k n) x ≡ x
    go (yes e) ih = rw (eq-eqb k n e) (omega (arith, sum_to_none k x n (omega arith)))
    go (no e) ih = rw (ne_eqb k n e) (omega (arith, ih (omega arith)))

pub sum_to_one_most : (k x n : ℕ) → sum_to (λ ℓ. provided (eqb k ℓ) x) n ≤ x
sum_to_one_most k x n = elim (dec_le n k) [ yes l ↦ omega (arith, sum_to_none k x n l) | no l ↦ omega (arith, sum_to_one k x n (omega arith)) ]

pub by_lines : (g : Passed → ℕ) (lines : ℕ) (links : List VirtualLink) (h : List Passed) → Each (Proper lines links) h
    → total g h ≡ sum_to (λ ℓ. total (λ p. provided (eqb p.link.line ℓ) (g p)) h) lines
unfolding total
by_lines g lines links [] done = sym (sum_to_zero lines)
by_lines g lines links (p ∷ h) (also k e) =
    omega (
      arith,
      by_lines g lines links h e,
      sum_to_one p.link.line (g p) lines k.line_below,
      sum_to_add (λ ℓ. provided (eqb p.link.line ℓ) (g p)) (λ ℓ. total (λ q. provided (eqb q.link.line ℓ) (g q)) h) lines,
    )

-- a frame of the set, on its line
on_line_lem : (weight : ℕ → ℕ) (set : VirtualLink → Bool) (ℓ s : ℕ) (p : Passed) → provided (eqb p.link.line ℓ) (set_length weight set s p) ≡ line_length weight set ℓ s p
unfolding set_length line_length on_line provided
on_line_lem weight set ℓ s p = go (set p.link) (eqb p.link.line ℓ) (provided (leb s p.tick) (weight p.length))
  where
    go : (b c : Bool) (x : ℕ) → provided c (provided b x) ≡ provided (b && c) x
    go true c x = refl
    go false true x = refl
    go false false x = refl

-- ---- by links
sum_over_add : (set : VirtualLink → Bool) (f g : VirtualLink → ℕ) (links : List VirtualLink) → sum_over set (λ v. f v + g v) links ≡ sum_over set f links + sum_over set g links
unfolding sum_over provided
sum_over_add set f g [] = refl
sum_over_add set f g (v ∷ links) = omega (arith, sum_over_add set f g links, go (set v))
  where
    go : (b : Bool) → provided b (f v + g v) ≡ provided b (f v) + provided b (g v)
    go true = refl
    go false = refl

sum_over_member : (set : VirtualLink → Bool) (f : VirtualLink → ℕ) {v : VirtualLink} {links : List VirtualLink} → Memᴰ v links → provided (set v) (f v) ≤ sum_over set f links
unfolding sum_over
sum_over_member set f (Memᴰ.head e) = rw (← e) (omega arith)
sum_over_member set f (Memᴰ.tail m) = omega (arith, sum_over_member set f m)

module _ (weight : ℕ → ℕ) (z : Weight weight) (set : VirtualLink → Bool) (lines : ℕ) (links : List VirtualLink) where
  -- a frame on the line is no more than its link's greatest
  one_share : (ℓ s : ℕ) (p : Passed) → p.length ≤ p.link.greatest
      → line_length weight set ℓ s p ≤ provided (on_line set ℓ p.link) (weight p.link.greatest * counts p.link s p)
  unfolding line_length counts provided
  one_share ℓ s p l = go (on_line set ℓ p.link) (leb s p.tick)
    where
      go : (b c : Bool) → provided b (provided c (weight p.length)) ≤ provided b (weight p.link.greatest * provided (eqb p.link.number p.link.number) (provided c 1))
      go true true = rw (eq-eqb p.link.number p.link.number refl) (omega (arith, z.grows p.length p.link.greatest l))
      go true false = omega arith
      go false c = omega arith

  pub by_links : (ℓ s : ℕ) (h : List Passed) → Each (Proper lines links) h
      → total (line_length weight set ℓ s) h ≤ sum_over (on_line set ℓ) (λ v. weight v.greatest * cnt v h s) links
  unfolding total cnt
  by_links ℓ s [] done = omega arith
  by_links ℓ s (p ∷ h) (also k e) =
      omega (
        arith,
        by_links ℓ s h e,
        one_share ℓ s p k.short,
        sum_over_member (on_line set ℓ) (λ v. weight v.greatest * counts v s p) k.member,
        sum_over_add (on_line set ℓ) (λ v. weight v.greatest * counts v s p) (λ v. weight v.greatest * cnt v h s) links,
        sum_over_mono (on_line set ℓ) (λ v. weight v.greatest * counts v s p + weight v.greatest * cnt v h s) (λ v. weight v.greatest * cnt v (p ∷ h) s) links (λ v m. omega arith),
      )

  -- ---- within the arrival curve, by N_v(w) of each link and by serialization on each line
  module _ (h : List Passed) (s w : ℕ) (proper : Each (Proper lines links) h) (each : (v : VirtualLink) → Memᴰ v links → cnt v h s ≤ frame_curve v w) where
    line_bound : (ℓ : ℕ) → total (line_length weight set ℓ s) h ≤ w + line_greatest weight set links ℓ → total (line_length weight set ℓ s) h ≤ line_curve weight set links ℓ w
    unfolding line_curve provided
    line_bound ℓ serial =
        go (any_of (on_line set ℓ) links) refl
        (le_trans (by_links ℓ s h proper) (sum_over_mono (on_line set ℓ) _ _ links (λ v m. mul-le-mul_left (weight v.greatest) (each v m))))
      where
        go : (b : Bool) → any_of (on_line set ℓ) links ≡ b → total (line_length weight set ℓ s) h ≤ sum_over (on_line set ℓ) (λ v. weight v.greatest * frame_curve v w) links
            → total (line_length weight set ℓ s) h ≤ line_curve weight set links ℓ w
        go true q m = rw q (omega arith)
        go false q m = rw q (omega (arith, sum_over_none (on_line set ℓ) (λ v. weight v.greatest * frame_curve v w) links q))

    pub set_bound : ((ℓ : ℕ) → ℓ < lines → total (line_length weight set ℓ s) h ≤ w + line_greatest weight set links ℓ)
        → total (set_length weight set s) h ≤ arrival_curve weight set lines links w
    unfolding arrival_curve
    set_bound serial = rw (by_lines (set_length weight set s) lines links h proper) (simp on_line_lem (sum_to_mono _ _ lines (λ ℓ m. line_bound ℓ (serial ℓ m))))
