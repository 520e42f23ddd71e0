-- A line carries one byte a tick: in a window of w ticks at most w and the longest frame of a set of links.
use mathlib.Core.Path.{◌≡◌, refl}
use mathlib.Core.Bool.{Bool, true, false}
use mathlib.Core.List.{List, [], ◌∷◌}
use Prim.Native.Nat.{ℕ, ◌+◌, ◌-◌, ◌≤◌, ◌<◌}
use native.Mathlib.Nat.{le_trans, lt_of_not-le}
use native.Mathlib.Decide.{dec_le}
use native.Mathlib.Omega.{arith}
use lib.Dec.{leb}
use borrow.Author.Tests.{lt-leb}
use Rattle.model.specs.Basics.{provided}
use Rattle.model.specs.Link.{VirtualLink, greatest_over}
use Rattle.model.specs.Arrival.{on_line}
use Rattle.model.specs.Promises.{Weight}
use Rattle.model.proofs.Curves.{provided_zero, provided_le, greatest_ge}
use Rattle.model.proofs.Passed.{Passed, Proper, total, line_length}

-- the greatest weight of a set's members on line ℓ
abbrev pub line_greatest : (ℕ → ℕ) → (VirtualLink → Bool) → List VirtualLink → ℕ → ℕ
line_greatest weight set links ℓ = greatest_over (on_line set ℓ) (λ v. weight v.greatest) links

-- line ℓ, its last frame at tick last, after the frames h
pub record Carried (weight : ℕ → ℕ) (set : VirtualLink → Bool) (links : List VirtualLink) (ℓ : ℕ) (h : List Passed) (last : ℕ) : Type 0 where
  pub bound : (s : ℕ) → s ≤ last → total (line_length weight set ℓ s) h ≤ (last - s) + line_greatest weight set links ℓ
  pub past : (s : ℕ) → last < s → total (line_length weight set ℓ s) h ≡ 0

pub carried_start : (weight : ℕ → ℕ) (set : VirtualLink → Bool) (links : List VirtualLink) (ℓ : ℕ) → Carried weight set links ℓ [] 0
unfolding total
carried_start weight set links ℓ = record { bound = λ s l. omega arith; past = λ s l. refl }

-- ---- what one frame adds: nothing after its tick, its weight at most, and no more than the line's greatest
line_length_later : (weight : ℕ → ℕ) (set : VirtualLink → Bool) (ℓ s : ℕ) (p : Passed) → p.tick < s → line_length weight set ℓ s p ≡ 0
unfolding line_length provided
line_length_later weight set ℓ s p l = rw (lt-leb s p.tick l) (provided_zero (on_line set ℓ p.link))

line_length_le : (weight : ℕ → ℕ) (set : VirtualLink → Bool) (ℓ s : ℕ) (p : Passed) → line_length weight set ℓ s p ≤ weight p.length
unfolding line_length
line_length_le weight set ℓ s p = le_trans (provided_le (on_line set ℓ p.link) _) (provided_le _ _)

line_length_greatest : (weight : ℕ → ℕ) → Weight weight → (set : VirtualLink → Bool) (lines : ℕ) (links : List VirtualLink) (ℓ s : ℕ) (p : Passed) → Proper lines links p
    → line_length weight set ℓ s p ≤ line_greatest weight set links ℓ
unfolding line_length provided
line_length_greatest weight z set lines links ℓ s p k = go (on_line set ℓ p.link) refl
  where
    go : (b : Bool) → on_line set ℓ p.link ≡ b → provided (on_line set ℓ p.link) (provided (leb s p.tick) (weight p.length)) ≤ line_greatest weight set links ℓ
    go true e =
        rw e
        (omega (
          arith,
          provided_le (leb s p.tick) (weight p.length),
          greatest_ge (on_line set ℓ) (λ v. weight v.greatest) k.member e,
          z.grows p.length p.link.greatest k.short,
        ))
    go false e = rw e (omega arith)

-- a frame on the line, which began after the frame before it had ended
pub carried_accepts : (weight : ℕ → ℕ) → Weight weight → (set : VirtualLink → Bool) (lines : ℕ) (links : List VirtualLink) (ℓ : ℕ) (h : List Passed) (last : ℕ) (p : Passed)
    → Proper lines links p → last + p.length ≤ p.tick → Carried weight set links ℓ h last → Carried weight set links ℓ (p ∷ h) p.tick
unfolding total
carried_accepts weight z set lines links ℓ h last p proper l c =
    record {
      bound = λ s k. go s k (dec_le s last);
      past = λ s k. omega (arith, line_length_later weight set ℓ s p k, c.past s (omega arith));
    }
  where
    go : (s : ℕ) → s ≤ p.tick → Dec (s ≤ last) → total (line_length weight set ℓ s) (p ∷ h) ≤ (p.tick - s) + line_greatest weight set links ℓ
    go s k (yes i) = omega (arith, c.bound s i, line_length_le weight set ℓ s p, z.below p.length)
    go s k (no i) = omega (arith, c.past s (lt_of_not-le i), line_length_greatest weight z set lines links ℓ s p proper)

-- a frame of no member on the line
pub carried_other : (weight : ℕ → ℕ) (set : VirtualLink → Bool) (links : List VirtualLink) (ℓ : ℕ) (h : List Passed) (last : ℕ) (p : Passed) → on_line set ℓ p.link ≡ false
    → Carried weight set links ℓ h last → Carried weight set links ℓ (p ∷ h) last
unfolding total line_length provided
carried_other weight set links ℓ h last p e c =
    record {
      bound = λ s k. rw e (omega (arith, c.bound s k));
      past = λ s k. rw e (omega (arith, c.past s k));
    }

-- the line's tick rises
pub carried_later : (weight : ℕ → ℕ) (set : VirtualLink → Bool) (links : List VirtualLink) (ℓ : ℕ) (h : List Passed) (last t : ℕ) → last ≤ t
    → Carried weight set links ℓ h last → Carried weight set links ℓ h t
carried_later weight set links ℓ h last t l c =
    record {
      bound = λ s k. go s k (dec_le s last);
      past = λ s k. c.past s (omega arith);
    }
  where
    go : (s : ℕ) → s ≤ t → Dec (s ≤ last) → total (line_length weight set ℓ s) h ≤ (t - s) + line_greatest weight set links ℓ
    go s k (yes i) = omega (arith, c.bound s i)
    go s k (no i) = omega (arith, c.past s (lt_of_not-le i))
