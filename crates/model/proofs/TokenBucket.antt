-- The police check is a token bucket: of each link it lets pass at most N_v(w) frames in a window of w ticks.
use mathlib.Core.Path.{◌≡◌, refl}
use mathlib.Core.List.{List, [], ◌∷◌}
use Prim.Native.Nat.{ℕ, ◌+◌, ◌-◌, ◌*◌, ◌/◌, ◌≤◌, ◌<◌}
use native.Mathlib.Nat.{le_refl, le-div_iff_mul-le, add-div_left, lt_of_not-le}
use native.Mathlib.Decide.{dec_le}
use native.Mathlib.Omega.{arith}
use borrow.Author.Tests.{le-leb, lt-leb, eq-eqb, ne_eqb}
use Rattle.model.specs.Basics.{provided}
use Rattle.model.specs.Link.{VirtualLink, bag}
use Rattle.model.specs.Arrival.{frame_curve}
use Rattle.model.specs.Port.{Account, full_account}
use Rattle.model.specs.Report.{replenished, charged}
use Rattle.model.proofs.Bags.{bag_positive}
use Rattle.model.proofs.Curves.{provided_zero}
use Rattle.model.proofs.Passed.{Passed, total, counts, cnt}

-- the account of link v after the frames h: B for each frame from s on, and the credit left, came from B + J and the ticks since s
pub record Credited (v : VirtualLink) (h : List Passed) (a : Account) : Type 0 where
  pub bound : (s : ℕ) → s ≤ a.tick → cnt v h s * bag v + a.credit ≤ bag v + v.jitter + (a.tick - s)
  pub past : (s : ℕ) → a.tick < s → cnt v h s ≡ 0

pub credited_start : (v : VirtualLink) → Credited v [] (full_account v)
unfolding cnt total
credited_start v = record { bound = λ s l. omega arith; past = λ s l. refl }

pub credit_top : (v : VirtualLink) (h : List Passed) (a : Account) → Credited v h a → a.credit ≤ bag v + v.jitter
credit_top v h a c = omega (arith, c.bound a.tick (le_refl a.tick))

pub policed_keeps : (v : VirtualLink) (h : List Passed) (a : Account) (t : ℕ) → a.tick ≤ t → Credited v h a → Credited v h (replenished (bag v) v.jitter a t)
unfolding replenished
policed_keeps v h a t l c = record { bound = λ s m. go s m (dec_le s a.tick); past = λ s m. c.past s (omega arith) }
  where
    go : (s : ℕ) → s ≤ t → Dec (s ≤ a.tick) → cnt v h s * bag v + (replenished (bag v) v.jitter a t).credit ≤ bag v + v.jitter + (t - s)
    go s m (yes k) = omega (arith, c.bound s k)
    go s m (no k) = rw (c.past s (lt_of_not-le k)) (omega arith)

-- ---- one more frame
cnt_new : (v : VirtualLink) (h : List Passed) (p : Passed) (s : ℕ) → v.number ≡ p.link.number → s ≤ p.tick → cnt v (p ∷ h) s ≡ 1 + cnt v h s
unfolding cnt total counts provided
cnt_new v h p s e l = rw (eq-eqb v.number p.link.number e, le-leb s p.tick l)

cnt_later : (v : VirtualLink) (h : List Passed) (p : Passed) (s : ℕ) → p.tick < s → cnt v (p ∷ h) s ≡ cnt v h s
unfolding cnt total counts provided
cnt_later v h p s l = rw (lt-leb s p.tick l, provided_zero) (omega arith)

cnt_other : (v : VirtualLink) (h : List Passed) (p : Passed) (s : ℕ) → (v.number ≡ p.link.number → ⊥) → cnt v (p ∷ h) s ≡ cnt v h s
unfolding cnt total counts provided
cnt_other v h p s n = rw (ne_eqb v.number p.link.number n) (omega arith)

-- its link's account, replenished to its tick, pays for it
pub charged_keeps : (v : VirtualLink) (h : List Passed) (a : Account) (p : Passed) → v.number ≡ p.link.number → a.tick ≡ p.tick → bag v ≤ a.credit
    → Credited v h a → Credited v (p ∷ h) (charged (bag v) a)
unfolding charged
charged_keeps v h a p e l b c =
    record {
      bound = λ s m. rw (cnt_new v h p s e (omega arith)) (omega (arith, c.bound s m));
      past = λ s m. rw (cnt_later v h p s (omega arith)) (c.past s m);
    }

-- a frame of another link changes nothing
pub other_keeps : (v : VirtualLink) (h : List Passed) (a : Account) (p : Passed) → (v.number ≡ p.link.number → ⊥) → Credited v h a → Credited v (p ∷ h) a
other_keeps v h a p n c =
    record {
      bound = λ s m. rw (cnt_other v h p s n) (c.bound s m);
      past = λ s m. rw (cnt_other v h p s n) (c.past s m);
    }

pub cnt_frames : (v : VirtualLink) (h : List Passed) (a : Account) (clock s : ℕ) → Credited v h a → a.tick ≤ clock → s ≤ clock → cnt v h s ≤ frame_curve v (clock - s)
unfolding frame_curve
cnt_frames v h a clock s c l m = go (dec_le s a.tick)
  where
    go : Dec (s ≤ a.tick) → cnt v h s ≤ 1 + (clock - s + v.jitter) / bag v
    go (yes k) =
        let top : cnt v h s ≤ (bag v + (clock - s + v.jitter)) / bag v = (le-div_iff_mul-le (bag_positive v)).1 (omega (arith, c.bound s k)) in
        omega (arith, top, add-div_left (clock - s + v.jitter) (bag_positive v))
    go (no k) = rw (c.past s (lt_of_not-le k)) (omega arith)
