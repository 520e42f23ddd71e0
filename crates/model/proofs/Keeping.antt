-- One account and BAG and jitter: a link that keeps them can always pay, and the frames that pass keep them.
use mathlib.Core.Path.{◌≡◌, refl}
use mathlib.Core.List.{List, [], ◌∷◌, ◌++◌}
use Prim.Native.Nat.{ℕ, zero, suc, ◌+◌, ◌-◌, ◌*◌, ◌≤◌, ◌<◌}
use native.Mathlib.Nat.{le_refl}
use native.Mathlib.Decide.{dec_le, ℕ_discrete}
use native.Mathlib.Omega.{arith}
use lib.ListN.{length, get_or, length-append, get_or-append}
use lib.Seq.{get_or-append_seam}
use Rattle.model.specs.Link.{VirtualLink, bag}
use Rattle.model.specs.Port.{Account, full_account}
use Rattle.model.specs.Report.{replenished, charged}
use Rattle.model.specs.Run.{KeepBagAndJitter}

one_more : (ticks : List ℕ) (t : ℕ) → length (ticks ++ (t ∷ [])) ≡ suc (length ticks)
one_more ticks t = rw length-append (omega arith)

pub keeping_before : (v : VirtualLink) (ticks : List ℕ) (t : ℕ) → KeepBagAndJitter v (ticks ++ (t ∷ [])) → KeepBagAndJitter v ticks
unfolding KeepBagAndJitter
keeping_before v ticks t k i j o l =
    rw (get_or-append ticks (t ∷ []) 0 i (omega arith), get_or-append ticks (t ∷ []) 0 (i + j) l) at (k i j o (omega (arith, one_more ticks t)))

-- ---- a link that keeps BAG and jitter can always pay

-- the account after the frames at ticks, none of which was policed: it is full, or none of its credit was cut off at B + J since frame j, after which d came
pub data Paid (v : VirtualLink) (ticks : List ℕ) (a : Account) : Type 0 where
  unused : length ticks ≡ 0 → bag v + v.jitter ≤ a.credit → Paid v ticks a
  used : (j d : ℕ) → suc (j + d) ≡ length ticks → v.jitter + a.tick ≤ a.credit + d * bag v + get_or ticks j 0 → Paid v ticks a

pub paid_start : (v : VirtualLink) → Paid v [] (full_account v)
paid_start v = unused refl (le_refl (bag v + v.jitter))

-- frame j of ticks, and the one at t
apart : (v : VirtualLink) (ticks : List ℕ) (t : ℕ) → KeepBagAndJitter v (ticks ++ (t ∷ [])) → (j d : ℕ) → suc (j + d) ≡ length ticks
    → get_or ticks j 0 + suc d * bag v ≤ t + v.jitter
unfolding KeepBagAndJitter
apart v ticks t k j d e =
    let n : j + suc d ≡ length ticks = omega arith in
    rw (get_or-append ticks (t ∷ []) 0 j (omega arith), n, get_or-append_seam ticks t [] 0) at (k j (suc d) (omega arith) (omega (arith, one_more ticks t)))

pub paid_covers : (v : VirtualLink) (ticks : List ℕ) (a : Account) (t : ℕ) → KeepBagAndJitter v (ticks ++ (t ∷ [])) → a.tick ≤ t → Paid v ticks a
    → bag v ≤ (replenished (bag v) v.jitter a t).credit
unfolding replenished
paid_covers v ticks a t k l (unused e c) = omega arith
paid_covers v ticks a t k l (used j d e c) = omega (arith, apart v ticks t k j d e)

pub paid_charged : (v : VirtualLink) (ticks : List ℕ) (a : Account) (t : ℕ) → a.tick ≤ t → bag v ≤ (replenished (bag v) v.jitter a t).credit → Paid v ticks a
    → Paid v (ticks ++ (t ∷ [])) (charged (bag v) (replenished (bag v) v.jitter a t))
unfolding replenished charged
paid_charged v ticks a t l c x = go x (dec_le (bag v + v.jitter) (a.credit + (t - a.tick)))
  where
    full : bag v + v.jitter ≤ a.credit + (t - a.tick) → Paid v (ticks ++ (t ∷ [])) (charged (bag v) (replenished (bag v) v.jitter a t))
    full h = used (length ticks) 0 (omega (arith, one_more ticks t)) (rw (get_or-append_seam ticks t [] 0) (omega arith))

    go : Paid v ticks a → Dec (bag v + v.jitter ≤ a.credit + (t - a.tick)) → Paid v (ticks ++ (t ∷ [])) (charged (bag v) (replenished (bag v) v.jitter a t))
    go x (yes h) = full h
    go (unused e m) (no h) = full (omega arith)
    go (used j d e m) (no h) = used j (suc d) (omega (arith, one_more ticks t)) (rw (get_or-append ticks (t ∷ []) 0 j (omega arith)) (omega arith))

-- ---- the frames that pass keep BAG and jitter

-- the account after the passed frames at ticks: B for each of the d frames after frame j, and the credit left, came from J and the ticks since j
pub record Spent (v : VirtualLink) (ticks : List ℕ) (a : Account) : Type 0 where
  pub keeping : KeepBagAndJitter v ticks
  pub owed : (j d : ℕ) → suc (j + d) ≡ length ticks → get_or ticks j 0 + d * bag v + a.credit ≤ v.jitter + a.tick

pub spent_start : (v : VirtualLink) → Spent v [] (full_account v)
unfolding KeepBagAndJitter
spent_start v = record { keeping = λ i j o l. absurd (omega arith); owed = λ j d e. absurd (omega arith) }

pub spent_policed : (v : VirtualLink) (ticks : List ℕ) (a : Account) (t : ℕ) → a.tick ≤ t → Spent v ticks a → Spent v ticks (replenished (bag v) v.jitter a t)
unfolding replenished
spent_policed v ticks a t l s = record { keeping = s.keeping; owed = λ j d e. omega (arith, s.owed j d e) }

pub spent_charged : (v : VirtualLink) (ticks : List ℕ) (a : Account) (t : ℕ) → a.tick ≤ t → bag v ≤ (replenished (bag v) v.jitter a t).credit → Spent v ticks a
    → Spent v (ticks ++ (t ∷ [])) (charged (bag v) (replenished (bag v) v.jitter a t))
unfolding replenished charged KeepBagAndJitter
spent_charged v ticks a t l c s = record { keeping = keeps; owed = owes }
  where
    owes : (j d : ℕ) → suc (j + d) ≡ length (ticks ++ (t ∷ [])) → get_or (ticks ++ (t ∷ [])) j 0 + d * bag v + (charged (bag v) (replenished (bag v) v.jitter a t)).credit ≤ v.jitter + t
    owes j zero e =
        let k : j ≡ length ticks = omega (arith, one_more ticks t) in
        rw (k, get_or-append_seam ticks t [] 0) (omega arith)
    owes j (suc d) e =
        rw (get_or-append ticks (t ∷ []) 0 j (omega (arith, one_more ticks t)))
        (omega (arith, s.owed j d (omega (arith, one_more ticks t))))

    keeps : (i j : ℕ) → 1 ≤ j → i + j < length (ticks ++ (t ∷ [])) → get_or (ticks ++ (t ∷ [])) i 0 + j * bag v ≤ get_or (ticks ++ (t ∷ [])) (i + j) 0 + v.jitter
    keeps i j o m = go (ℕ_discrete (i + j) (length ticks))
      where
        go : Dec (i + j ≡ length ticks) → get_or (ticks ++ (t ∷ [])) i 0 + j * bag v ≤ get_or (ticks ++ (t ∷ [])) (i + j) 0 + v.jitter
        go (yes k) = rw (k, get_or-append_seam ticks t [] 0) (omega (arith, owes i j (omega (arith, one_more ticks t))))
        go (no n) =
            rw (get_or-append ticks (t ∷ []) 0 i (omega (arith, one_more ticks t)), get_or-append ticks (t ∷ []) 0 (i + j) (omega (arith, one_more ticks t)))
            (s.keeping i j o (omega (arith, one_more ticks t)))
