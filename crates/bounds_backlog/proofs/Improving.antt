-- The greatest backlog so far, improved by a stretch.
use mathlib.Core.Path.{◌≡◌, ◌∙◌}
use Prim.Native.Nat.{ℕ, ◌+◌, ◌-◌, ◌≤◌, min}
use native.Mathlib.Decide.{dec_le}
use native.Mathlib.Omega.{arith}
use Rattle.model.proofs.Curves.{sum_to_mono}
use Rattle.bounds_arrivals.specs.declared.Loads.{Loads}
use Rattle.bounds_arrivals.specs.Loads.{flow}
use Rattle.bounds_backlog.specs.declared.Stretch.{Stretch}
use Rattle.bounds_backlog.specs.declared.Peak.{Peak}
use Rattle.bounds_backlog.specs.Peaks.{Crest, Highest}
use Rattle.bounds_backlog.specs.Stretches.{backlog_by, backlog_in, Raised, Improved}
use Rattle.bounds_backlog.proofs.Bending.{crest_of}
use Rattle.bounds_backlog.proofs.Highest.{highest_new, highest_old, highest_same}

-- as the code computes it
pub backlog_is : (s : Stretch) (w sent r a u x y : ℕ) → a ≡ flow s.own s.lines w → u ≡ flow s.up s.lines w → x ≡ sent - s.blocking → y ≡ u - x
    → r ≡ min a (y + s.longest - 1) → r ≡ backlog_by s w sent
unfolding backlog_by
backlog_is s w sent r a u x y p q e f g = rw (g, f, e, q, p)

-- by the first greatest value of the stretch
pub improved_by : (s : Stretch) (k v : ℕ) (best r : Peak) → Crest (backlog_in s) s.start s.last k → v ≡ backlog_in s k → Raised best v k r → Improved s best r
improved_by s k v best r c q x = record { lift = λ g i h. go g (crest_of (backlog_in s) s.start s.last g i k c) (q ∙ i k c.from c.until) h (dec_le v best.backlog) }
  where
    go : (g : ℕ → ℕ) → Crest g s.start s.last k → v ≡ g k → Highest g s.start best.backlog best.window → Dec (v ≤ best.backlog)
        → Highest g (s.last + 1) r.backlog r.window
    go g d j h (yes y) = rw (x.old y) (highest_old g s.start s.last best.backlog best.window k h d (omega arith))
    go g d j h (no y) = rw (x.new (omega arith), j) (highest_new g s.start s.last best.backlog best.window k h d (omega arith))

-- ---- the cap
flow_grows : (l : Loads) (lines k j : ℕ) → k ≤ j → flow l lines k ≤ flow l lines j
unfolding flow
flow_grows l lines k j h = sum_to_mono _ _ lines (λ ℓ _. omega arith)

net_grows : (u x d y m : ℕ) → u ≤ x → y ≤ d → u - d + m - 1 ≤ x - y + m - 1
net_grows u x d y m h k = omega arith

min_grows : (a x c y : ℕ) → a ≤ x → c ≤ y → min a c ≤ min x y
min_grows a x c y h k = omega arith

-- by growth alone: the arrivals at the last window, less what has left by the first
cap_holds : (s : Stretch) (k : ℕ) → s.start ≤ k → k ≤ s.last → backlog_in s k ≤ backlog_by s s.last s.start
unfolding backlog_by
cap_holds s k h l =
    min_grows _ _ _ _ (flow_grows s.own s.lines k s.last l)
    (net_grows _ _ (k - s.blocking) (s.start - s.blocking) s.longest (flow_grows s.up s.lines k s.last l) (omega arith))

pub improved_not : (s : Stretch) (cap : ℕ) (best : Peak) → s.start ≤ s.last → cap ≡ backlog_by s s.last s.start → cap ≤ best.backlog → Improved s best best
improved_not s cap best l p q =
    record {
      lift =
          λ g i h.
          highest_same g s.start s.last best.backlog best.window l (λ k x y. omega (arith, i k x y, cap_holds s k x y)) h;
    }
