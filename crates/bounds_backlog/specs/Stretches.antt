-- Stretches of windows in which no link's number of frames changes.
use Rattle.std.specs.Prelude.{◌≡◌, Bool, true, List, ℕ, ◌+◌, ◌-◌, ◌≤◌, ◌<◌, min, get_or}
use Rattle.model.specs.Link.{VirtualLink, link_at}
use Rattle.model.specs.Table.{Table}
use Rattle.model.specs.Arrival.{frame_curve}
use Rattle.model.specs.Bounds.{longest, blocking}
use Rattle.model.specs.Promises.{IsHold}
use Rattle.table.specs.declared.VirtualLink.{VirtualLink as LinkFields}
use Rattle.table.specs.View.{view_link}
use Rattle.bounds_arrivals.specs.Loads.{between, flow}
use Rattle.bounds_backlog.specs.declared.Search.{Search}
use Rattle.bounds_backlog.specs.declared.Stretch.{Stretch}
use Rattle.bounds_backlog.specs.declared.Peak.{Peak}
use Rattle.bounds_backlog.specs.Peaks.{Bends, Highest}

-- N_v is the same from w to last, if v is of the set
abbrev pub Stays : (VirtualLink → Bool) → VirtualLink → ℕ → ℕ → Type 0
Stays set v w last = set v ≡ true → (k : ℕ) → w ≤ k → k ≤ last → frame_curve v k ≡ frame_curve v w

-- the link has as many frames up to r as in a window of w, provided it is of priority 0 to high
pub record LinkSteady (l : LinkFields) (high w r : ℕ) : Type 0 where
  pub past : w ≤ r
  pub stays : (number : ℕ) → Stays (between 0 high) (view_link number l) w r

-- so it is of the first n links
abbrev pub Steady : (VirtualLink → Bool) → List VirtualLink → ℕ → ℕ → ℕ → Type 0
Steady set links n w last = (i : ℕ) → i < n → Stays set (link_at links i) w last

-- "the smaller of A_p(w) and A_up(w) − max(0, w − b) + M − 1", by the loads of a stretch; what has left may be that of another window
unfoldable pub backlog_by : Stretch → ℕ → ℕ → ℕ
backlog_by s w sent = min (flow s.own s.lines w) (flow s.up s.lines w - (sent - s.blocking) + s.longest - 1)

abbrev pub backlog_in : Stretch → ℕ → ℕ
backlog_in s w = backlog_by s w w

-- what the search for the bound of a priority starts from: the hold is last + 1
pub record Given (t : Table) (s : Search) : Type 0 where
  pub blocking_is : s.blocking ≡ blocking t s.priority
  pub longest_is : s.longest ≡ longest t s.priority
  pub some_link : 1 ≤ s.longest
  pub longest_most : s.longest ≤ 1_538
  pub is_hold : IsHold t s.priority (s.last + 1)

-- sums over its loads fit
pub record SumsFit (s : Stretch) : Type 0 where
  pub lines_most : s.lines ≤ 24
  pub some_link : 1 ≤ s.longest
  pub longest_most : s.longest ≤ 1_538
  pub own_most : (k : ℕ) → k < 24 → get_or s.own.tops k 0 ≤ 1_538
  pub up_most : (k : ℕ) → k < 24 → get_or s.up.tops k 0 ≤ 1_538

pub record Steep (s : Stretch) : Type 0 where
  pub sized : SumsFit s
  pub order : s.start ≤ s.last
  pub last_most : s.last ≤ 65_535
  pub bends : Bends (backlog_in s) s.start s.last

-- a stretch from w on, by last, on which its backlog is g
pub record Stretched (g : ℕ → ℕ) (w last : ℕ) (s : Stretch) : Type 0 where
  pub start_is : s.start ≡ w
  pub within : s.last ≤ last
  pub steep : Steep s
  pub same : (k : ℕ) → s.start ≤ k → k ≤ s.last → backlog_in s k ≡ g k

-- the better of two, the first where they are equal
pub record Raised (best : Peak) (v k : ℕ) (r : Peak) : Type 0 where
  pub new : best.backlog < v → r ≡ record { backlog = v; window = k }
  pub old : v ≤ best.backlog → r ≡ best

-- the greatest over the windows before the stretch becomes the greatest over those up to its end
pub record Improved (s : Stretch) (best r : Peak) : Type 0 where
  pub lift : (g : ℕ → ℕ) → ((k : ℕ) → s.start ≤ k → k ≤ s.last → backlog_in s k ≡ g k)
      → Highest g s.start best.backlog best.window → Highest g (s.last + 1) r.backlog r.window
