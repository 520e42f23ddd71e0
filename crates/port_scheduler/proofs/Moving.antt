-- The loop of the advance by value: the progress of what its queues show, with the marks and the bytes freed.
use Rattle.std.specs.Prelude.{Option, Some, None}
use mathlib.Core.Path.{◌≡◌, refl, ap, ◌∙◌}
use mathlib.Core.List.{List, [], ◌∷◌, ◌++◌}
use Prim.Native.Nat.{ℕ, ◌+◌, ◌*◌, ◌≤◌, ◌<◌}
use native.Mathlib.Omega.{arith}
use lib.ListN.{length, get_or, take, drop, set}
use Rattle.model.specs.Units.{last_tick, occupied}
use Rattle.model.specs.Machine.{Advance, sending, at, advanced, head_of, frames_held}
use Rattle.model.specs.Report.{bytes_freed}
use Rattle.port_scheduler.specs.declared.Queue.{Queue}
use Rattle.port_scheduler.specs.declared.Sending.{Sending}
use Rattle.port_scheduler.specs.View.{blank_queue, view_queues, view_marks, view_sender}
use Rattle.port_scheduler.specs.Promised.{Ready, advance_from, Advanced}
use Rattle.port_scheduler.specs.Sending.{GoesOn, HeadGone}
use Rattle.port_scheduler.proofs.Shown.{length_shown, queue_count, gone_shown, marks_set}
use Rattle.port_scheduler.proofs.Progress.{Progress, at_start, over_idle, over_sending, whole_is, leaves, one_more}

pub record Moving (time : ℕ) (whole : Advance) (high : List ℕ) (all : ℕ) (list₀ : List ℕ) (qs : List Queue) (s : Option Sending) (m k b : ℕ) (list : List ℕ) : Type 0 where
  pub progress : Progress time whole all list₀ (view_queues qs) (view_sender s) m k list
  pub early : time ≤ last_tick
  pub marks : view_marks qs ≡ high
  -- the bytes of the whole are those freed so far and those of the advance from here
  pub sum : bytes_freed whole.departures ≡ b + bytes_freed (advance_from time m qs s).departures
  pub small : b ≤ 65535 * k

pub starts_moving : {qs : List Queue} {s : Option Sending} {m time : ℕ} {list₀ : List ℕ} → length qs ≡ 8 → Ready qs s m time (length list₀) →
    Moving time (advance_from time m qs s) (view_marks qs) (frames_held (view_queues qs)) list₀ qs s m 0 0 list₀
starts_moving {qs} n r =
    record {
      progress = at_start (length_shown qs ∙ n) r.few r.positive r.sender r.later r.room;
      early = r.early;
      marks = refl;
      sum = omega arith;
      small = omega arith;
    }

-- who sends, in the model; the code has its place among the queues
pub sends_from : {r : Option Sending} {z : Sending} {p : ℕ} → r ≡ Some z → p ≡ z.priority → view_sender r ≡ sending p z.start
sends_from e pe = ap view_sender e ∙ rw pe

module _ {time : ℕ} {whole : Advance} {high : List ℕ} {all : ℕ} {list₀ : List ℕ} {qs : List Queue} {s : Option Sending} {m k b : ℕ} {list : List ℕ}
    (f : Moving time whole high all list₀ qs s m k b list) {r : Option Sending} (g : GoesOn (view_queues qs) (view_sender s) m time (view_sender r)) where
  ends_here : advance_from time m qs s ≡ advanced [] (at time (view_queues qs) (view_sender r)) → Advanced whole high list₀ list (record { queues = qs; sender = r; frames = k; bytes = b })
  unfolding bytes_freed
  ends_here e =
      let p = f.progress in
      let x : bytes_freed (advance_from time m qs s).departures ≡ 0 = ap (λ (a : Advance). bytes_freed a.departures) e in
      let y : b ≡ bytes_freed whole.departures = omega (arith, f.sum) in
      let w = whole_is p g e in
      record {
        queues = rw w;
        marks = f.marks;
        sender = rw w;
        frames = rw w p.count;
        bytes = y;
        list = rw (w, ← p.count) p.listing;
        eight = rw length_shown at p.eight;
        few = λ q h. rw (← queue_count qs q) (p.few q);
      }

  pub ends_idle : r ≡ None → Advanced whole high list₀ list (record { queues = qs; sender = r; frames = k; bytes = b })
  ends_idle e = ends_here (over_idle f.progress g (ap view_sender e))

  module _ {z : Sending} (e : r ≡ Some z) {p : ℕ} (pe : p ≡ z.priority) {len : ℕ} (le : len ≡ (head_of (view_queues qs) p).length) where
    pub ends_sending : time < z.start + len → Advanced whole high list₀ list (record { queues = qs; sender = Some z; frames = k; bytes = b })
    ends_sending h = rw e at (ends_here (over_sending f.progress g (sends_from e pe) le h))

    pub one_moved : {n c : ℕ} → n ≡ (head_of (view_queues qs) p).number → c ≡ occupied len → c ≤ 65535 → z.start + len ≤ time → {rest : Queue} → HeadGone (get_or qs p blank_queue) rest →
        {list' : List ℕ} → list' ≡ take (3 * k) list ++ (n ∷ len ∷ (z.start + len) ∷ drop (3 * k + 3) list) → length list' ≡ length list →
        Moving time whole high all list₀ (set qs p rest) None (z.start + len) (k + 1) (b + c) list'
    unfolding bytes_freed
    one_moved {n} {c} ne ce few h {rest} hg {list'} q sl =
        let x = ap (λ (a : Advance). bytes_freed a.departures) (leaves f.progress g (sends_from e pe) le h) in
        record {
          progress = one_more f.progress g (sends_from e pe) le ne h (gone_shown qs p hg) q sl;
          early = f.early;
          marks = marks_set qs p rest hg.mark ∙ f.marks;
          sum = rw (gone_shown qs p hg, ce, le) (omega (arith, f.sum, x));
          small = omega (arith, f.small);
        }
