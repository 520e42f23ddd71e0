-- Who sends from a tick on, case by case.
use Rattle.std.specs.Prelude.{Option as OptionOf, Some, None, Bool, true, false, is_some, ◌⊎◌}
use Rattle.std.specs.List.{AllWithin, HoldsAt}
use Rattle.std.proofs.lemmas.Bool.{false≢true}
use mathlib.Core.Logic.{inl, inr}
use mathlib.Core.Path.{◌≡◌, refl, sym, ◌∙◌}
use mathlib.Core.Option.{Option, none, some}
use mathlib.Core.List.{List, [], ◌∷◌}
use Prim.Native.Nat.{ℕ, zero, suc, ◌≤◌, ◌<◌}
use native.Mathlib.Nat.{le_refl}
use native.Mathlib.Omega.{arith}
use lib.ListN.{length}
use Rattle.model.specs.Basics.{further}
use Rattle.model.specs.Machine.{Frame, Sender, idle, sending, queue_of, highest_waiting, start_if_any}
use Rattle.model.proofs.Queues.{waiting_some, each_head}
use Rattle.model.proofs.FrameByFrame.{nothing_waits, time_up, starting}
use Rattle.port_scheduler.specs.declared.Queue.{Queue}
use Rattle.port_scheduler.specs.declared.Sending.{Sending}
use Rattle.port_scheduler.specs.View.{blank_queue, view_queues, view_sender}
use Rattle.port_scheduler.specs.Sending.{Sends, Positive, GoesOn}
use Rattle.port_scheduler.proofs.Shown.{length_shown, queue_count}

-- ---- the highest waiting priority
empty_queue_lem : (l : List Frame) → length l ≡ 0 → l ≡ []
empty_queue_lem [] e = refl
empty_queue_lem (f ∷ l) e = absurd (omega arith)

pub waits_at : (qs : List (List Frame)) (i : ℕ) → i < length qs → ((j : ℕ) → j < i → length (queue_of qs j) ≡ 0) → 0 < length (queue_of qs i) → highest_waiting qs ≡ some i
unfolding highest_waiting further
waits_at [] i h e w = absurd (omega arith)
waits_at ([] ∷ qs) zero h e w = absurd (omega arith)
waits_at ((f ∷ l) ∷ qs) zero h e w = refl
waits_at ([] ∷ qs) (suc i) h e w = rw (waits_at qs i (omega arith) (λ j k. e (suc j) (omega arith)) w)
waits_at ((f ∷ l) ∷ qs) (suc i) h e w = absurd (omega (arith, e 0 (omega arith)))

pub waits_nowhere : (qs : List (List Frame)) → ((j : ℕ) → j < length qs → length (queue_of qs j) ≡ 0) → highest_waiting qs ≡ none
unfolding highest_waiting further
waits_nowhere [] e = refl
waits_nowhere ([] ∷ qs) e = rw (waits_nowhere qs (λ j k. e (suc j) (omega arith)))
waits_nowhere ((f ∷ l) ∷ qs) e = absurd (omega (arith, e 0 (omega arith)))

module _ (m : ℕ) (qs : List (List Frame)) where
  pub starts_at : {i : ℕ} → highest_waiting qs ≡ some i → sending i m ≡ start_if_any m (highest_waiting qs)
  unfolding start_if_any
  starts_at e = rw e

  pub starts_nowhere : highest_waiting qs ≡ none → idle ≡ start_if_any m (highest_waiting qs)
  unfolding start_if_any
  starts_nowhere e = rw e

-- ---- the sender
module _ (qs : List (List Frame)) (m t : ℕ) where
  pub stays : {s : Sender} (p start : ℕ) → s ≡ sending p start → Sends qs s m → GoesOn qs s m t s
  stays p start e x = record { same = refl; sends = x; over = λ i. absurd (let z : ◌≡◌ {A = ℕ} 0 1 = cc in omega arith) }

  pub time_over : {s : Sender} → s ≡ idle → t ≤ m → m ≤ t → GoesOn qs s m t idle
  time_over e h k = let g : m ≡ t = omega arith in record { same = rw e; sends = tt; over = λ i. rw g (time_up t qs idle) }

  -- nobody starts: one sends, or time is up
  pub no_start : (s : OptionOf Sending) {b : Bool} → b ≡ is_some s → ((b ≡ true) ⊎ ((b ≡ false) × (t ≤ m))) → Sends qs (view_sender s) m → m ≤ t → GoesOn qs (view_sender s) m t (view_sender s)
  no_start (Some s) e o x k = stays s.priority s.start refl x
  no_start None e (inl b) x k = absurd (false≢true (sym e ∙ b))
  no_start None e (inr o) x k = time_over refl o.1 k

  nobody : highest_waiting qs ≡ none → m ≤ t → GoesOn qs idle m t idle
  nobody e h = record { same = refl; sends = tt; over = λ i. nothing_waits t m qs e h }

  somebody : (p : ℕ) → highest_waiting qs ≡ some p → length qs ≡ 8 → Positive qs → m < t → GoesOn qs idle m t (sending p m)
  somebody p e n k h =
      let w = waiting_some qs p e in
      record {
        same = starting t m p qs e h;
        sends = record { in_range = omega (arith, w.in_range); waits = w.waits; began = le_refl m; ends = omega (arith, each_head (k p) w.waits) };
        over = λ i. absurd (let z : ◌≡◌ {A = ℕ} 0 1 = cc in omega arith);
      }

  starts_any : (o : Option ℕ) → highest_waiting qs ≡ o → length qs ≡ 8 → Positive qs → m < t → GoesOn qs idle m t (start_if_any m o)
  unfolding start_if_any
  starts_any none e n k h = nobody e (omega arith)
  starts_any (some p) e n k h = somebody p e n k h

  pub starts : {s r : Sender} → s ≡ idle → r ≡ start_if_any m (highest_waiting qs) → length qs ≡ 8 → Positive qs → m < t → GoesOn qs s m t r
  starts e x n k h = rw (e, x) (starts_any (highest_waiting qs) refl n k h)

  -- nobody sends, and whoever waits starts
  pub starts_if : (s : OptionOf Sending) → is_some s ≡ false → {r : Sender} → r ≡ start_if_any m (highest_waiting qs) → length qs ≡ 8 → Positive qs → m < t → GoesOn qs (view_sender s) m t r
  starts_if None e x n k h = starts refl x n k h
  starts_if (Some s) e x n k h = absurd (false≢true (sym e))

-- ---- the search for it
module _ (qs : List Queue) (m : ℕ) where
  pub starts_here : (i : ℕ) → (i < length qs) × HoldsAt (λ (q : Queue). 0 < q.count) qs i × AllWithin (λ (q : Queue). q.count ≡ 0) qs 0 i → sending i m ≡ start_if_any m (highest_waiting (view_queues qs))
  starts_here i h =
      starts_at m (view_queues qs)
      (waits_at (view_queues qs) i (rw length_shown h.0) (λ j k. queue_count qs j ∙ h.2 j blank_queue (omega arith) k) (rw queue_count (h.1 blank_queue)))

  pub starts_none : AllWithin (λ (q : Queue). q.count ≡ 0) qs 0 (length qs) → idle ≡ start_if_any m (highest_waiting (view_queues qs))
  starts_none h =
      starts_nowhere m (view_queues qs)
      (waits_nowhere (view_queues qs) (λ j k. queue_count qs j ∙ h j blank_queue (omega arith) (rw length_shown at k)))
