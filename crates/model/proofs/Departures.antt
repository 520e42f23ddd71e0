-- When frames leave: after their length and within their hold; and two departures are a length apart.
use mathlib.Core.Path.{◌≡◌, refl, sym, ap, ◌∙◌}
use mathlib.Core.Bool.{Bool, true, false, cond}
use mathlib.Core.Option.{Option, none, some}
use mathlib.Core.List.{List, [], ◌∷◌, ◌++◌, append-nil, append_assoc}
use Prim.Native.Nat.{ℕ, zero, suc, ◌+◌, ◌-◌, ◌≤◌, ◌<◌}
use native.Mathlib.Nat.{le_refl}
use native.Mathlib.Omega.{arith}
use lib.Dec.{eqb}
use borrow.Author.Tests.{eq-eqb, eqb-true}
use lib.ListN.{length, get_or}
use Rattle.model.specs.Basics.{Each}
use Rattle.model.specs.Table.{Table}
use Rattle.model.specs.Bounds.{hold}
use Rattle.model.specs.Machine.{Frame, Sender, idle, sending, Scheduler, Departure, Advance, blank_frame, queue_of, head_of, highest_waiting, start_if_any, started, departure, freed_if, byte_leaves, tick, ticks, advance}
use Rattle.model.specs.Run.{without, without_all, has_priority, only}
use Rattle.model.specs.Promises.{oldest, Leaving, Spaced, over, next}
use Rattle.model.proofs.Queues.{each_head}
use Rattle.model.proofs.BusyPeriod.{Under, SendsInTime, Meets, Sound}
use Rattle.model.proofs.BusySteps.{begins, tick_sound}
use Rattle.model.proofs.Ledger.{Booked, only_head, same_number, tick_booked}

pub leaving_append : {t : Table} (l : List Frame) (a b : List Departure) → Leaving t l a → Leaving t (without_all a l) b → Leaving t l (a ++ b)
unfolding without_all
leaving_append l [] b over y = y
leaving_append l (d ∷ a) b (next p f o i e g h r) y = next p f o i e g h (leaving_append (without d.number l) a b r y)

oldest_only : (test : Frame → Bool) (n : ℕ) (l : List Frame) → ((f : Frame) → f.number ≡ n → test f ≡ true) → oldest n (only test l) ≡ oldest n l
unfolding oldest only
oldest_only test n [] h = refl
oldest_only test n (f ∷ l) h = go (test f) refl (eqb f.number n) refl (oldest_only test n l h)
  where
    go : (x : Bool) → test f ≡ x → (y : Bool) → eqb f.number n ≡ y → oldest n (only test l) ≡ oldest n l
        → oldest n (cond x (f ∷ only test l) (only test l)) ≡ cond y (some f) (oldest n l)
    go true e true i ih = rw i
    go true e false i ih = rw i ih
    go false e true i ih = absurd (let z : ◌≡◌ {A = ℕ} 0 1 = let w : true ≡ false = sym (h f (eqb-true f.number n i)) ∙ e in cc in omega arith)
    go false e false i ih = ih

oldest_head : (q : List Frame) → 0 < length q → oldest (get_or q 0 blank_frame).number q ≡ some (get_or q 0 blank_frame)
unfolding oldest
oldest_head [] k = absurd (omega arith)
oldest_head (f ∷ l) k = rw (eq-eqb f.number f.number refl)

module _ (t : Table) (l : List Frame) where
  -- every waiting frame is within its hold
  abbrev InTime : Scheduler → Type 0
  InTime st = (p : ℕ) → p < 8 → Each (λ f. st.clock < f.arrival + hold t p) (queue_of st.queues p)

  leaves_leaving : (c : ℕ) (qs : List (List Frame)) (q s : ℕ) → length qs ≡ 8 → Under c qs q s → Booked t l qs → ((p : ℕ) → p < 8 → Each (λ f. c < f.arrival + hold t p) (queue_of qs p))
      → Leaving t l (byte_leaves c qs (sending q s)).departures
  unfolding byte_leaves freed_if
  leaves_leaving c qs q s n u b e = go (eqb (s + (head_of qs q).length) (suc c)) refl
    where
      in8 : q < 8
      in8 = omega (arith, u.in_range)

      of_q : has_priority t q (head_of qs q) ≡ true
      of_q = only_head (has_priority t q) l (queue_of qs q) (b.books q in8) u.waits

      the_oldest : oldest (head_of qs q).number l ≡ some (head_of qs q)
      the_oldest =
          sym (oldest_only (has_priority t q) (head_of qs q).number l (λ f i. same_number t q f (head_of qs q) (sym i) ∙ of_q))
          ∙ ap (oldest (head_of qs q).number) (b.books q in8) ∙ oldest_head (queue_of qs q) u.waits

      go : (x : Bool) → eqb (s + (head_of qs q).length) (suc c) ≡ x
          → Leaving t l (freed_if x c qs q s).departures
      go true x =
          next {frames = l} {d = departure (head_of qs q) (suc c)} q (head_of qs q) of_q the_oldest refl
          (omega (arith, u.arrived, eqb-true (s + (head_of qs q).length) (suc c) x)) (each_head (e q in8) u.waits) over
      go false x = over

  wakes_leaving : (limit : ℕ → ℕ) (c : ℕ) (qs : List (List Frame)) (o : Option ℕ) → highest_waiting qs ≡ o → length qs ≡ 8 → ((j : ℕ) → Each (Meets (limit j) c) (queue_of qs j)) → Booked t l qs
      → ((p : ℕ) → p < 8 → Each (λ f. c < f.arrival + hold t p) (queue_of qs p)) → Leaving t l (byte_leaves c qs (start_if_any c o)).departures
  unfolding byte_leaves freed_if start_if_any
  wakes_leaving limit c qs none x n m b e = over
  wakes_leaving limit c qs (some q) x n m b e = leaves_leaving c qs q c n (begins limit c qs q m x) b e

  pub tick_leaving : (limit : ℕ → ℕ) (st : Scheduler) → Sound limit st → Booked t l st.queues → InTime st → Leaving t l (tick st).departures
  unfolding tick started SendsInTime
  tick_leaving limit st k b e = go st.sender k.sends
    where
      go : (z : Sender) → SendsInTime st.clock st.queues z → Leaving t l (byte_leaves st.clock st.queues (started st.clock st.queues z)).departures
      go idle m = wakes_leaving limit st.clock st.queues (highest_waiting st.queues) refl k.eight k.frames b e
      go (sending q s) m = leaves_leaving st.clock st.queues q s k.eight m.1 b e

-- whatever P keeps, if it makes a scheduler sound and every frame within its hold
pub ticks_leaving : (t : Table) (limit : ℕ → ℕ) (P : Scheduler → Type 0) → ((s : Scheduler) → P s → P (tick s).scheduler) → ((s : Scheduler) → P s → Sound limit s)
    → ((s : Scheduler) → P s → (p : ℕ) → p < 8 → Each (λ f. s.clock < f.arrival + hold t p) (queue_of s.queues p))
    → (k : ℕ) (l : List Frame) (s : Scheduler) → P s → Booked t l s.queues → Leaving t l (ticks k s).departures
unfolding ticks
ticks_leaving t limit P one sound in_time zero l s x b = over
ticks_leaving t limit P one sound in_time (suc k) l s x b =
    leaving_append l (tick s).departures (ticks k (tick s).scheduler).departures (tick_leaving t l limit s (sound s x) b (in_time s x))
    (ticks_leaving t limit P one sound in_time k (without_all (tick s).departures l) (tick s).scheduler (one s x) (tick_booked t limit l s (sound s x) b))

-- ---- two departures are a length apart
-- the sender is free from last on
unfoldable pub FreeFrom : ℕ → ℕ → Sender → Type 0
FreeFrom last c idle = last ≤ c
FreeFrom last c (sending q s) = last ≤ s

pub record Spacing (last : ℕ) (r : Advance) : Type 0 where
  pub final : ℕ
  pub spaced : (ds : List Departure) → Spaced final ds → Spaced last (r.departures ++ ds)
  pub free : FreeFrom final r.scheduler.clock r.scheduler.sender

leaves_apart : (last c : ℕ) (qs : List (List Frame)) (q s : ℕ) → last ≤ s → Under c qs q s → Spacing last (byte_leaves c qs (sending q s))
unfolding byte_leaves freed_if FreeFrom
leaves_apart last c qs q s l u = go (eqb (s + (head_of qs q).length) (suc c)) refl
  where
    go : (x : Bool) → eqb (s + (head_of qs q).length) (suc c) ≡ x → Spacing last (freed_if x c qs q s)
    go true x =
        record { final = suc c; spaced = λ ds y. next {last = last} {d = departure (head_of qs q) (suc c)} (omega (arith, eqb-true (s + (head_of qs q).length) (suc c) x)) y; free = le_refl (suc c) }
    go false x = record { final = last; spaced = λ ds y. y; free = l }

wakes_apart : (limit : ℕ → ℕ) (last c : ℕ) (qs : List (List Frame)) (o : Option ℕ) → highest_waiting qs ≡ o → ((j : ℕ) → Each (Meets (limit j) c) (queue_of qs j)) → last ≤ c → Spacing last (byte_leaves c qs (start_if_any c o))
unfolding byte_leaves freed_if start_if_any FreeFrom
wakes_apart limit last c qs none x m l = record { final = last; spaced = λ ds y. y; free = omega arith }
wakes_apart limit last c qs (some q) x m l = leaves_apart last c qs q c l (begins limit c qs q m x)

pub tick_apart : (limit : ℕ → ℕ) (last : ℕ) (st : Scheduler) → Sound limit st → FreeFrom last st.clock st.sender → Spacing last (tick st)
unfolding tick started SendsInTime FreeFrom
tick_apart limit last st k f = go st.sender k.sends f
  where
    go : (z : Sender) → SendsInTime st.clock st.queues z → FreeFrom last st.clock z → Spacing last (byte_leaves st.clock st.queues (started st.clock st.queues z))
    go idle m f = wakes_apart limit last st.clock st.queues (highest_waiting st.queues) refl k.frames f
    go (sending q s) m f = leaves_apart last st.clock st.queues q s f m.1

pub ticks_apart : (limit : ℕ → ℕ) (k last : ℕ) (st : Scheduler) → Sound limit st → FreeFrom last st.clock st.sender → Spacing last (ticks k st)
unfolding ticks
ticks_apart limit zero last st x f = record { final = last; spaced = λ ds y. y; free = f }
ticks_apart limit (suc k) last st x f =
    let a = tick_apart limit last st x f in
    let b = ticks_apart limit k a.final (tick st).scheduler (tick_sound limit st x) a.free in
    record { final = b.final; spaced = λ ds y. rw append_assoc (a.spaced ((ticks k (tick st).scheduler).departures ++ ds) (b.spaced ds y)); free = b.free }

-- of the departures of one advance
pub advance_apart : (limit : ℕ → ℕ) (time last : ℕ) (st : Scheduler) → Sound limit st → FreeFrom last st.clock st.sender → Spaced last (advance time st).departures
unfolding advance
advance_apart limit time last st x f = rw append-nil at ((ticks_apart limit (time - st.clock) last st x f).spaced [] over)
