-- A tick, many ticks, an arrival: each keeps the scheduler sound and every level.
use mathlib.Core.Path.{◌≡◌, refl}
use mathlib.Core.Logic.{inl, inr}
use mathlib.Core.Bool.{Bool, true, false}
use mathlib.Core.Option.{Option, none, some}
use mathlib.Core.List.{List, [], ◌∷◌, ◌++◌}
use Prim.Native.Nat.{ℕ, zero, suc, ◌+◌, ◌-◌, ◌≤◌, ◌<◌, min}
use native.Mathlib.Nat.{le_refl}
use native.Mathlib.Decide.{ℕ_discrete}
use native.Mathlib.Omega.{arith}
use lib.Dec.{eqb, leb}
use borrow.Author.Tests.{eqb-false}
use lib.ListN.{length, length-set, length-append, get_or-append}
use lib.Seq.{get_or-set_same, get_or-set_other}
use Rattle.model.specs.Basics.{provided, Each}
use Rattle.model.specs.Units.{occupied}
use Rattle.model.specs.Machine.{Frame, Sender, idle, sending, Scheduler, at, blank_frame, queue_of, head_of, queued_last, highest_waiting, start_if_any, started, freed_if, byte_leaves, tick, ticks, stored}
use Rattle.model.proofs.Queues.{each_map, each_head, up, up_none, Waits, waiting_some, waiting_none}
use Rattle.model.proofs.BusyPeriod.{Under, SendsInTime, Meets, Sound, part, Before, Level, pop_length, pop_each, put_each, put_each_up, put_bytes, put_up, over, sent}

meets_later : (limit c : ℕ) (f : Frame) → Meets limit c f → Meets limit (suc c) f
meets_later limit c f m = record { positive = m.positive; short = m.short; past = omega (arith, m.past) }

-- a frame that started is under way
pub begins : (limit : ℕ → ℕ) (c : ℕ) (qs : List (List Frame)) (q : ℕ) → ((j : ℕ) → Each (Meets (limit j) c) (queue_of qs j)) → highest_waiting qs ≡ some q → Under c qs q c
begins limit c qs q e x =
    let w : Waits qs q = waiting_some qs q x in
    let m : Meets (limit q) c (head_of qs q) = each_head (e q) w.waits in
    record { in_range = w.in_range; waits = w.waits; started = le_refl c; ends = omega (arith, m.positive); arrived = m.past }

module _ (limit : ℕ → ℕ) where
  leaves_sound : (c : ℕ) (qs : List (List Frame)) (q t : ℕ) → length qs ≡ 8 → ((j : ℕ) → Each (Meets (limit j) c) (queue_of qs j)) → Under c qs q t
      → Sound limit (byte_leaves c qs (sending q t)).scheduler
  unfolding byte_leaves freed_if SendsInTime
  leaves_sound c qs q t n e m = go (eqb (t + (head_of qs q).length) (suc c)) refl
    where
      go : (x : Bool) → eqb (t + (head_of qs q).length) (suc c) ≡ x
          → Sound limit (freed_if x c qs q t).scheduler
      go true x =
          record {
            eight = rw pop_length n;
            frames = λ j. each_map (meets_later (limit j) c) (pop_each (λ i. Meets (limit i) c) qs q m.in_range e j);
            sends = tt;
          }
      go false x =
          let k : ¬ (t + (head_of qs q).length ≡ suc c) = eqb-false (t + (head_of qs q).length) (suc c) x in
          record {
            eight = n;
            frames = λ j. each_map (meets_later (limit j) c) (e j);
            sends = (omega (arith, m.started), record { in_range = m.in_range; waits = m.waits; started = omega (arith, m.started); ends = omega (arith, m.ends); arrived = m.arrived });
          }

  quiet_sound : (c : ℕ) (qs : List (List Frame)) → length qs ≡ 8 → ((j : ℕ) → Each (Meets (limit j) c) (queue_of qs j)) → Sound limit (at (suc c) qs idle)
  unfolding SendsInTime
  quiet_sound c qs n e = record { eight = n; frames = λ j. each_map (meets_later (limit j) c) (e j); sends = tt }

  wakes_sound : (c : ℕ) (qs : List (List Frame)) → length qs ≡ 8 → ((j : ℕ) → Each (Meets (limit j) c) (queue_of qs j)) → (o : Option ℕ) → highest_waiting qs ≡ o
      → Sound limit (byte_leaves c qs (start_if_any c o)).scheduler
  unfolding byte_leaves freed_if start_if_any
  wakes_sound c qs n e none x = quiet_sound c qs n e
  wakes_sound c qs n e (some q) x = leaves_sound c qs q c n e (begins limit c qs q e x)

  pub tick_sound : (st : Scheduler) → Sound limit st → Sound limit (tick st).scheduler
  unfolding tick started SendsInTime
  tick_sound st k = go st.sender k.sends
    where
      go : (z : Sender) → SendsInTime st.clock st.queues z → Sound limit (byte_leaves st.clock st.queues (started st.clock st.queues z)).scheduler
      go idle m = wakes_sound st.clock st.queues k.eight k.frames (highest_waiting st.queues) refl
      go (sending q t) m = leaves_sound st.clock st.queues q t k.eight k.frames m.1

  -- ---- one level, one tick
  module _ (p b hold : ℕ) (X Y A : ℕ → ℕ) (lower : (q : ℕ) → p < q → limit q ≤ suc b) (g : b + A (hold - 1) ≤ hold) where
    pub tick_level : (st : Scheduler) → Sound limit st → ((s : ℕ) → s ≤ st.clock → X s ≤ A (st.clock - s)) → Level p b hold X Y st → Level p b hold X Y (tick st).scheduler
    unfolding tick started SendsInTime part Before byte_leaves freed_if start_if_any
    tick_level st k a l = go st.sender refl
      where
        go : (z : Sender) → st.sender ≡ z → Level p b hold X Y (byte_leaves st.clock st.queues (started st.clock st.queues st.sender)).scheduler
        go idle e = rw e (wake (highest_waiting st.queues) refl)
          where
            work : up p st.queues + (st.clock - l.s) ≤ X l.s + 0 + min (st.clock - l.s) b
            work = rw e at l.work

            wake : (o : Option ℕ) → highest_waiting st.queues ≡ o → Level p b hold X Y (byte_leaves st.clock st.queues (start_if_any st.clock o)).scheduler
            wake none x =
                over p b hold X Y A limit st.clock (suc st.clock) st.queues idle (omega (arith, l.busy)) k.frames (up_none p st.queues (λ q _. waiting_none st.queues x q)) tt
            wake (some q) x =
                sent p b hold X Y A limit lower g st.clock l.s st.queues q st.clock (begins limit st.clock st.queues q k.frames x)
                k.frames l.since l.busy (a l.s l.since) l.recent (omega (arith, work)) l.own
                (λ i. inr (up_none p st.queues (λ j n. (waiting_some st.queues q x).above j (omega arith))))
        go (sending q t) e =
            let m : (t < st.clock) × Under st.clock st.queues q t = rw e at k.sends in
            let d : p < q → t < l.s = rw e at l.before in
            rw e
            (sent p b hold X Y A limit lower g st.clock l.s st.queues q t m.1 k.frames l.since l.busy (a l.s l.since) l.recent
            (rw e at l.work) l.own (λ i. inl (d i)))

-- ---- many ticks
pub leaves_clock : (m : ℕ) (qs : List (List Frame)) (z : Sender) → (byte_leaves m qs z).scheduler.clock ≡ suc m
unfolding byte_leaves freed_if
leaves_clock m qs idle = refl
leaves_clock m qs (sending p b) = go (eqb (b + (head_of qs p).length) (suc m))
  where
    go : (x : Bool) → (freed_if x m qs p b).scheduler.clock ≡ suc m
    go true = refl
    go false = refl

pub tick_clock : (st : Scheduler) → (tick st).scheduler.clock ≡ suc st.clock
unfolding tick
tick_clock st = leaves_clock st.clock st.queues (started st.clock st.queues st.sender)

pub ticks_clock : (k : ℕ) (s : Scheduler) → (ticks k s).scheduler.clock ≡ s.clock + k
unfolding ticks
ticks_clock zero s = omega arith
ticks_clock (suc k) s = omega (arith, ticks_clock k (tick s).scheduler, tick_clock s)

-- what every tick keeps, an advance keeps, at clocks from the highest_waiting on
pub ticks_keep : (P : Scheduler → Type 0) (c : ℕ) → ((s : Scheduler) → c ≤ s.clock → P s → P (tick s).scheduler) → (k : ℕ) (s : Scheduler) → c ≤ s.clock → P s → P (ticks k s).scheduler
unfolding ticks
ticks_keep P c h zero s l x = x
ticks_keep P c h (suc k) s l x = ticks_keep P c h k (tick s).scheduler (omega (arith, tick_clock s)) (h s l x)

-- ---- an arrival, kept or not
pub head_put : (qs : List (List Frame)) (r q : ℕ) (f : Frame) → r < length qs → 0 < length (queue_of qs q) → head_of (queued_last qs r f) q ≡ head_of qs q
head_put qs r q f k w = go (ℕ_discrete q r)
  where
    go : Dec (q ≡ r) → head_of (queued_last qs r f) q ≡ head_of qs q
    go (yes i) = let v : 0 < length (queue_of qs r) = rw i at w in rw (i, get_or-set_same qs r (queue_of qs r ++ (f ∷ [])) [] k) (get_or-append (queue_of qs r) (f ∷ []) blank_frame 0 v)
    go (no n) = rw (get_or-set_other qs r q (queue_of qs r ++ (f ∷ [])) [] n)

pub waits_put : (qs : List (List Frame)) (r q : ℕ) (f : Frame) → r < length qs → 0 < length (queue_of qs q) → 0 < length (queue_of (queued_last qs r f) q)
waits_put qs r q f k w = go (ℕ_discrete q r)
  where
    go : Dec (q ≡ r) → 0 < length (queue_of (queued_last qs r f) q)
    go (yes i) = rw (i, get_or-set_same qs r (queue_of qs r ++ (f ∷ [])) [] k, length-append) (omega arith)
    go (no n) = rw (get_or-set_other qs r q (queue_of qs r ++ (f ∷ [])) [] n) w

pub stored_sound : (limit : ℕ → ℕ) (st : Scheduler) (r : ℕ) (f : Frame) → r < 8 → Meets (limit r) st.clock f → Sound limit st → Sound limit (stored st r f)
unfolding SendsInTime
stored_sound limit st r f l m k =
    record {
      eight = rw length-set k.eight;
      frames = put_each (λ i. Meets (limit i) st.clock) st.queues r f in_range m k.frames;
      sends = go st.sender k.sends;
    }
  where
    in_range : r < length st.queues
    in_range = omega (arith, k.eight)

    go : (z : Sender) → SendsInTime st.clock st.queues z → SendsInTime st.clock (queued_last st.queues r f) z
    go idle x = tt
    go (sending q t) x =
        let h : head_of (queued_last st.queues r f) q ≡ head_of st.queues q = head_put st.queues r q f in_range x.1.waits in (
          x.0,
          record {
            in_range = rw length-set x.1.in_range;
            waits = waits_put st.queues r q f in_range x.1.waits;
            started = x.1.started;
            ends = rw h x.1.ends;
            arrived = rw h x.1.arrived;
          },
        )

module _ (p b hold : ℕ) (X Y X' Y' : ℕ → ℕ) where
  -- a frame that is not kept
  pub more_level : (st : Scheduler) → ((s : ℕ) → s ≤ st.clock → X s ≤ X' s) → ((s : ℕ) → s ≤ st.clock → Y s ≤ Y' s) → Level p b hold X Y st → Level p b hold X' Y' st
  more_level st x y l =
      record {
        s = l.s;
        since = l.since;
        recent = l.recent;
        work = omega (arith, l.work, x l.s l.since);
        own = omega (arith, l.own, y l.s l.since);
        before = l.before;
        busy = l.busy;
        rest = l.rest;
      }

  -- a frame that is kept
  pub stored_level : (st : Scheduler) (r : ℕ) (f : Frame) → r < length st.queues → 0 < f.length → f.arrival ≡ st.clock
      → ((s : ℕ) → s ≤ st.clock → X' s ≡ X s + provided (leb r p) f.length) → ((s : ℕ) → s ≤ st.clock → Y' s ≡ Y s + provided (eqb r p) (occupied f.length))
      → Level p b hold X Y st → Level p b hold X' Y' (stored st r f)
  stored_level st r f k n e x y l =
      record {
        s = l.s;
        since = l.since;
        recent = put_each_up (λ g. l.s ≤ g.arrival) st.queues p r f k (omega (arith, l.since)) l.recent;
        work = omega (arith, l.work, x l.s l.since, put_up st.queues r p f k);
        own = omega (arith, l.own, y l.s l.since, put_bytes occupied st.queues r p f k);
        before = l.before;
        busy = l.busy;
        rest = λ z. l.rest (omega (arith, put_up st.queues r p f k));
      }
