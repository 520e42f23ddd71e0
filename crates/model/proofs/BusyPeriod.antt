-- One level of the scheduler: the busy period of the priorities 0 to p.
use mathlib.Core.Path.{◌≡◌, refl, sym, ap}
use mathlib.Core.Logic.{◌⊎◌, inl, inr}
use mathlib.Core.Bool.{Bool, true, false}
use mathlib.Core.List.{List, [], ◌∷◌, ◌++◌}
use Prim.Native.Nat.{ℕ, suc, ◌+◌, ◌-◌, ◌≤◌, ◌<◌, min}
use native.Mathlib.Nat.{le_refl, lt_of_not-le}
use native.Mathlib.Decide.{dec_le, ℕ_discrete}
use native.Mathlib.Omega.{arith}
use lib.Dec.{eqb, leb}
use borrow.Author.Tests.{eq-eqb, ne_eqb, eqb-true, eqb-false, le-leb, lt-leb}
use lib.ListN.{length, drop, set, length-set}
use lib.Seq.{get_or-set_same, get_or-set_other}
use Rattle.model.specs.Basics.{provided, Each}
use Rattle.model.specs.Units.{occupied}
use Rattle.model.specs.Machine.{Frame, Sender, idle, sending, Scheduler, at, queue_of, head_of, without_head, queued_last, freed_if, byte_leaves, bytes, held}
use Rattle.model.proofs.Curves.{occupied_weight}
use Rattle.model.proofs.Queues.{each_tail, each_snoc, each_head, bytes_snoc, bytes_tail, bytes_below, sizes_head, sizes_none, up, up_other, up_same, up_one}

-- ---- what a scheduler is

pub record Under (c : ℕ) (qs : List (List Frame)) (q t : ℕ) : Type 0 where
  pub in_range : q < length qs
  pub waits : 0 < length (queue_of qs q)
  pub started : t ≤ c
  pub ends : c < t + (head_of qs q).length
  pub arrived : (head_of qs q).arrival ≤ t

unfoldable pub SendsInTime : ℕ → List (List Frame) → Sender → Type 0
SendsInTime c qs idle = Unit
SendsInTime c qs (sending q t) = (t < c) × Under c qs q t

-- a frame of queue q: no longer than limit q
pub record Meets (limit c : ℕ) (f : Frame) : Type 0 where
  pub positive : 0 < f.length
  pub short : f.length ≤ limit
  pub past : f.arrival ≤ c

pub record Sound (limit : ℕ → ℕ) (st : Scheduler) : Type 0 where
  pub eight : length st.queues ≡ 8
  pub frames : (q : ℕ) → Each (Meets (limit q) st.clock) (queue_of st.queues q)
  pub sends : SendsInTime st.clock st.queues st.sender

-- ---- the level
-- bytes of the frame being sent that have left, if it is of the level
unfoldable pub part : ℕ → ℕ → Sender → ℕ
part p c idle = 0
part p c (sending q t) = provided (leb q p) (c - t)

-- a frame of a lower priority that is being sent started before s
unfoldable pub Before : ℕ → ℕ → Sender → Type 0
Before p s idle = Unit
Before p s (sending q t) = p < q → t < s

-- b: what a lower frame can block; hold: the longest busy period; Y s, X s: bytes that arrived from s on, of priority p, of priorities 0 to p
pub record Level (p b hold : ℕ) (X Y : ℕ → ℕ) (st : Scheduler) : Type 0 where
  pub s : ℕ
  pub since : s ≤ st.clock
  pub recent : (q : ℕ) → q ≤ p → Each (λ f. s ≤ f.arrival) (queue_of st.queues q)
  pub work : up p st.queues + (st.clock - s) ≤ X s + part p st.clock st.sender + min (st.clock - s) b
  pub own : held (queue_of st.queues p) ≤ Y s
  pub before : Before p s st.sender
  pub busy : st.clock - s < hold
  pub rest : up p st.queues ≡ 0 → s ≡ st.clock

-- ---- the queues after a frame is taken or put
pub pop_length : (qs : List (List Frame)) (q : ℕ) → length (without_head qs q) ≡ length qs
pop_length qs q = length-set qs q (drop 1 (queue_of qs q))

-- one queue is set: what is true of each queue stays so
pub set_keeps : (Q : ℕ → List Frame → Type 0) (qs : List (List Frame)) (r : ℕ) (l : List Frame) → r < length qs → Q r l → ((q : ℕ) → Q q (queue_of qs q)) → (q : ℕ) → Q q (queue_of (set qs r l) q)
set_keeps Q qs r l k x e q = go (ℕ_discrete q r)
  where
    go : Dec (q ≡ r) → Q q (queue_of (set qs r l) q)
    go (yes i) = rw (i, get_or-set_same qs r l [] k) x
    go (no n) = rw (get_or-set_other qs r q l [] n) (e q)

pub pop_each : (P : ℕ → Frame → Type 0) (qs : List (List Frame)) (r : ℕ) → r < length qs → ((q : ℕ) → Each (P q) (queue_of qs q)) → (q : ℕ) → Each (P q) (queue_of (without_head qs r) q)
pop_each P qs r k e = set_keeps (λ q l. Each (P q) l) qs r (drop 1 (queue_of qs r)) k (each_tail (e r)) e

pub pop_each_up : (P : Frame → Type 0) (qs : List (List Frame)) (p r : ℕ) → r < length qs → ((q : ℕ) → q ≤ p → Each P (queue_of qs q)) → (q : ℕ) → q ≤ p → Each P (queue_of (without_head qs r) q)
pop_each_up P qs p r k e = set_keeps (λ q l. q ≤ p → Each P l) qs r (drop 1 (queue_of qs r)) k (λ i. each_tail (e r i)) e

pub put_each : (P : ℕ → Frame → Type 0) (qs : List (List Frame)) (r : ℕ) (f : Frame) → r < length qs → P r f → ((q : ℕ) → Each (P q) (queue_of qs q)) → (q : ℕ) → Each (P q) (queue_of (queued_last qs r f) q)
put_each P qs r f k x e = set_keeps (λ q l. Each (P q) l) qs r (queue_of qs r ++ (f ∷ [])) k (each_snoc f (e r) x) e

pub put_each_up : (P : Frame → Type 0) (qs : List (List Frame)) (p r : ℕ) (f : Frame) → r < length qs → P f → ((q : ℕ) → q ≤ p → Each P (queue_of qs q)) → (q : ℕ) → q ≤ p → Each P (queue_of (queued_last qs r f) q)
put_each_up P qs p r f k x e = set_keeps (λ q l. q ≤ p → Each P l) qs r (queue_of qs r ++ (f ∷ [])) k (λ i. each_snoc f (e r i) x) e

pub pop_bytes : (weight : ℕ → ℕ) (qs : List (List Frame)) (r p : ℕ) → r < length qs → 0 < length (queue_of qs r) → bytes weight (queue_of (without_head qs r) p) ≤ bytes weight (queue_of qs p)
pop_bytes weight qs r p k w = go (ℕ_discrete p r)
  where
    go : Dec (p ≡ r) → bytes weight (queue_of (without_head qs r) p) ≤ bytes weight (queue_of qs p)
    go (yes i) = rw (i, get_or-set_same qs r (drop 1 (queue_of qs r)) [] k) (omega (arith, bytes_tail weight (queue_of qs r) w))
    go (no n) = rw (get_or-set_other qs r p (drop 1 (queue_of qs r)) [] n) (le_refl (bytes weight (queue_of qs p)))

pub put_bytes : (weight : ℕ → ℕ) (qs : List (List Frame)) (r p : ℕ) (f : Frame) → r < length qs → bytes weight (queue_of (queued_last qs r f) p) ≡ bytes weight (queue_of qs p) + provided (eqb r p) (weight f.length)
unfolding provided
put_bytes weight qs r p f k = go (ℕ_discrete p r)
  where
    go : Dec (p ≡ r) → bytes weight (queue_of (queued_last qs r f) p) ≡ bytes weight (queue_of qs p) + provided (eqb r p) (weight f.length)
    go (yes i) = rw (i, get_or-set_same qs r (queue_of qs r ++ (f ∷ [])) [] k, eq-eqb r r refl) (bytes_snoc weight (queue_of qs r) f)
    go (no n) = rw (get_or-set_other qs r p (queue_of qs r ++ (f ∷ [])) [] n, ne_eqb r p (λ e. n (sym e))) (omega arith)

pub put_up : (qs : List (List Frame)) (r p : ℕ) (f : Frame) → r < length qs → up p (queued_last qs r f) ≡ up p qs + provided (leb r p) f.length
unfolding provided
put_up qs r p f k = go (dec_le r p)
  where
    go : Dec (r ≤ p) → up p (queued_last qs r f) ≡ up p qs + provided (leb r p) f.length
    go (yes i) = rw (le-leb r p i) (omega (arith, up_same p r qs (queue_of qs r ++ (f ∷ [])) i k, bytes_snoc (λ n. n) (queue_of qs r) f))
    go (no n) = rw (lt-leb r p (lt_of_not-le n)) (omega (arith, up_other p r qs (queue_of qs r ++ (f ∷ [])) (lt_of_not-le n)))

pub pop_up : (qs : List (List Frame)) (r p : ℕ) → r < length qs → 0 < length (queue_of qs r) → up p (without_head qs r) + provided (leb r p) (head_of qs r).length ≡ up p qs
unfolding provided
pop_up qs r p k w = go (dec_le r p)
  where
    go : Dec (r ≤ p) → up p (without_head qs r) + provided (leb r p) (head_of qs r).length ≡ up p qs
    go (yes i) = rw (le-leb r p i) (omega (arith, up_same p r qs (drop 1 (queue_of qs r)) i k, bytes_tail (λ n. n) (queue_of qs r) w))
    go (no n) = rw (lt-leb r p (lt_of_not-le n)) (omega (arith, up_other p r qs (drop 1 (queue_of qs r)) (lt_of_not-le n)))

-- ---- a level after one tick
module _ (p b hold : ℕ) (X Y A : ℕ → ℕ) where
  -- nothing of the level is left: the busy period is over
  pub over : (limit : ℕ → ℕ) (c₀ c : ℕ) (qs : List (List Frame)) (z : Sender) → 0 < hold → ((q : ℕ) → Each (Meets (limit q) c₀) (queue_of qs q)) → up p qs ≡ 0 → Before p c z → Level p b hold X Y (at c qs z)
  over limit c₀ c qs z h e u d =
      record {
        s = c;
        since = le_refl c;
        recent = λ q k. sizes_none (λ f m. m.positive) (e q) (omega (arith, up_one p q qs k));
        work = omega arith;
        own = omega (arith, up_one p p qs (le_refl p), bytes_below occupied occupied_weight (queue_of qs p));
        before = d;
        busy = omega arith;
        rest = λ _. refl;
      }

  -- it goes on
  pub on : (c s : ℕ) (qs : List (List Frame)) (z : Sender) → s ≤ c → c - s < hold → X s ≤ A (c - s) → b + A (hold - 1) ≤ hold
      → ((q : ℕ) → q ≤ p → Each (λ f. s ≤ f.arrival) (queue_of qs q))
      → up p qs + (suc c - s) ≤ X s + part p (suc c) z + min (suc c - s) b
      → held (queue_of qs p) ≤ Y s → Before p s z → part p (suc c) z < up p qs
      → Level p b hold X Y (at (suc c) qs z)
  on c s qs z l h a g e w o d u =
      record {
        s = s;
        since = omega arith;
        recent = e;
        work = w;
        own = o;
        before = d;
        busy = go (ℕ_discrete (suc c - s) hold);
        rest = λ x. absurd (omega arith);
      }
    where
      go : Dec (suc c - s ≡ hold) → suc c - s < hold
      go (yes x) = let y : hold - 1 ≡ c - s = omega arith in absurd (omega (arith, ap A y))
      go (no n) = omega arith

  module _ (limit : ℕ → ℕ) (lower : (q : ℕ) → p < q → limit q ≤ suc b) (g : b + A (hold - 1) ≤ hold) where
    -- a frame is being sent, from t on
    pub sent : (c s : ℕ) (qs : List (List Frame)) (q t : ℕ) → Under c qs q t → ((j : ℕ) → Each (Meets (limit j) c) (queue_of qs j))
        → s ≤ c → c - s < hold → X s ≤ A (c - s)
        → ((j : ℕ) → j ≤ p → Each (λ f. s ≤ f.arrival) (queue_of qs j))
        → up p qs + (c - s) ≤ X s + provided (leb q p) (c - t) + min (c - s) b
        → held (queue_of qs p) ≤ Y s → (p < q → (t < s) ⊎ (up p qs ≡ 0))
        → Level p b hold X Y (byte_leaves c qs (sending q t)).scheduler
    unfolding byte_leaves freed_if provided part Before
    sent c s qs q t m e l h a r w o d = go (eqb (t + (head_of qs q).length) (suc c)) refl (dec_le q p)
      where
        len : (head_of qs q).length ≤ limit q
        len = (each_head (e q) m.waits).short

        go : (x : Bool) → eqb (t + (head_of qs q).length) (suc c) ≡ x
            → Dec (q ≤ p) → Level p b hold X Y (freed_if x c qs q t).scheduler
        go true x (yes k) = next (dec_le (up p (without_head qs q)) 0)
          where
            fall : up p (without_head qs q) + (head_of qs q).length ≡ up p qs
            fall = rw (le-leb q p k) at (pop_up qs q p m.in_range m.waits)

            work : up p qs + (c - s) ≤ X s + (c - t) + min (c - s) b
            work = rw (le-leb q p k) at w

            next : Dec (up p (without_head qs q) ≤ 0) → Level p b hold X Y (at (suc c) (without_head qs q) idle)
            next (yes u) = over limit c (suc c) (without_head qs q) idle (omega arith) (pop_each (λ i. Meets (limit i) c) qs q m.in_range e) (omega arith) tt
            next (no u) =
                on c s (without_head qs q) idle l h a g (pop_each_up (λ f. s ≤ f.arrival) qs p q m.in_range r)
                (omega (arith, fall, work, eqb-true (t + (head_of qs q).length) (suc c) x, m.started))
                (omega (arith, pop_bytes occupied qs q p m.in_range m.waits)) tt (omega arith)
        go true x (no k) = next (dec_le (up p (without_head qs q)) 0) (d (lt_of_not-le k))
          where
            fall : up p (without_head qs q) + 0 ≡ up p qs
            fall = rw (lt-leb q p (lt_of_not-le k)) at (pop_up qs q p m.in_range m.waits)

            work : up p qs + (c - s) ≤ X s + 0 + min (c - s) b
            work = rw (lt-leb q p (lt_of_not-le k)) at w

            next : Dec (up p (without_head qs q) ≤ 0) → (t < s) ⊎ (up p qs ≡ 0) → Level p b hold X Y (at (suc c) (without_head qs q) idle)
            next (yes u) z = over limit c (suc c) (without_head qs q) idle (omega arith) (pop_each (λ i. Meets (limit i) c) qs q m.in_range e) (omega arith) tt
            next (no u) (inr z) = absurd (omega (arith, fall))
            next (no u) (inl z) =
                on c s (without_head qs q) idle l h a g (pop_each_up (λ f. s ≤ f.arrival) qs p q m.in_range r)
                (omega (arith, fall, work, eqb-true (t + (head_of qs q).length) (suc c) x, len, lower q (lt_of_not-le k)))
                (omega (arith, pop_bytes occupied qs q p m.in_range m.waits)) tt (omega arith)
        go false x (yes k) =
            on c s qs (sending q t) l h a g r
            (rw (le-leb q p k) (omega (arith, work, m.started)))
            o (λ i. absurd (omega arith))
            (rw (le-leb q p k) (omega (arith, m.ends, n, sizes_head (queue_of qs q) m.waits, up_one p q qs k)))
          where
            work : up p qs + (c - s) ≤ X s + (c - t) + min (c - s) b
            work = rw (le-leb q p k) at w

            n : ¬ (t + (head_of qs q).length ≡ suc c)
            n = eqb-false (t + (head_of qs q).length) (suc c) x
        go false x (no k) = next (dec_le (up p qs) 0) (d (lt_of_not-le k))
          where
            n : ¬ (t + (head_of qs q).length ≡ suc c)
            n = eqb-false (t + (head_of qs q).length) (suc c) x

            work : up p qs + (c - s) ≤ X s + 0 + min (c - s) b
            work = rw (lt-leb q p (lt_of_not-le k)) at w

            next : Dec (up p qs ≤ 0) → (t < s) ⊎ (up p qs ≡ 0) → Level p b hold X Y (at (suc c) qs (sending q t))
            next (yes u) z = over limit c (suc c) qs (sending q t) (omega arith) e (omega arith) (λ i. omega (arith, m.started))
            next (no u) (inr z) = absurd (omega arith)
            next (no u) (inl z) =
                on c s qs (sending q t) l h a g r
                (rw (lt-leb q p (lt_of_not-le k)) (omega (arith, work, m.ends, n, len, lower q (lt_of_not-le k))))
                o (λ i. z)
                (rw (lt-leb q p (lt_of_not-le k)) (omega arith))
