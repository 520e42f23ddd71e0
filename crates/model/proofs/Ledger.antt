-- The ledger: each queue is the held frames of its priority, as departures and stored frames alone tell.
use mathlib.Core.Path.{◌≡◌, refl, sym, ap, ◌∙◌}
use mathlib.Core.Logic.{◌≢◌}
use mathlib.Core.Bool.{Bool, true, false, cond}
use mathlib.Core.Option.{Option, none, some}
use mathlib.Core.List.{List, [], ◌∷◌, ◌++◌, append-nil}
use Prim.Native.Nat.{ℕ, zero, suc, ◌+◌, ◌<◌}
use native.Mathlib.Decide.{ℕ_discrete}
use native.Mathlib.Omega.{arith}
use lib.Dec.{eqb}
use borrow.Author.Tests.{eq-eqb, ne_eqb, eqb-true}
use lib.ListN.{length, get_or, drop}
use lib.Seq.{get_or-set_same, get_or-set_other}
use Rattle.model.specs.Link.{link_at, place_of}
use Rattle.model.specs.Table.{Table}
use Rattle.model.specs.Machine.{Frame, Sender, idle, sending, Scheduler, Departure, blank_frame, queue_of, head_of, without_head, queued_last, highest_waiting, start_if_any, started, freed_if, byte_leaves, tick, ticks}
use Rattle.model.specs.Run.{without, without_all, is_priority, has_priority, only}
use Rattle.model.proofs.BusyPeriod.{Under, SendsInTime, Sound}
use Rattle.model.proofs.BusySteps.{begins, tick_sound}

-- ---- one frame goes
pub only_without_other : (test : Frame → Bool) (n : ℕ) (l : List Frame) → ((f : Frame) → f.number ≡ n → test f ≡ false) → only test (without n l) ≡ only test l
unfolding only without
only_without_other test n [] h = refl
only_without_other test n (f ∷ l) h = go (eqb f.number n) refl (only_without_other test n l h)
  where
    go : (x : Bool) → eqb f.number n ≡ x → only test (without n l) ≡ only test l → only test (cond x l (f ∷ without n l)) ≡ only test (f ∷ l)
    go true e ih = rw (h f (eqb-true f.number n e))
    go false e ih = rw ih

pub only_without : (test : Frame → Bool) (n : ℕ) (l : List Frame) → ((f : Frame) → f.number ≡ n → test f ≡ true) → only test (without n l) ≡ without n (only test l)
unfolding only without
only_without test n [] h = refl
only_without test n (f ∷ l) h = go (eqb f.number n) refl (test f) refl (only_without test n l h)
  where
    go : (x : Bool) → eqb f.number n ≡ x → (y : Bool) → test f ≡ y → only test (without n l) ≡ without n (only test l)
        → only test (cond x l (f ∷ without n l)) ≡ without n (cond y (f ∷ only test l) (only test l))
    go true e true i ih = rw e
    go true e false i ih = absurd (let z : ◌≡◌ {A = ℕ} 0 1 = let w : true ≡ false = sym (h f (eqb-true f.number n e)) ∙ i in cc in omega arith)
    go false e true i ih = rw (e, i, ih)
    go false e false i ih = rw (i, ih)

pub only_head : (test : Frame → Bool) (l q : List Frame) → only test l ≡ q → 0 < length q → test (get_or q 0 blank_frame) ≡ true
unfolding only
only_head test [] q e k = absurd (let z : length q ≡ 0 = rw (← e) in omega arith)
only_head test (f ∷ l) q e k = go (test f) refl (only_head test l q)
  where
    go : (x : Bool) → test f ≡ x → (only test l ≡ q → 0 < length q → test (get_or q 0 blank_frame) ≡ true) → test (get_or q 0 blank_frame) ≡ true
    go true i ih = let w : f ∷ only test l ≡ q = rw i at e in rw (← w) i
    go false i ih = ih (rw i at e) k

pub only_snoc : (test : Frame → Bool) (l : List Frame) (f : Frame) → only test (l ++ (f ∷ [])) ≡ only test l ++ cond (test f) (f ∷ []) []
unfolding only
only_snoc test [] f = refl
only_snoc test (g ∷ l) f = go (test g) (only_snoc test l f)
  where
    go : (x : Bool) → only test (l ++ (f ∷ [])) ≡ only test l ++ cond (test f) (f ∷ []) []
        → cond x (g ∷ only test (l ++ (f ∷ []))) (only test (l ++ (f ∷ []))) ≡ cond x (g ∷ only test l) (only test l) ++ cond (test f) (f ∷ []) []
    go true ih = ap (λ (r : List Frame). g ∷ r) ih
    go false ih = ih

without_head_lem : (n : ℕ) (q : List Frame) → 0 < length q → (get_or q 0 blank_frame).number ≡ n → without n q ≡ drop 1 q
unfolding without
without_head_lem n [] k e = absurd (omega arith)
without_head_lem n (f ∷ l) k e = rw (eq-eqb f.number n e)

-- ---- each queue is the held frames of its priority
pub record Booked (t : Table) (l : List Frame) (qs : List (List Frame)) : Type 0 where
  pub books : (p : ℕ) → p < 8 → only (has_priority t p) l ≡ queue_of qs p

-- frames of one number have one priority
pub same_number : (t : Table) (p : ℕ) (f g : Frame) → g.number ≡ f.number → has_priority t p f ≡ has_priority t p g
unfolding has_priority
same_number t p f g e = rw e

one_priority : (t : Table) (p q : ℕ) (f : Frame) → has_priority t q f ≡ true → p ≢ q → has_priority t p f ≡ false
unfolding has_priority is_priority
one_priority t p q f e n = go (place_of f.number t.links) e
  where
    go : (o : Option ℕ) → is_priority t q o ≡ true → is_priority t p o ≡ false
    go none e = refl
    go (some i) e = ne_eqb (link_at t.links i).priority p (λ x. n (sym x ∙ eqb-true (link_at t.links i).priority q e))

-- the head of queue q byte_leaves
pub booked_pop : (t : Table) (l : List Frame) (qs : List (List Frame)) (q : ℕ) → q < 8 → q < length qs → 0 < length (queue_of qs q) → Booked t l qs
    → Booked t (without (head_of qs q).number l) (without_head qs q)
booked_pop t l qs q k r w b = record { books = λ p m. go p m (ℕ_discrete p q) }
  where
    of_q : has_priority t q (head_of qs q) ≡ true
    of_q = only_head (has_priority t q) l (queue_of qs q) (b.books q k) w

    go : (p : ℕ) → p < 8 → Dec (p ≡ q) → only (has_priority t p) (without (head_of qs q).number l) ≡ queue_of (without_head qs q) p
    go p m (yes e) =
        rw (e, get_or-set_same qs q (drop 1 (queue_of qs q)) [] r, only_without (has_priority t q) (head_of qs q).number l (λ f i. same_number t q f (head_of qs q) (sym i) ∙ of_q), b.books q k)
        (without_head_lem (head_of qs q).number (queue_of qs q) w refl)
    go p m (no n) =
        rw (get_or-set_other qs q p (drop 1 (queue_of qs q)) [] n, only_without_other (has_priority t p) (head_of qs q).number l (λ f i. same_number t p f (head_of qs q) (sym i) ∙ one_priority t p q (head_of qs q) of_q n))
        (b.books p m)

-- a frame of priority r is stored
pub booked_put : (t : Table) (l : List Frame) (qs : List (List Frame)) (r : ℕ) (f : Frame) → r < length qs → has_priority t r f ≡ true → Booked t l qs → Booked t (l ++ (f ∷ [])) (queued_last qs r f)
booked_put t l qs r f k e b = record { books = λ p m. go p m (ℕ_discrete p r) }
  where
    go : (p : ℕ) → p < 8 → Dec (p ≡ r) → only (has_priority t p) (l ++ (f ∷ [])) ≡ queue_of (queued_last qs r f) p
    go p m (yes i) = let n : r < 8 = omega arith in rw (i, get_or-set_same qs r (queue_of qs r ++ (f ∷ [])) [] k, only_snoc (has_priority t r) l f, e, b.books r n)
    go p m (no n) =
        rw (get_or-set_other qs r p (queue_of qs r ++ (f ∷ [])) [] n, only_snoc (has_priority t p) l f, one_priority t p r f e n, b.books p m) (append-nil (queue_of qs p))

-- ---- ticks
pub without_all-append : (a b : List Departure) (l : List Frame) → without_all (a ++ b) l ≡ without_all b (without_all a l)
unfolding without_all
without_all-append [] b l = refl
without_all-append (d ∷ a) b l = without_all-append a b (without d.number l)

module _ (t : Table) (limit : ℕ → ℕ) (l : List Frame) where
  leaves_booked : (c : ℕ) (qs : List (List Frame)) (q b : ℕ) → length qs ≡ 8 → Under c qs q b → Booked t l qs
      → Booked t (without_all (byte_leaves c qs (sending q b)).departures l) (byte_leaves c qs (sending q b)).scheduler.queues
  unfolding byte_leaves freed_if without_all
  leaves_booked c qs q b n u k = go (eqb (b + (head_of qs q).length) (suc c))
    where
      go : (x : Bool) → Booked t (without_all (freed_if x c qs q b).departures l)
          (freed_if x c qs q b).scheduler.queues
      go true = booked_pop t l qs q (omega (arith, u.in_range)) u.in_range u.waits k
      go false = k

  wakes_booked : (c : ℕ) (qs : List (List Frame)) (o : Option ℕ) → highest_waiting qs ≡ o → length qs ≡ 8 → (o' : (q : ℕ) → highest_waiting qs ≡ some q → Under c qs q c) → Booked t l qs
      → Booked t (without_all (byte_leaves c qs (start_if_any c o)).departures l) (byte_leaves c qs (start_if_any c o)).scheduler.queues
  unfolding byte_leaves freed_if start_if_any without_all
  wakes_booked c qs none e n u k = k
  wakes_booked c qs (some q) e n u k = leaves_booked c qs q c n (u q e) k

  pub tick_booked : (st : Scheduler) → Sound limit st → Booked t l st.queues → Booked t (without_all (tick st).departures l) (tick st).scheduler.queues
  unfolding tick started SendsInTime
  tick_booked st s k = go st.sender s.sends
    where
      go : (z : Sender) → SendsInTime st.clock st.queues z
          → Booked t (without_all (byte_leaves st.clock st.queues (started st.clock st.queues z)).departures l) (byte_leaves st.clock st.queues (started st.clock st.queues z)).scheduler.queues
      go idle m = wakes_booked st.clock st.queues (highest_waiting st.queues) refl s.eight (λ q e. begins limit st.clock st.queues q s.frames e) k
      go (sending q b) m = leaves_booked st.clock st.queues q b s.eight m.1 k

pub ticks_booked : (t : Table) (limit : ℕ → ℕ) (k : ℕ) (l : List Frame) (st : Scheduler) → Sound limit st → Booked t l st.queues → Booked t (without_all (ticks k st).departures l) (ticks k st).scheduler.queues
unfolding ticks without_all
ticks_booked t limit zero l st s b = b
ticks_booked t limit (suc k) l st s b =
    rw (without_all-append (tick st).departures (ticks k (tick st).scheduler).departures l)
    (ticks_booked t limit k (without_all (tick st).departures l) (tick st).scheduler (tick_sound limit st s) (tick_booked t limit l st s b))
