-- The departures of a link, one by one the frames of it that were stored: so they keep BAG and the next port's jitter.
use mathlib.Core.Path.{◌≡◌, refl, sym, ap, ◌∙◌}
use mathlib.Core.Bool.{Bool, true, false, cond, ◌&&◌, not}
use mathlib.Core.Option.{Option, none, some}
use mathlib.Core.List.{List, [], ◌∷◌, ◌++◌, append-nil, append_assoc}
use Prim.Native.Nat.{ℕ, ◌+◌, ◌≤◌, ◌<◌}
use native.Mathlib.Decide.{ℕ_discrete}
use native.Mathlib.Omega.{arith}
use lib.Dec.{eqb}
use borrow.Author.Tests.{eqb-true, eq-eqb, ne_eqb}
use lib.ListN.{length}
use Rattle.model.specs.Basics.{Each, done, also}
use Rattle.model.specs.Link.{VirtualLink, bag, link_at, place_of}
use Rattle.model.specs.Table.{Table}
use Rattle.model.specs.Bounds.{hold}
use Rattle.model.specs.Machine.{Frame, Departure}
use Rattle.model.specs.Port.{Port}
use Rattle.model.specs.Report.{Answer, Report, wait, frame, Judged, stored_if, arrived, Call, Stepped}
use Rattle.model.specs.Run.{Entry, run, accepted, frame_if, stored_by, passed_by, departures_by, without, without_all, and_last, held_frames, is_priority, has_priority, and_tick, ticks_of, KeepBagAndJitter, Always, start, then}
use Rattle.model.specs.Promises.{oldest, Leaving, over, next, all_departures}
use Rattle.model.proofs.Lists.{each_of_both}
use Rattle.model.proofs.Gate.{Rising, numbers_apart}
use Rattle.model.proofs.Passing.{Passing}
use Rattle.model.proofs.Stepping.{Placed, placed, Judgement, filters, polices, drops, stores, reached, freed_by, Stepping, refuses, waits, frames, stepping}
use Rattle.model.proofs.Log.{entry_of, taken, frame_declined}
use Rattle.two_ports.proofs.Thinned.{keeping_front, Thinned, none_left, thinned_more, thinned_last, thinned_keeps, Follows, nothing, after, follows_append, follows_keeps}

-- ---- without departures
each_without : {P : Frame → Type 0} (n : ℕ) {l : List Frame} → Each P l → Each P (without n l)
unfolding without
each_without n done = done
each_without {P = P} n (also {a = f} {l = l} p r) = go (eqb f.number n) (each_without n r)
  where
    go : (x : Bool) → Each P (without n l) → Each P (cond x l (f ∷ without n l))
    go true ih = r
    go false ih = also p ih

each_without_all : {P : Frame → Type 0} (ds : List Departure) {l : List Frame} → Each P l → Each P (without_all ds l)
unfolding without_all
each_without_all [] x = x
each_without_all (d ∷ ds) x = each_without_all ds (each_without d.number x)

-- the oldest frame of a number is a held frame of that number
record Oldest (P : Frame → Type 0) (n : ℕ) (f : Frame) : Type 0 where
  numbered : f.number ≡ n
  has : P f

each_oldest : {P : Frame → Type 0} (n : ℕ) (f : Frame) {l : List Frame} → Each P l → oldest n l ≡ some f → Oldest P n f
unfolding oldest
each_oldest n f done e = absurd (let z : ◌≡◌ {A = ℕ} 0 1 = cc in omega arith)
each_oldest {P = P} n f (also {a = g} {l = l} p r) e = go (eqb g.number n) refl e (each_oldest n f r)
  where
    go : (x : Bool) → eqb g.number n ≡ x → cond x (some g) (oldest n l) ≡ some f → (oldest n l ≡ some f → Oldest P n f) → Oldest P n f
    go true q e ih = let z : g ≡ f = cc in rw (← z) (record { numbered = eqb-true g.number n q; has = p })
    go false q e ih = ih e

-- ---- the arrivals of the held frames of a number, the ticks of its departures, in order
unfoldable arrivals_of : ℕ → List Frame → List ℕ
arrivals_of n [] = []
arrivals_of n (f ∷ l) = cond (eqb f.number n) (f.arrival ∷ arrivals_of n l) (arrivals_of n l)

unfoldable pub freed_of : ℕ → List Departure → List ℕ
freed_of n [] = []
freed_of n (d ∷ ds) = cond (eqb d.number n) (d.freed ∷ freed_of n ds) (freed_of n ds)

pub freed_append : (n : ℕ) (a b : List Departure) → freed_of n (a ++ b) ≡ freed_of n a ++ freed_of n b
unfolding freed_of
freed_append n [] b = refl
freed_append n (d ∷ a) b = go (eqb d.number n) (freed_append n a b)
  where
    go : (x : Bool) → freed_of n (a ++ b) ≡ freed_of n a ++ freed_of n b → cond x (d.freed ∷ freed_of n (a ++ b)) (freed_of n (a ++ b)) ≡ cond x (d.freed ∷ freed_of n a) (freed_of n a) ++ freed_of n b
    go true ih = ap (λ (l : List ℕ). d.freed ∷ l) ih
    go false ih = ih

arrivals_append : (n : ℕ) (a b : List Frame) → arrivals_of n (a ++ b) ≡ arrivals_of n a ++ arrivals_of n b
unfolding arrivals_of
arrivals_append n [] b = refl
arrivals_append n (f ∷ a) b = go (eqb f.number n) (arrivals_append n a b)
  where
    go : (x : Bool) → arrivals_of n (a ++ b) ≡ arrivals_of n a ++ arrivals_of n b → cond x (f.arrival ∷ arrivals_of n (a ++ b)) (arrivals_of n (a ++ b)) ≡ cond x (f.arrival ∷ arrivals_of n a) (arrivals_of n a) ++ arrivals_of n b
    go true ih = ap (λ (l : List ℕ). f.arrival ∷ l) ih
    go false ih = ih

-- the oldest goes
arrivals_oldest : (n : ℕ) (f : Frame) (l : List Frame) → oldest n l ≡ some f → arrivals_of n l ≡ f.arrival ∷ arrivals_of n (without n l)
unfolding arrivals_of oldest without
arrivals_oldest n f [] e = absurd (let z : ◌≡◌ {A = ℕ} 0 1 = cc in omega arith)
arrivals_oldest n f (g ∷ l) e = go (eqb g.number n) refl (arrivals_oldest n f l)
  where
    go : (x : Bool) → eqb g.number n ≡ x → (oldest n l ≡ some f → arrivals_of n l ≡ f.arrival ∷ arrivals_of n (without n l))
        → cond x (g.arrival ∷ arrivals_of n l) (arrivals_of n l) ≡ f.arrival ∷ arrivals_of n (cond x l (g ∷ without n l))
    go true q ih = let z : g ≡ f = let w : some g ≡ some f = rw q at e in cc in rw z
    go false q ih = rw q (ih (rw q at e))

-- one of another number goes
arrivals_without : (n m : ℕ) (l : List Frame) → (m ≡ n → ⊥) → arrivals_of n (without m l) ≡ arrivals_of n l
unfolding arrivals_of without
arrivals_without n m [] h = refl
arrivals_without n m (g ∷ l) h = go (eqb g.number m) refl (arrivals_without n m l h)
  where
    go : (x : Bool) → eqb g.number m ≡ x → arrivals_of n (without m l) ≡ arrivals_of n l
        → arrivals_of n (cond x l (g ∷ without m l)) ≡ cond (eqb g.number n) (g.arrival ∷ arrivals_of n l) (arrivals_of n l)
    go true q ih = rw (ne_eqb g.number n (λ y. h (sym (eqb-true g.number m q) ∙ y)))
    go false q ih = rw ih

-- ---- a number and a length that a table lets through
pub record Lawful (t : Table) (number len : ℕ) : Type 0 where
  pub place : ℕ
  pub at_place : place < length t.links
  pub named : (link_at t.links place).number ≡ number
  pub not_shorter : (link_at t.links place).least ≤ len
  pub not_longer : len ≤ (link_at t.links place).greatest

pub same_place : (links : List VirtualLink) → Rising links → (i j : ℕ) → i < length links → j < length links → (link_at links i).number ≡ (link_at links j).number → i ≡ j
same_place links r i j k l e = go (ℕ_discrete i j)
  where
    go : Dec (i ≡ j) → i ≡ j
    go (yes x) = x
    go (no x) = absurd (numbers_apart links r i j k l x e)

module _ (t : Table) (v : Passing t) (i : ℕ) (in_range : i < length t.links) where
  abbrev vl : VirtualLink
  vl = link_at t.links i

  abbrev n : ℕ
  n = vl.number

  long_enough : (f : Frame) → f.number ≡ n → Lawful t f.number f.length → vl.least ≤ f.length
  long_enough f e w = let q : w.place ≡ i = same_place t.links v.rising w.place i w.at_place in_range (w.named ∙ e) in rw (← q) w.not_shorter

  its_priority : (p : ℕ) (f : Frame) → f.number ≡ n → has_priority t p f ≡ true → vl.priority ≡ p
  unfolding has_priority is_priority
  its_priority p f e h = go (place_of f.number t.links) refl h
    where
      go : (o : Option ℕ) → place_of f.number t.links ≡ o → is_priority t p o ≡ true → vl.priority ≡ p
      go none x y = absurd (let z : ◌≡◌ {A = ℕ} 0 1 = cc in omega arith)
      go (some j) x y =
          let k : Placed f.number t.links j = placed f.number t.links j x in
          let q : j ≡ i = same_place t.links v.rising j i k.in_range in_range (k.number_is ∙ e) in
          rw (← q) (eqb-true (link_at t.links j).priority p y)

  abbrev After : List ℕ → List ℕ → Type 0
  After a b = Follows vl.least (hold t vl.priority) a b

  -- of the held frames of the link, those that the departures took, each from its least length to its hold before it
  record Gone (l : List Frame) (ds : List Departure) : Type 0 where
    went : List ℕ
    split : arrivals_of n l ≡ went ++ arrivals_of n (without_all ds l)
    follows : After went (freed_of n ds)

  leaving_gone : {l : List Frame} {ds : List Departure} → Each (λ f. Lawful t f.number f.length) l → Leaving t l ds → Gone l ds
  unfolding without_all freed_of
  leaving_gone m over = record { went = []; split = refl; follows = nothing }
  leaving_gone m (next {frames = l} {d = d} {ds = ds} p f o c e low high r) =
      let g : Gone (without d.number l) ds = leaving_gone (each_without d.number m) r in
      go (ℕ_discrete d.number n) g
    where
      go : Dec (d.number ≡ n) → Gone (without d.number l) ds → Gone l (d ∷ ds)
      go (yes q) g =
          let it = each_oldest d.number f m c in
          let x : vl.least ≤ f.length = long_enough f (it.numbered ∙ q) it.has in
          let y : vl.priority ≡ p = its_priority p f (it.numbered ∙ q) o in
          let first : arrivals_of n l ≡ f.arrival ∷ arrivals_of n (without d.number l) = let c' : oldest n l ≡ some f = rw (← q) c in rw q (arrivals_oldest n f l c') in
          record {
            went = f.arrival ∷ g.went;
            split = first ∙ ap (λ (a : List ℕ). f.arrival ∷ a) g.split;
            follows = rw (eq-eqb d.number n q) (after {x = f.arrival} {y = d.freed} (omega arith) (rw y high) g.follows);
          }
      go (no q) g =
          record {
            went = g.went;
            split = sym (arrivals_without n d.number l q) ∙ g.split;
            follows = rw (ne_eqb d.number n q) g.follows;
          }

  -- over a log: the stored frames of the link are those that left and those that are held
  record Flow (log : List Entry) : Type 0 where
    went : List ℕ
    split : ticks_of stored_by n log ≡ went ++ arrivals_of n (held_frames log)
    follows : After went (freed_of n (all_departures log))

  one_held : (o : Option Frame) (ticks went : List ℕ) (l : List Frame) → ticks ≡ went ++ arrivals_of n l → and_tick n o ticks ≡ went ++ arrivals_of n (and_last o l)
  unfolding and_tick and_last arrivals_of
  one_held none ticks went l e = e
  one_held (some f) ticks went l e = rw (arrivals_append n l (f ∷ []), e) (go (eqb f.number n))
    where
      go : (x : Bool) → cond x (went ++ arrivals_of n l ++ (f.arrival ∷ [])) (went ++ arrivals_of n l) ≡ went ++ (arrivals_of n l ++ cond x (f.arrival ∷ []) [])
      go true = append_assoc went (arrivals_of n l) (f.arrival ∷ [])
      go false = rw append-nil

  flow_on : (e : Entry) (log : List Entry) → Each (λ f. Lawful t f.number f.length) (held_frames log) → Leaving t (held_frames log) (departures_by e) → Flow log → Flow (e ∷ log)
  unfolding ticks_of held_frames all_departures
  flow_on e log m r k =
      let g : Gone (held_frames log) (departures_by e) = leaving_gone m r in
      record {
        went = k.went ++ g.went;
        split =
            one_held (stored_by e) (ticks_of stored_by n log) (k.went ++ g.went) (without_all (departures_by e) (held_frames log))
            (k.split ∙ ap (λ (a : List ℕ). k.went ++ a) g.split ∙ sym (append_assoc k.went g.went _));
        follows = rw (freed_append n (all_departures log) (departures_by e)) (follows_append k.follows g.follows);
      }

-- ---- every log in which each report's departures are in time, and whose stored frames are lawful
abbrev pub Admits : Table → Entry → Type 0
Admits t e = (f : Frame) → stored_by e ≡ some f → Lawful t f.number f.length

held_lawful : (t : Table) (log : List Entry) → Always (λ e log. Admits t e) log → Each (λ f. Lawful t f.number f.length) (held_frames log)
unfolding held_frames and_last
held_lawful t [] start = done
held_lawful t (e ∷ log) (then x r) = go (stored_by e) refl (each_without_all (departures_by e) (held_lawful t log r))
  where
    go : (o : Option Frame) → stored_by e ≡ o → {l : List Frame} → Each (λ f. Lawful t f.number f.length) l → Each (λ f. Lawful t f.number f.length) (and_last o l)
    go none q m = m
    go (some f) q m = each_of_both m (also (x f q) done)

-- the log of a run
module _ (t : Table) (s : Port) where
  judged_lawful : (time line number len : ℕ) (list : List ℕ) {j : Judged} → Judgement t (reached s time line) time line number len j
      → Admits t (taken (frame time line number len) j.verdict (freed_by s time) list)
  unfolding stored_if stored_by frame_if accepted
  judged_lawful time line number len list filters f e = absurd (let z : ◌≡◌ {A = ℕ} 0 1 = cc in omega arith)
  judged_lawful time line number len list (polices i a c) f e = absurd (let z : ◌≡◌ {A = ℕ} 0 1 = cc in omega arith)
  judged_lawful time line number len list (drops i a c full) f e = absurd (let z : ◌≡◌ {A = ℕ} 0 1 = cc in omega arith)
  judged_lawful time line number len list (stores i a c room) f e =
      let w : arrived number len time ≡ f = cc in
      rw (← w) (record { place = i; at_place = a.at_place; named = a.named; not_shorter = a.not_shorter; not_longer = a.not_longer })

  step_lawful : (list : List ℕ) {r : Report} {x : Stepped} → Stepping t s list r x → Admits t (entry_of r x)
  unfolding stored_by frame_if
  step_lawful list (refuses {r = r} n) f e =
      absurd (let z : ◌≡◌ {A = ℕ} 0 1 = let w : ◌≡◌ {A = Option Frame} none (some f) = sym (frame_declined (eqb 0) r n) ∙ e in cc in omega arith)
  step_lawful list (waits time timely) f e = absurd (let z : ◌≡◌ {A = ℕ} 0 1 = cc in omega arith)
  step_lawful list (frames time line number len timely arrives x) f e = judged_lawful time line number len list x f e

pub run_lawful : (t : Table) (calls : List Call) → Always (λ e log. Admits t e) (run t calls).log
unfolding run
run_lawful t [] = start
run_lawful t (c ∷ calls) = then (step_lawful t (run t calls).port c.list (stepping t (run t calls).port c.list c.report)) (run_lawful t calls)

-- each departure is of a lawful frame
leaving_lawful : {t : Table} {l : List Frame} {ds : List Departure} → Each (λ f. Lawful t f.number f.length) l → Leaving t l ds → Each (λ d. Lawful t d.number d.length) ds
leaving_lawful m over = done
leaving_lawful {t = t} m (next {d = d} p f o c e low high r) =
    let it = each_oldest d.number f m c in
    also {a = d} (rw (← it.numbered, e) it.has) (leaving_lawful (each_without d.number m) r)

pub departures_lawful : (t : Table) (log : List Entry) → Always (λ e log. Leaving t (held_frames log) (departures_by e)) log → Always (λ e log. Admits t e) log
    → Each (λ d. Lawful t d.number d.length) (all_departures log)
unfolding all_departures
departures_lawful t [] start start = done
departures_lawful t (e ∷ log) (then x r) (then y q) = each_of_both (departures_lawful t log r q) (leaving_lawful (held_lawful t log q) x)

flows : (t : Table) (v : Passing t) (i : ℕ) (l : i < length t.links) (log : List Entry) → Always (λ e log. Leaving t (held_frames log) (departures_by e)) log → Always (λ e log. Admits t e) log
    → Flow t v i l log
unfolding ticks_of held_frames all_departures arrivals_of freed_of
flows t v i l [] start start = record { went = []; split = refl; follows = nothing }
flows t v i l (e ∷ log) (then x r) (then y q) = flow_on t v i l e log (held_lawful t log q) x (flows t v i l log r q)

-- ---- what is stored has passed
frame_if_more : (few more : ℕ → Bool) → ((k : ℕ) → few k ≡ true → more k ≡ true) → (r : Report) (a : Answer) (f : Frame) → frame_if few r a ≡ some f → frame_if more r a ≡ some f
unfolding frame_if
frame_if_more few more h (wait time) a f x = absurd (let z : ◌≡◌ {A = ℕ} 0 1 = cc in omega arith)
frame_if_more few more h (frame time line number len) a f x = go (accepted a) (few a.verdict) refl x
  where
    go : (b c : Bool) → few a.verdict ≡ c → cond (b && c) (some (arrived number len time)) none ≡ some f → cond (b && more a.verdict) (some (arrived number len time)) none ≡ some f
    go true true e x = rw (h a.verdict e) x
    go true false e x = absurd (let z : ◌≡◌ {A = ℕ} 0 1 = cc in omega arith)
    go false c e x = absurd (let z : ◌≡◌ {A = ℕ} 0 1 = cc in omega arith)

stored_passed : (e : Entry) (f : Frame) → stored_by e ≡ some f → passed_by e ≡ some f
unfolding stored_by passed_by
stored_passed e f x =
    frame_if_more (eqb 0) (λ verdict. not (eqb verdict 1) && not (eqb verdict 2)) (λ k q. let z : 0 ≡ k = eqb-true 0 k q in rw (← z)) e.report e.answer f x

stored_thinned : (n : ℕ) (log : List Entry) → Thinned (ticks_of stored_by n log) (ticks_of passed_by n log)
unfolding ticks_of and_tick
stored_thinned n [] = none_left
stored_thinned n (e ∷ log) = go (stored_by e) refl (passed_by e) refl (stored_thinned n log)
  where
    one : (x : Bool) (a b : List ℕ) (tick : ℕ) → Thinned a b → Thinned (cond x (a ++ (tick ∷ [])) a) (cond x (b ++ (tick ∷ [])) b)
    one true a b tick r = thinned_last tick r
    one false a b tick r = r

    more : (x : Bool) (a b : List ℕ) (tick : ℕ) → Thinned a b → Thinned a (cond x (b ++ (tick ∷ [])) b)
    more true a b tick r = thinned_more (tick ∷ []) r
    more false a b tick r = r

    go : (o : Option Frame) → stored_by e ≡ o → (q : Option Frame) → passed_by e ≡ q → Thinned (ticks_of stored_by n log) (ticks_of passed_by n log)
        → Thinned (and_tick n o (ticks_of stored_by n log)) (and_tick n q (ticks_of passed_by n log))
    go none x none y r = r
    go none x (some g) y r = more (eqb g.number n) (ticks_of stored_by n log) (ticks_of passed_by n log) g.arrival r
    go (some f) x none y r = absurd (let z : ◌≡◌ {A = ℕ} 0 1 = let w : ◌≡◌ {A = Option Frame} none (some f) = sym y ∙ stored_passed e f x in cc in omega arith)
    go (some f) x (some g) y r =
        let z : g ≡ f = let w : some g ≡ some f = sym y ∙ stored_passed e f x in cc in
        rw z (one (eqb f.number n) (ticks_of stored_by n log) (ticks_of passed_by n log) f.arrival r)

-- ---- so the departures of a link keep BAG and the next port's jitter
pub departures_keep : (t : Table) → Passing t → (calls : List Call) → Always (λ e log. Leaving t (held_frames log) (departures_by e)) (run t calls).log → (i : ℕ) → i < length t.links
    → KeepBagAndJitter (link_at t.links i) (ticks_of passed_by (link_at t.links i).number (run t calls).log) → (w : VirtualLink) → bag w ≡ bag (link_at t.links i)
    → (link_at t.links i).jitter + hold t (link_at t.links i).priority ≤ w.jitter + (link_at t.links i).least
    → KeepBagAndJitter w (freed_of (link_at t.links i).number (all_departures (run t calls).log))
departures_keep t v calls in_time i l keeps w same wide =
    let vl = link_at t.links i in
    let log = (run t calls).log in
    let k : Flow t v i l log = flows t v i l log in_time (run_lawful t calls) in
    follows_keeps vl w same wide k.follows
    (keeping_front vl k.went (arrivals_of vl.number (held_frames log)) (rw k.split at (thinned_keeps vl (stored_thinned vl.number log) keeps)))
