-- Of a table that passes, with bounds or without: a link that keeps BAG and jitter has none of its frames policed.
use mathlib.Core.Path.{◌≡◌, refl, sym, ap, ◌∙◌}
use mathlib.Core.Logic.{◌≢◌}
use mathlib.Core.Bool.{Bool, true, false, cond, not}
use mathlib.Core.Option.{Option, none, some}
use mathlib.Core.List.{List, [], ◌∷◌, ◌++◌}
use Prim.Native.Nat.{ℕ, ◌≤◌, ◌<◌}
use native.Mathlib.Decide.{ℕ_discrete}
use native.Mathlib.Omega.{arith}
use lib.Dec.{eqb}
use borrow.Author.Tests.{eq-eqb, ne_eqb}
use lib.ListN.{length, set}
use Rattle.model.specs.Units.{occupied}
use Rattle.model.specs.Link.{VirtualLink, bag, link_at}
use Rattle.model.specs.Table.{Table}
use Rattle.model.specs.Machine.{Frame}
use Rattle.model.specs.Port.{Account, Port, account_at, fresh}
use Rattle.model.specs.Report.{Report, wait, frame, Judged, stored_if, arrived, Call, Stepped}
use Rattle.model.specs.Run.{Entry, run, accepted, frame_if, policed_by, through_by, and_tick, ticks_of, KeepBagAndJitter, LinkKeeps, Always, start, then}
use Rattle.model.proofs.Curves.{occupied_weight}
use Rattle.model.proofs.Gate.{numbers_apart, renewed, reduced, after_set, full_at}
use Rattle.model.proofs.Keeping.{keeping_before, Paid, paid_start, paid_covers, paid_charged}
use Rattle.model.proofs.Passing.{Passing}
use Rattle.model.proofs.Stepping.{Admitted, Judgement, filters, polices, drops, stores, Timely, reached, freed_by, Stepping, refuses, waits, frames, stepping}
use Rattle.model.proofs.Log.{entry_of, taken, declined, frame_declined}
use Rattle.model.proofs.Invariant.{Invariant, run_kept}

-- ---- ticks of the frames of a number
pub ticks_none : (given : Entry → Option Frame) (n : ℕ) (e : Entry) (log : List Entry) → given e ≡ none → ticks_of given n (e ∷ log) ≡ ticks_of given n log
unfolding ticks_of and_tick
ticks_none given n e log x = rw x

pub ticks_same : (given : Entry → Option Frame) (n : ℕ) (e : Entry) (log : List Entry) (f : Frame) → given e ≡ some f → f.number ≡ n
    → ticks_of given n (e ∷ log) ≡ ticks_of given n log ++ (f.arrival ∷ [])
unfolding ticks_of and_tick
ticks_same given n e log f x y = rw (x, eq-eqb f.number n y)

pub ticks_other : (given : Entry → Option Frame) (n : ℕ) (e : Entry) (log : List Entry) (f : Frame) → given e ≡ some f → (f.number ≡ n → ⊥)
    → ticks_of given n (e ∷ log) ≡ ticks_of given n log
unfolding ticks_of and_tick
ticks_other given n e log f x y = rw (x, ne_eqb f.number n y)

keeping_past : (v : VirtualLink) (e : Entry) (log : List Entry) → LinkKeeps v (e ∷ log) → LinkKeeps v log
unfolding ticks_of and_tick
keeping_past v e log k = go (through_by e) k
  where
    go : (o : Option Frame) → KeepBagAndJitter v (and_tick v.number o (ticks_of through_by v.number log)) → KeepBagAndJitter v (ticks_of through_by v.number log)
    go none k = k
    go (some f) k = pick (eqb f.number v.number) k
      where
        pick : (x : Bool) → KeepBagAndJitter v (cond x (ticks_of through_by v.number log ++ (f.arrival ∷ [])) (ticks_of through_by v.number log)) → KeepBagAndJitter v (ticks_of through_by v.number log)
        pick true k = keeping_before v (ticks_of through_by v.number log) f.arrival k
        pick false k = k

-- ---- links that kept BAG and jitter can pay; and of such a link no frame is policed
abbrev AllPaid : Table → List Account → List Entry → Type 0
AllPaid t accounts log = (i : ℕ) → i < length t.links → LinkKeeps (link_at t.links i) log
    → Paid (link_at t.links i) (ticks_of through_by (link_at t.links i).number log) (account_at accounts i)

abbrev pub Spared : Table → Entry → List Entry → Type 0
Spared t e log = (i : ℕ) → i < length t.links → LinkKeeps (link_at t.links i) (e ∷ log) → (f : Frame) → policed_by e ≡ some f → f.number ≡ (link_at t.links i).number → ⊥

module _ (t : Table) (v : Passing t) (s : Port) (log : List Entry) (inv : Invariant t s log) (k : AllPaid t s.gate.accounts log) where
  -- the accounts after an entry
  record Pays (accounts : List Account) (e : Entry) : Type 0 where
    paid : AllPaid t accounts (e ∷ log)
    spared : Spared t e log

  none_through : (e : Entry) → through_by e ≡ none → policed_by e ≡ none → Pays s.gate.accounts e
  none_through e x y =
      record {
        paid = λ i l. rw (ticks_none through_by (link_at t.links i).number e log x) (k i l);
        spared = λ i l j f z. absurd (let o : ◌≡◌ {A = ℕ} 0 1 = let w : ◌≡◌ {A = Option Frame} none (some f) = sym y ∙ z in cc in omega arith);
      }

  module _ (time line number len : ℕ) (timely : Timely s time) (i : ℕ) (a : Admitted t line number len i) where
    abbrev vl : VirtualLink
    vl = link_at t.links i

    abbrev it : Frame
    it = arrived number len time

    abbrev known : List ℕ
    known = ticks_of through_by vl.number log

    ticked : (account_at s.gate.accounts i).tick ≤ time
    ticked = omega (arith, (inv.good occupied occupied_weight (λ _. true)).account_past i a.at_place, timely.from)

    -- another link's number
    another : (j : ℕ) → j < length t.links → j ≢ i → number ≡ (link_at t.links j).number → ⊥
    another j l n e = numbers_apart t.links v.rising j i l a.at_place n (sym (a.named ∙ e))

    -- the accounts after a frame that the filter let through: the link's own is set, the others stay
    paid_set : (e : Entry) → through_by e ≡ some it → (account : Account)
        → (KeepBagAndJitter vl (known ++ (time ∷ [])) → Paid vl (known ++ (time ∷ [])) account) → AllPaid t (set s.gate.accounts i account) (e ∷ log)
    paid_set e x account own =
        after_set (λ j account. LinkKeeps (link_at t.links j) (e ∷ log) → Paid (link_at t.links j) (ticks_of through_by (link_at t.links j).number (e ∷ log)) account)
        (length t.links) s.gate.accounts (record { credit = 0; tick = 0 }) i account (inv.good occupied occupied_weight (λ _. true)).accounts_length a.at_place
        (λ keeps. let q = ticks_same through_by vl.number e log it x (sym a.named) in rw q (own (rw q at keeps)))
        (λ j l n keeps. let q = ticks_other through_by (link_at t.links j).number e log it x (another j l n) in rw q (k j l (rw q at keeps)))

    broken : (renewed t.links s.gate i time).credit < bag vl → KeepBagAndJitter vl (known ++ (time ∷ [])) → ⊥
    broken c keeps = omega (arith, paid_covers vl known (account_at s.gate.accounts i) time keeps ticked (k i a.at_place (keeping_before vl known time keeps)))

    policed_pays : (renewed t.links s.gate i time).credit < bag vl → (e : Entry) → through_by e ≡ some it → policed_by e ≡ some it → Pays (set s.gate.accounts i (renewed t.links s.gate i time)) e
    policed_pays c e x y =
        record {
          paid = paid_set e x (renewed t.links s.gate i time) (λ keeps. absurd (broken c keeps));
          spared =
              λ j l keeps f z same.
              sentenced j l keeps (ℕ_discrete j i)
              (let w : it ≡ f = let w' : some it ≡ some f = sym y ∙ z in cc in ap (λ (g : Frame). g.number) w ∙ same);
        }
      where
        sentenced : (j : ℕ) → j < length t.links → LinkKeeps (link_at t.links j) (e ∷ log) → Dec (j ≡ i) → number ≡ (link_at t.links j).number → ⊥
        sentenced j l keeps (yes q) _ =
            let own : LinkKeeps vl (e ∷ log) = rw q at keeps in
            broken c (rw (ticks_same through_by vl.number e log it x (sym a.named)) at own)
        sentenced j l keeps (no n) same = another j l n same

    passed_pays : bag vl ≤ (renewed t.links s.gate i time).credit → (e : Entry) → through_by e ≡ some it → policed_by e ≡ none → Pays (set s.gate.accounts i (reduced t.links s.gate i time)) e
    passed_pays c e x y =
        record {
          paid =
              paid_set e x (reduced t.links s.gate i time)
              (λ keeps. paid_charged vl known (account_at s.gate.accounts i) time ticked c (k i a.at_place (keeping_before vl known time keeps)));
          spared = λ j l keeps f z. absurd (let o : ◌≡◌ {A = ℕ} 0 1 = let w : ◌≡◌ {A = Option Frame} none (some f) = sym y ∙ z in cc in omega arith);
        }

  judged_pays : (time line number len : ℕ) → Timely s time → (list : List ℕ) {j : Judged} → Judgement t (reached s time line) time line number len j
      → Pays j.port.gate.accounts (taken (frame time line number len) j.verdict (freed_by s time) list)
  unfolding stored_if through_by policed_by frame_if accepted
  judged_pays time line number len timely list filters = none_through (taken (frame time line number len) 1 (freed_by s time) list) refl refl
  judged_pays time line number len timely list (polices i a c) = policed_pays time line number len timely i a c (taken (frame time line number len) 2 (freed_by s time) list) refl refl
  judged_pays time line number len timely list (drops i a c full) = passed_pays time line number len timely i a c (taken (frame time line number len) 3 (freed_by s time) list) refl refl
  judged_pays time line number len timely list (stores i a c room) = passed_pays time line number len timely i a c (taken (frame time line number len) 0 (freed_by s time) list) refl refl

  step_pays : (list : List ℕ) {r : Report} {x : Stepped} → Stepping t s list r x → Pays x.port.gate.accounts (entry_of r x)
  unfolding through_by policed_by frame_if
  step_pays list (refuses {r = r} n) = none_through (declined r n list) (frame_declined (λ verdict. not (eqb verdict 1)) r n) (frame_declined (eqb 2) r n)
  step_pays list (waits time timely) = none_through (taken (wait time) 0 (freed_by s time) list) refl refl
  step_pays list (frames time line number len timely arrives x) = judged_pays time line number len timely list x

run_paid : (t : Table) → Passing t → (calls : List Call) → AllPaid t (run t calls).port.gate.accounts (run t calls).log
unfolding run fresh ticks_of
run_paid t v [] = λ i l keeps. rw (full_at t.links i l) (paid_start (link_at t.links i))
run_paid t v (c ∷ calls) =
    (step_pays t v (run t calls).port (run t calls).log (run_kept t v calls) (run_paid t v calls) c.list (stepping t (run t calls).port c.list c.report)).paid

-- each entry by itself, as far as the links kept until then
pub run_spared : (t : Table) → Passing t → (calls : List Call) → Always (Spared t) (run t calls).log
unfolding run
run_spared t v [] = start
run_spared t v (c ∷ calls) =
    then (step_pays t v (run t calls).port (run t calls).log (run_kept t v calls) (run_paid t v calls) c.list (stepping t (run t calls).port c.list c.report)).spared
    (run_spared t v calls)

-- the clause of demand 3
spared_all : (t : Table) (i : ℕ) → i < length t.links → (log : List Entry) → Always (Spared t) log → LinkKeeps (link_at t.links i) log
    → Always (λ e log. (f : Frame) → policed_by e ≡ some f → f.number ≡ (link_at t.links i).number → ⊥) log
spared_all t i l [] start keeps = start
spared_all t i l (e ∷ log) (then x r) keeps = then {e = e} {log = log} (x i l keeps) (spared_all t i l log r (keeping_past (link_at t.links i) e log keeps))

pub not_policed : (t : Table) → Passing t → (calls : List Call) → (i : ℕ) → i < length t.links → LinkKeeps (link_at t.links i) (run t calls).log
    → Always (λ e log. (f : Frame) → policed_by e ≡ some f → f.number ≡ (link_at t.links i).number → ⊥) (run t calls).log
not_policed t v calls i l keeps = spared_all t i l (run t calls).log (run_spared t v calls) keeps
