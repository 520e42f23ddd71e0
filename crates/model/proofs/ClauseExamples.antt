-- The words of the clauses of demand 3 on the examples' lists of calls. They go by the reports and their answers, so the answers shown give the log.
use mathlib.Core.Path.{◌≡◌, refl, sym, ap, ◌∙◌}
use mathlib.Core.List.{List, [], ◌∷◌, map, reverse, reverse-reverse}
use Prim.Native.Nat.{ℕ, zero, suc, ◌+◌, ◌≤◌, ◌<◌}
use native.Mathlib.Omega.{arith}
use lib.Dec.{lit≤}
use Rattle.model.specs.Basics.{Each, done, also, further}
use Rattle.model.specs.Units.{occupied}
use Rattle.model.specs.Link.{bag_of, place_of}
use Rattle.model.specs.Table.{Table}
use Rattle.model.specs.Machine.{bytes}
use Rattle.model.specs.Report.{Call}
use Rattle.model.specs.Run.{Entry, run, accepted, frame_if, stored_by, policed_by, dropped_by, passed_by, through_by, departures_in, departures_by, without, without_all, and_last, held_frames, is_priority, has_priority, only, held_of, most_held, and_tick, ticks_of, KeepBagAndJitter}
use Rattle.model.specs.Examples.{Outcome, Holding, Fates, log_of, outcome_of, outcomes, holdings, fates, Correct, table_e, calls_d, calls_e, calls_f, table_n, calls_n, calls_p, table_q, calls_q, calls_r, table_v, calls_v, calls_w}
use Rattle.model.specs.Examples as example
use Rattle.model.proofs.Examples as shown

-- ---- the log of calls whose outcomes are known
abbrev entry_with : Call → Outcome → Entry
entry_with c o = record { report = c.report; answer = o.answer; list = o.list }

unfoldable logged : List Call → List Outcome → List Entry
logged [] outcomes = []
logged (c ∷ calls) [] = []
logged (c ∷ calls) (o ∷ outcomes) = entry_with c o ∷ logged calls outcomes

run_logged : (t : Table) (calls : List Call) → (run t calls).log ≡ logged calls (map outcome_of (run t calls).log)
unfolding run logged
run_logged t [] = refl
run_logged t (c ∷ calls) = let e = run_logged t calls in cc

log_is : (t : Table) (calls : List Call) (expected : List Outcome) → outcomes t calls ≡ expected → log_of t calls ≡ logged (reverse calls) (reverse expected)
unfolding outcomes
log_is t calls expected e =
    let back : map outcome_of (log_of t calls) ≡ reverse expected = sym (reverse-reverse (map outcome_of (log_of t calls))) ∙ ap reverse e in
    run_logged t (reverse calls) ∙ ap (logged (reverse calls)) back

-- ---- a word of calls whose outcomes are known is that of their log
module _ (t : Table) (calls : List Call) {expected : List Outcome} (e : outcomes t calls ≡ expected) where
  abbrev known : List Entry
  known = logged (reverse calls) (reverse expected)

  holding : (p : ℕ) {holds : List Holding} → holdings t p known ≡ holds → holdings t p (log_of t calls) ≡ holds
  holding p h = rw (log_is t calls expected e) h

  befalling : (n : ℕ) {f : Fates} → fates n known ≡ f → fates n (log_of t calls) ≡ f
  befalling n h = rw (log_is t calls expected e) h

-- names for all that a word computes with
the_words : ℕ
unfolding Correct logged holdings held_of most_held held_frames and_last without_all without departures_by departures_in ticks_of and_tick stored_by policed_by dropped_by passed_by through_by frame_if accepted only has_priority is_priority place_of further bytes occupied
the_words = 0

pub held_d0 : Correct example.held_d0
unfolding the_words
held_d0 = holding table_e calls_d shown.d 0 refl

pub held_d1 : Correct example.held_d1
unfolding the_words
held_d1 = holding table_e calls_d shown.d 1 refl

pub held_r1 : Correct example.held_r1
unfolding the_words
held_r1 = holding table_e calls_r shown.r 1 refl

pub held_n0 : Correct example.held_n0
unfolding the_words
held_n0 = holding table_n calls_n shown.n 0 refl

pub held_v0 : Correct example.held_v0
unfolding the_words
held_v0 = holding table_v calls_v shown.v 0 refl

pub fates_e : Correct example.fates_e
unfolding the_words
fates_e = befalling table_e calls_e shown.e 1 refl

pub fates_f : Correct example.fates_f
unfolding the_words
fates_f = befalling table_e calls_f shown.f 1 refl

pub fates_n : Correct example.fates_n
unfolding the_words
fates_n = befalling table_n calls_n shown.n 2 refl

pub fates_p : Correct example.fates_p
unfolding the_words
fates_p = befalling table_e calls_p shown.p 1 refl

pub fates_q : Correct example.fates_q
unfolding the_words
fates_q = befalling table_q calls_q shown.q 1 refl

pub fates_v : Correct example.fates_v
unfolding the_words
fates_v = befalling table_v calls_v shown.v 1 refl

pub fates_w : Correct example.fates_w
unfolding the_words
fates_w = befalling table_v calls_w shown.w 1 refl

-- ---- BAG and jitter

-- of two frames there are just the first and the second to compare
of_two : (Q : ℕ → ℕ → Type 0) → Q 0 1 → (i j : ℕ) → 1 ≤ j → i + j < 2 → Q i j
of_two Q here zero zero o l = absurd (omega arith)
of_two Q here zero (suc zero) o l = here
of_two Q here zero (suc (suc j)) o l = absurd (omega arith)
of_two Q here (suc i) zero o l = absurd (omega arith)
of_two Q here (suc i) (suc j) o l = absurd (omega arith)

abbrev through_in : Fates → List ℕ
through_in f = f.through

pub keeps_f : Correct example.keeps_f
unfolding Correct KeepBagAndJitter bag_of
keeps_f = rw (ap through_in fates_f) (of_two _ (lit≤ tt))

pub keeps_v : Correct example.keeps_v
unfolding Correct KeepBagAndJitter bag_of
keeps_v = rw (ap through_in fates_v) (of_two _ (lit≤ tt))

pub breaks_e : Correct example.breaks_e
unfolding Correct KeepBagAndJitter bag_of
breaks_e keeps = let k = rw (ap through_in fates_e) at keeps in omega (arith, k 0 1 (lit≤ tt) (lit≤ tt))

pub breaks_w : Correct example.breaks_w
unfolding Correct KeepBagAndJitter bag_of
breaks_w keeps = let k = rw (ap through_in fates_w) at keeps in omega (arith, k 0 2 (lit≤ tt) (lit≤ tt))

pub words_correct : Each Correct example.words
words_correct =
    also held_d0 (also held_d1 (also held_r1 (also held_n0 (also held_v0 (also fates_e (also fates_f (also fates_n (also fates_p (also fates_q (also fates_v (also fates_w
    (also keeps_f (also keeps_v (also breaks_e (also breaks_w done)))))))))))))))
