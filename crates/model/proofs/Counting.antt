-- The counters of a port: what is so of every count, and that a report keeps each at most full.
use mathlib.Core.Path.{◌≡◌, refl}
use mathlib.Core.Bool.{Bool, true, false, cond, and-eq-true_iff}
use mathlib.Core.Option.{Option, none, some}
use mathlib.Core.List.{List, [], ◌∷◌}
use Prim.Native.Nat.{ℕ, zero, suc, ◌≤◌, ◌<◌}
use native.Mathlib.Omega.{arith}
use lib.Dec.{leb, ltb}
use borrow.Author.Tests.{le-leb, leb-true, ltb-true}
use lib.ListN.{length, get_or, set, replicate}
use Rattle.model.specs.Basics.{all_to}
use Rattle.model.specs.Units.{full_count}
use Rattle.model.specs.Table.{Table}
use Rattle.model.specs.Counters.{Counters, verdicts, counts_of, count_at, none_counted, risen, counted, every_count}
use Rattle.model.specs.Port.{Port, fresh}
use Rattle.model.specs.Report.{Report, Judged, stored_if, counted_by, Call, Stepped}
use Rattle.model.specs.Run.{run}
use Rattle.model.proofs.Lists.{set_each}
use Rattle.model.proofs.Checks.{all_to_lem, to_all}
use Rattle.model.proofs.Stepping.{Judgement, filters, polices, drops, stores, reached, Stepping, refuses, waits, frames, stepping}

-- ---- every count

pub record EachCount (P : ℕ → Type 0) (n : ℕ) (c : Counters) : Type 0 where
  pub of_link_lem : (i verdict : ℕ) → i < n → verdict < verdicts → P (count_at c i verdict)
  pub of_unknown : P c.unknown

module _ (test : ℕ → Bool) (n : ℕ) (c : Counters) where
  pub every_is : every_count test n c ≡ true → EachCount (λ count. test count ≡ true) n c
  unfolding every_count
  every_is e =
      let both = (and-eq-true_iff (all_to (λ i. all_to (λ verdict. test (count_at c i verdict)) verdicts) n) (test c.unknown)).0 e in
      record {
        of_link_lem = λ i verdict h l. all_to_lem (λ v. test (count_at c i v)) verdicts (all_to_lem (λ j. all_to (λ v. test (count_at c j v)) verdicts) n both.0 i h) verdict l;
        of_unknown = both.1;
      }

  pub is_every : EachCount (λ count. test count ≡ true) n c → every_count test n c ≡ true
  unfolding every_count
  is_every k =
      (and-eq-true_iff (all_to (λ i. all_to (λ verdict. test (count_at c i verdict)) verdicts) n) (test c.unknown)).1
      (to_all (λ i. all_to (λ v. test (count_at c i v)) verdicts) n (λ i h. to_all (λ v. test (count_at c i v)) verdicts (λ v l. k.of_link_lem i v h l)), k.of_unknown)

-- ---- at most full, as fitness asks
abbrev pub FitCounts : ℕ → Counters → Type 0
FitCounts n c = EachCount (λ count. count ≤ full_count) n c

pub fit_counts : (n : ℕ) (c : Counters) → every_count (λ count. leb count full_count) n c ≡ true → FitCounts n c
fit_counts n c e =
    let k = every_is (λ count. leb count full_count) n c e in
    record { of_link_lem = λ i v h l. leb-true _ full_count (k.of_link_lem i v h l); of_unknown = leb-true _ full_count k.of_unknown }

pub counts_fit : (n : ℕ) (c : Counters) → FitCounts n c → every_count (λ count. leb count full_count) n c ≡ true
counts_fit n c k =
    is_every (λ count. leb count full_count) n c
    (record { of_link_lem = λ i v h l. le-leb _ full_count (k.of_link_lem i v h l); of_unknown = le-leb _ full_count k.of_unknown })

-- ---- a frame more
risen_few : (n : ℕ) → n ≤ full_count → risen n ≤ full_count
unfolding risen
risen_few n h = go (ltb n full_count) refl
  where
    go : (b : Bool) → ltb n full_count ≡ b → cond b (suc n) n ≤ full_count
    go true e = ltb-true n full_count e
    go false e = h

pub counted_fit : {n : ℕ} {c : Counters} (place : Option ℕ) (verdict : ℕ) → FitCounts n c → FitCounts n (counted place verdict c)
unfolding counted
counted_fit none verdict k = record { of_link_lem = k.of_link_lem; of_unknown = risen_few _ k.of_unknown }
counted_fit {n} {c} (some i) verdict k =
    record {
      of_link_lem =
          λ j v h l.
          set_each (λ _ counts. (v : ℕ) → v < verdicts → get_or counts v 0 ≤ full_count) n c.links [] i (set (counts_of c i) verdict (risen (count_at c i verdict)))
          (λ h. set_each (λ _ count. count ≤ full_count) verdicts (counts_of c i) 0 verdict (risen (count_at c i verdict)) (λ l. risen_few _ (k.of_link_lem i verdict h l)) (λ v l. k.of_link_lem i v h l))
          (λ j h v l. k.of_link_lem j v h l) j h v l;
      of_unknown = k.of_unknown;
    }

-- ---- a report: the verdict leaves the counters
pub judged_counters : (t : Table) (s : Port) (time line number len : ℕ) {j : Judged} → Judgement t s time line number len j → j.port.counters ≡ s.counters
unfolding stored_if
judged_counters t s time line number len filters = refl
judged_counters t s time line number len (polices i a c) = refl
judged_counters t s time line number len (drops i a c full) = refl
judged_counters t s time line number len (stores i a c room) = refl

step_counts : (t : Table) (s : Port) (list : List ℕ) → FitCounts (length t.links) s.counters → {r : Report} {x : Stepped} → Stepping t s list r x → FitCounts (length t.links) x.port.counters
unfolding counted_by
step_counts t s list k (refuses n) = k
step_counts t s list k (waits time timely) = k
step_counts t s list k (frames time line number len timely arrives j) =
    counted_fit _ _ (rw (judged_counters t (reached s time line) time line number len j) k)

pub none_at : (n i v : ℕ) → count_at (none_counted n) i v ≡ 0
none_at zero i v = refl
none_at (suc n) zero v = zeros verdicts v
  where
    zeros : (m v : ℕ) → get_or {A = ℕ} (replicate m 0) v 0 ≡ 0
    zeros zero v = refl
    zeros (suc m) zero = refl
    zeros (suc m) (suc v) = zeros m v
none_at (suc n) (suc i) v = none_at n i v

none_yet : (n : ℕ) → FitCounts n (none_counted n)
none_yet n = record { of_link_lem = λ i v h l. omega (arith, none_at n i v); of_unknown = omega arith }

-- whatever the table
pub run_counts : (t : Table) (calls : List Call) → FitCounts (length t.links) (run t calls).port.counters
unfolding run fresh
run_counts t [] = none_yet (length t.links)
run_counts t (c ∷ calls) = step_counts t (run t calls).port c.list (run_counts t calls) (stepping t (run t calls).port c.list c.report)
