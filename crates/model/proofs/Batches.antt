-- Batches: a batch is the single calls in that order; how far a batch is; what each report writes of the list that it is lent.
use mathlib.Core.Path.{◌≡◌, refl, sym, ◌∙◌}
use mathlib.Core.List.{List, [], ◌∷◌, ◌++◌, append-nil, append_assoc, flat_map}
use Prim.Native.Nat.{ℕ, zero, suc, ◌+◌, ◌*◌}
use native.Mathlib.Omega.{arith}
use lib.Dec.{ltb}
use lib.ListN.{length, take, drop, length-append}
use lib.Seq.{take_at, drop_at, drop-drop}
use Rattle.model.specs.Table.{Table}
use Rattle.model.specs.Machine.{Departure, frames_held, advance}
use Rattle.model.specs.Port.{Port}
use Rattle.model.specs.Report.{Report, tick_of, Call, Stepped, step, accepted_or, all_checks, report_refusal, listed, three_numbers}
use Rattle.model.specs.Run.{Entry, run}
use Rattle.model.specs.Batch.{Batched, batch, departure_numbers, frames_freed, over, single, several, logged, turn, run_turns}
use Rattle.model.specs.Promises.{TurnsAreRuns, DemandThreeOfTurns}
use Rattle.model.proofs.Lists.{length-flat_map}
use Rattle.model.proofs.Demand as Demand

-- ---- a batch is a run
pub calls_of : (t : Table) (reports : List Report) (list : List ℕ) (calls : List Call) → (more : List Call) ×
    (run t more ≡ record { port = (batch t (run t calls).port reports list).port; log = logged (batch t (run t calls).port reports list).entries (run t calls).log })
unfolding batch logged run
calls_of t [] list calls = (calls, refl)
calls_of t (r ∷ reports) list calls =
    let c : Call = record { report = r; list = list } in
    let a = step t (run t calls).port c in
    calls_of t reports (drop (3 * a.answer.frames) a.list) (c ∷ calls)

pub turns_are_runs : TurnsAreRuns
unfolding run_turns turn run
turns_are_runs t [] = ([], refl)
turns_are_runs t (single c ∷ turns) = let k = turns_are_runs t turns in (c ∷ k.0, rw k.1)
turns_are_runs t (several reports list ∷ turns) = let k = turns_are_runs t turns in let m = calls_of t reports list k.0 in (m.0, rw k.1 (sym m.1))

pub demand_of_turns : DemandThreeOfTurns
demand_of_turns t e turns = let k = turns_are_runs t turns in rw k.1 (Demand.demand_three t e k.0)

-- ---- how far a batch is

-- a batch with entries before its own
abbrev pub afterwards : List Entry → Batched → Batched
afterwards entries b = record { port = b.port; entries = entries ++ b.entries }

-- the whole is what has been answered so far, and the batch from here
pub record Going (t : Table) (whole : Batched) (so_far : List Entry) (s : Port) (reports : List Report) (list : List ℕ) : Type 0 where
  pub split : whole ≡ afterwards so_far (batch t s reports list)

pub at_first : (t : Table) (s : Port) (reports : List Report) (list : List ℕ) → Going t (batch t s reports list) [] s reports list
at_first t s reports list = record { split = refl }

abbrev pub entry_of : Table → Port → Report → List ℕ → Entry
entry_of t s r list = let a = step t s (record { report = r; list = list }) in record { report = r; answer = a.answer; list = a.list }

abbrev pub port_after : Table → Port → Report → List ℕ → Port
port_after t s r list = (step t s (record { report = r; list = list })).port

pub goes_on : {t : Table} {whole : Batched} {so_far : List Entry} {s : Port} {r : Report} {reports : List Report} {list : List ℕ} → Going t whole so_far s (r ∷ reports) list →
    Going t whole (so_far ++ (entry_of t s r list ∷ [])) (port_after t s r list) reports (drop (3 * (entry_of t s r list).answer.frames) (entry_of t s r list).list)
unfolding batch
goes_on {so_far = so_far} g = record { split = rw append_assoc g.split }

pub at_last : {t : Table} {whole : Batched} {so_far : List Entry} {s : Port} {list : List ℕ} → Going t whole so_far s [] list → whole ≡ record { port = s; entries = so_far }
unfolding batch
at_last g = rw append-nil at g.split

-- ---- one entry more
pub freed_more : (entries : List Entry) (e : Entry) → frames_freed (entries ++ (e ∷ [])) ≡ frames_freed entries + e.answer.frames
unfolding frames_freed
freed_more [] e = omega arith
freed_more (x ∷ entries) e = omega (arith, freed_more entries e)

-- numbers put behind those at the start of a list
pub over_more : (xs ys old l : List ℕ) (k : ℕ) → length xs ≡ k → l ≡ over xs old → take k l ++ (ys ++ drop (k + length ys) l) ≡ over (xs ++ ys) old
over_more xs ys old l k n e =
    rw (
      e,
      take_at xs (drop (length xs) old) k n,
      ← drop-drop (length ys) k (xs ++ drop (length xs) old),
      drop_at xs (drop (length xs) old) k n,
      length-append,
      ← drop-drop (length ys) (length xs) old,
      append_assoc,
    )

-- ---- what a report leaves of the list that it is lent
pub record Leaves (list : List ℕ) (e : Entry) : Type 0 where
  -- its departures, three numbers each
  pub written : length (departure_numbers e) ≡ 3 * e.answer.frames
  -- and the rest as found
  pub rest : drop (3 * e.answer.frames) e.list ≡ drop (3 * e.answer.frames) list

listed_leaves : (ds : List Departure) (list : List ℕ) → (length (take (3 * length ds) (listed ds list)) ≡ 3 * length ds) × (drop (3 * length ds) (listed ds list) ≡ drop (3 * length ds) list)
listed_leaves ds list =
    let n : length (flat_map three_numbers ds) ≡ 3 * length ds = length-flat_map three_numbers 3 (λ x. refl) ds in
    (rw (take_at (flat_map three_numbers ds) (drop (3 * length ds) list) (3 * length ds) n) n, drop_at (flat_map three_numbers ds) (drop (3 * length ds) list) (3 * length ds) n)

pub leaves : (t : Table) (s : Port) (r : Report) (list : List ℕ) → Leaves list (entry_of t s r list)
unfolding step accepted_or
leaves t s r list = go (report_refusal t s r (length list)) refl
  where
    go : (n : ℕ) → report_refusal t s r (length list) ≡ n → Leaves list (record { report = r; answer = (accepted_or n t s (record { report = r; list = list })).answer; list = (accepted_or n t s (record { report = r; list = list })).list })
    go zero q = let k = listed_leaves (advance (tick_of r) s.scheduler).departures list in record { written = k.0; rest = k.1 }
    go (suc n) q = record { written = refl; rest = refl }

-- two lists that both have room, or both not: the answer, the port and the departures are the same
pub record Alike (t : Table) (s : Port) (r : Report) (list other : List ℕ) : Type 0 where
  pub answer : (entry_of t s r list).answer ≡ (entry_of t s r other).answer
  pub port : port_after t s r list ≡ port_after t s r other
  pub departures : departure_numbers (entry_of t s r list) ≡ departure_numbers (entry_of t s r other)

same_refusal : (t : Table) (s : Port) (r : Report) (n m : ℕ) → ltb n (3 * frames_held s.scheduler.queues) ≡ ltb m (3 * frames_held s.scheduler.queues) → report_refusal t s r n ≡ report_refusal t s r m
unfolding report_refusal all_checks
same_refusal t s r n m e = rw e

first_listed : (ds : List Departure) (list : List ℕ) → take (3 * length ds) (listed ds list) ≡ flat_map three_numbers ds
first_listed ds list = take_at (flat_map three_numbers ds) (drop (3 * length ds) list) (3 * length ds) (length-flat_map three_numbers 3 (λ x. refl) ds)

module _ (t : Table) (s : Port) (r : Report) (list other : List ℕ) where
  both : List ℕ → ℕ → Stepped
  both l n = accepted_or n t s (record { report = r; list = l })

  both_answer : (n : ℕ) → (both list n).answer ≡ (both other n).answer
  unfolding both accepted_or
  both_answer zero = refl
  both_answer (suc n) = refl

  both_port : (n : ℕ) → (both list n).port ≡ (both other n).port
  unfolding both accepted_or
  both_port zero = refl
  both_port (suc n) = refl

  both_listed : (n : ℕ) → take (3 * (both list n).answer.frames) (both list n).list ≡ take (3 * (both other n).answer.frames) (both other n).list
  unfolding both accepted_or
  both_listed zero = let ds = (advance (tick_of r) s.scheduler).departures in first_listed ds list ∙ sym (first_listed ds other)
  both_listed (suc n) = refl

  pub alike : ltb (length list) (3 * frames_held s.scheduler.queues) ≡ ltb (length other) (3 * frames_held s.scheduler.queues) → Alike t s r list other
  unfolding step both
  alike e =
      let same = same_refusal t s r (length list) (length other) e in
      let n = report_refusal t s r (length other) in
      record { answer = rw same (both_answer n); port = rw (port_after, same) (both_port n); departures = rw same (both_listed n) }
