-- A chain of calls is a run of the model; two calls are two of the model's.
use mathlib.Core.Path.{◌≡◌, refl, sym, ap, ◌∙◌}
use mathlib.Core.List.{List, [], ◌∷◌}
use Prim.Native.Nat.{ℕ}
use Rattle.model.specs.Redundancy.{State, Presented, Entry, Selection, decide, select, entry_of, state_after, run, Refused, none_between, one_more}
use Rattle.model.proofs.Theorems.{one_of_two, selected_always}
use Rattle.refusal.specs.Numbers.{number_or_0}
use Rattle.redundancy.specs.declared.State.{State as StateRecord}
use Rattle.redundancy.specs.View.{view_state, view_selection}
use Rattle.redundancy.specs.Calls.{entry_with, Chain, begins, goes_on, SelectedOfCalls, RefusedCalls, OneOfTwoOfCalls}
use Rattle.redundancy.specs.Calls as calls

-- the calls of a chain, and that their run is its log and its state
record IsRun (skew : ℕ) (s : StateRecord) (log : List Entry) : Type 0 where
  made : List Presented
  is_log : run skew made ≡ log
  is_state : state_after skew log ≡ view_state s

is_run : (skew : ℕ) (s : StateRecord) (log : List Entry) → Chain skew s log → IsRun skew s log
unfolding run state_after
is_run skew s log (begins e) = record { made = []; is_log = refl; is_state = sym e }
is_run skew s log (goes_on {s = before} {log = earlier} c r chain e) =
    let h = is_run skew before earlier chain in
    let same : state_after skew (run skew h.made) ≡ view_state before = ap (state_after skew) h.is_log ∙ h.is_state in
    let answer : select (state_after skew (run skew h.made)) c ≡ view_selection r = ap (λ (x : State). select x c) same ∙ sym e in
    record {
      made = c ∷ h.made;
      is_log = λ i. record { presented = c; answer = answer i } ∷ h.is_log i;
      is_state = refl;
    }

pub selected_of_calls : SelectedOfCalls
selected_of_calls skew s log chain = let h = is_run skew s log chain in rw (sym h.is_log) (selected_always skew h.made)

refused_calls : (s s' : StateRecord) → RefusedCalls s s' → Refused (view_state s) (view_state s')
unfolding select
refused_calls s s' calls.none_between = none_between
refused_calls s s' (calls.one_more {s' = before} c r rest e n) =
    let state : (decide (view_state before) c).state ≡ view_state r.decision.state = sym (ap (λ (x : Selection). x.decision.state) e) in
    let refused : (decide (view_state before) c).refused ≡ number_or_0 r.decision.outcome = sym (ap (λ (x : Selection). x.decision.refused) e) in
    rw (sym state) (one_more c (refused_calls s before rest) (λ z. n (sym refused ∙ z)))

pub one_of_two_of_calls : OneOfTwoOfCalls
one_of_two_of_calls s s' c c' r r' e between e' copies =
    let first : entry_with c r ≡ entry_of (view_state s) c = ap (λ (x : Selection). record { presented = c; answer = x }) e in
    let second : entry_with c' r' ≡ entry_of (view_state s') c' = ap (λ (x : Selection). record { presented = c'; answer = x }) e' in
    let state : view_state r.decision.state ≡ (select (view_state s) c).decision.state = ap (λ (x : Selection). x.decision.state) e in
    rw (first, second) (one_of_two (view_state s) (view_state s') c c' (rw (sym state) (refused_calls r.decision.state s' between)) (rw (sym first, sym second) copies))
