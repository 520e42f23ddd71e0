-- The theorems of the model for the real calls: what a user of `State::fresh` and `State::select` gets.
use Rattle.std.specs.Prelude.{◌≡◌, true, List, [], ◌∷◌, ℕ, ◌≤◌}
use Rattle.model.specs.Redundancy.{Presented, Entry, fresh, select, hands_on, how_many, Copies, Selected}
use Rattle.refusal.specs.Numbers.{number_or_0}
use Rattle.redundancy.specs.declared.State.{State as StateRecord}
use Rattle.redundancy.specs.declared.Selection.{Selection as SelectionRecord}
use Rattle.redundancy.specs.View.{view_state, view_selection}

-- `select` of a state record answered as its contract says
abbrev pub Answered : StateRecord → Presented → SelectionRecord → Type 0
Answered s c r = view_selection r ≡ select (view_state s) c

abbrev pub entry_with : Presented → SelectionRecord → Entry
entry_with c r = record { presented = c; answer = view_selection r }

-- a chain of calls, each of the state that the one before handed back, with the state record handed back last and the log, the latest first
pub data Chain (skew : ℕ) : StateRecord → List Entry → Type 0 where
  -- `fresh` gave a state
  begins : {s : StateRecord} → view_state s ≡ fresh skew → Chain skew s []
  goes_on : {s : StateRecord} {log : List Entry} (c : Presented) (r : SelectionRecord) → Chain skew s log → Answered s c r
      → Chain skew r.decision.state (entry_with c r ∷ log)

-- of every chain: parts are presented frames without their last byte, in order of their ticks, and no refusal changes the state
abbrev pub SelectedOfCalls : Type 0
SelectedOfCalls = (skew : ℕ) (s : StateRecord) (log : List Entry) → Chain skew s log → Selected skew log

-- calls that were refused, each of the state that the one before handed back
pub data RefusedCalls (s : StateRecord) : StateRecord → Type 0 where
  none_between : RefusedCalls s s
  one_more : {s' : StateRecord} (c : Presented) (r : SelectionRecord) → RefusedCalls s s' → Answered s' c r → (number_or_0 r.decision.outcome ≡ 0 → ⊥)
      → RefusedCalls s r.decision.state

-- of two calls, whatever the state record: "at most one frame, and exactly one if the first copy was handed on"
abbrev pub OneOfTwoOfCalls : Type 0
OneOfTwoOfCalls = (s s' : StateRecord) (c c' : Presented) (r r' : SelectionRecord)
    → Answered s c r → RefusedCalls r.decision.state s' → Answered s' c' r' → Copies s.skew (entry_with c r) (entry_with c' r')
    → (how_many (entry_with c r) (entry_with c' r') ≤ 1) × (hands_on (entry_with c r) ≡ true → how_many (entry_with c r) (entry_with c' r') ≡ 1)
