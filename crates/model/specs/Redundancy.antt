-- Networks A and B (M-101): of the two copies of a frame that arrive, the one to hand on.
use Rattle.std.specs.Prelude.{◌≡◌, Bool, true, false, cond, ◌&&◌, ◌||◌, not, List, [], ◌∷◌, ◌++◌, ℕ, zero, suc, ◌+◌, ◌-◌, ◌≤◌, ◌<◌, eqb, leb, ltb, length, get_or, take}
use Rattle.std.proofs.Math.Option.{Option, none, some}
use Rattle.model.specs.Basics.{provided, check, first_met}

-- ---- what waits, and what is kept

-- a waiting frame's bytes, none where it is absent, and its arrival tick, which is read only of a frame that is present
pub record Waiting : Type 0 where
  pub frame : List ℕ
  pub tick : ℕ

-- "the waiting frame of A and of B, either possibly empty, with an arrival tick for each that is present"
pub record Presented : Type 0 where
  pub a : Waiting
  pub b : Waiting

-- where a frame was taken from; neither, at a refusal
pub data Network : Type 0 where
  neither : Network
  network_a : Network
  network_b : Network

-- a frame handed on: its number and its tick
pub record HandedOn : Type 0 where
  pub number : ℕ
  pub tick : ℕ

-- the skew; the number last received on A and on B; what was handed on last; the tick last taken, 0 where none was
pub record State : Type 0 where
  pub skew : ℕ
  pub on_a : Option ℕ
  pub on_b : Option ℕ
  pub last : Option HandedOn
  pub taken : ℕ

-- "skew, in ticks, is fixed when the state is fresh"
unfoldable pub fresh : ℕ → State
fresh skew = record { skew = skew; on_a = none; on_b = none; last = none; taken = 0 }

-- ---- sequence numbers

-- "The last byte of a frame is its sequence number"
unfoldable pub sequence_number : List ℕ → ℕ
sequence_number frame = get_or frame (length frame - 1) 0

-- "after 255 comes 1, and after 0 comes 1"
unfoldable pub following : ℕ → ℕ
following m = cond (eqb m 255) 1 (m + 1)

-- n is one of the k numbers after m, step by step
unfoldable pub among : ℕ → ℕ → ℕ → Bool
among zero m n = false
among (suc k) m n = eqb n (following m) || among k (following m) n

-- "sound if it is the first, has number 0, or has one of the two numbers after the previous one received there, sound or not"
unfoldable pub sound : Option ℕ → ℕ → Bool
sound none n = true
sound (some previous) n = eqb n 0 || among 2 previous n

-- "if none was before, or the last was handed on more than skew ticks ago, or its number is among the 127 that follow the last one
-- handed on, or it is 0 and the last was not": skew, the last, number and tick
unfoldable pub is_new : ℕ → Option HandedOn → ℕ → ℕ → Bool
is_new skew none n tick = true
is_new skew (some h) n tick = ltb skew (tick - h.tick) || among 127 h.number n || eqb n 0 && not (eqb h.number 0)

-- ---- which frame is taken, and the refusals

unfoldable pub is_empty : List ℕ → Bool
is_empty frame = eqb (length frame) 0

-- "It handles the earlier, A on equal ticks", of those present
unfoldable pub earlier : Presented → Network
earlier c = cond (is_empty c.b.frame || not (is_empty c.a.frame) && leb c.a.tick c.b.tick) network_a network_b

abbrev pub absent : Waiting
absent = record { frame = []; tick = 0 }

-- what waits on a network
unfoldable pub waiting_on : Network → Presented → Waiting
waiting_on neither c = absent
waiting_on network_a c = c.a
waiting_on network_b c = c.b

-- "17, both frames empty, checked first; 18, the taken frame's tick is below the previously taken one's, checked second"
unfoldable pub refusal_of : State → Presented → ℕ
refusal_of s c =
    first_met
    (check 17 (is_empty c.a.frame && is_empty c.b.frame)
    ∷ check 18 (ltb (waiting_on (earlier c) c).tick s.taken)
    ∷ [])

-- ---- the decision

-- the number last received on a network
unfoldable pub received_on : Network → State → Option ℕ
received_on neither s = none
received_on network_a s = s.on_a
received_on network_b s = s.on_b

-- and once a frame of number n was taken from a network, sound or not: on A, on B
unfoldable pub next_on_a : Network → ℕ → State → Option ℕ
next_on_a neither n s = s.on_a
next_on_a network_a n s = some n
next_on_a network_b n s = s.on_a

unfoldable pub next_on_b : Network → ℕ → State → Option ℕ
next_on_b neither n s = s.on_b
next_on_b network_a n s = s.on_b
next_on_b network_b n s = some n

-- 0 or the refusal, the network of the frame that was taken, "whether that was handed on", and the new state
pub record Decision : Type 0 where
  pub refused : ℕ
  pub network : Network
  pub handed_on : Bool
  pub state : State

-- what was handed on last, once a frame of that number and tick was taken
unfoldable pub last_after : Option HandedOn → Bool → ℕ → ℕ → Option HandedOn
last_after before on n tick = cond on (some (record { number = n; tick = tick })) before

-- of a frame taken from a network, with its number and tick
unfoldable pub decide_on : State → Network → ℕ → ℕ → Decision
decide_on s network n tick =
    let on = sound (received_on network s) n && is_new s.skew s.last n tick in
    record {
      refused = 0;
      network = network;
      handed_on = on;
      state = record {
        skew = s.skew;
        on_a = next_on_a network n s;
        on_b = next_on_b network n s;
        last = last_after s.last on n tick;
        taken = tick;
      };
    }

-- "a refusal changes no state"
unfoldable pub refused_by : ℕ → State → Decision
refused_by refusal s = record { refused = refusal; network = neither; handed_on = false; state = s }

unfoldable pub decide_or : ℕ → State → Presented → Decision
decide_or zero s c = let w = waiting_on (earlier c) c in decide_on s (earlier c) (sequence_number w.frame) w.tick
decide_or (suc refusal) s c = refused_by (suc refusal) s

unfoldable pub decide : State → Presented → Decision
decide s c = decide_or (refusal_of s c) s c

-- "the taken frame's own bytes without the last"; "Otherwise, and at a refusal, the part is empty"
unfoldable pub part_of : Decision → Presented → List ℕ
part_of d c = let frame = (waiting_on d.network c).frame in cond d.handed_on (take (length frame - 1) frame) []

-- a call's answer: the decision and the part
pub record Selection : Type 0 where
  pub decision : Decision
  pub part : List ℕ

unfoldable pub select : State → Presented → Selection
select s c = let d = decide s c in record { decision = d; part = part_of d c }

-- ---- lists of calls

-- a call and its answer
pub record Entry : Type 0 where
  pub presented : Presented
  pub answer : Selection

abbrev pub entry_of : State → Presented → Entry
entry_of s c = record { presented = c; answer = select s c }

-- the state after the latest of the answers
unfoldable pub state_after : ℕ → List Entry → State
state_after skew [] = fresh skew
state_after skew (e ∷ log) = e.answer.decision.state

-- calls from a fresh state, each with the state that the one before handed back; the latest first
unfoldable pub run : ℕ → List Presented → List Entry
run skew [] = []
run skew (c ∷ calls) = let log = run skew calls in entry_of (state_after skew log) c ∷ log

-- what the call took
unfoldable pub taken_by : Entry → Waiting
taken_by e = waiting_on e.answer.decision.network e.presented

unfoldable pub hands_on : Entry → Bool
hands_on e = e.answer.decision.handed_on

-- the ticks of the frames handed on, the latest first
unfoldable pub ticks_handed_on : List Entry → List ℕ
ticks_handed_on [] = []
ticks_handed_on (e ∷ log) = cond (hands_on e) ((taken_by e).tick ∷ ticks_handed_on log) (ticks_handed_on log)

-- what a call promises by itself
pub record AnsweredBy (before : State) (e : Entry) : Type 0 where
  -- "the taken frame's own bytes without the last": the part and a byte more are the frame
  pub unchanged : hands_on e ≡ true → (n : ℕ) × (e.answer.part ++ (n ∷ []) ≡ (taken_by e).frame)
  -- "Otherwise, and at a refusal, the part is empty"
  pub empty : hands_on e ≡ false → e.answer.part ≡ []
  -- "a refusal changes no state", takes nothing and hands nothing on
  pub kept : (e.answer.decision.refused ≡ 0 → ⊥)
      → (e.answer.decision.state ≡ before) × (e.answer.decision.network ≡ neither) × (hands_on e ≡ false)

-- so it is of every call with the state before it
pub data Throughout (skew : ℕ) : List Entry → Type 0 where
  start : Throughout skew []
  then : {e : Entry} {log : List Entry} → AnsweredBy (state_after skew log) e → Throughout skew log → Throughout skew (e ∷ log)

-- of all calls from a fresh state
pub record Selected (skew : ℕ) (log : List Entry) : Type 0 where
  pub each : Throughout skew log
  -- the ticks of the frames handed on rise or stay equal
  pub in_order : (i j : ℕ) → i ≤ j → j < length (ticks_handed_on log) → get_or (ticks_handed_on log) j 0 ≤ get_or (ticks_handed_on log) i 0

-- ---- two copies

-- how many of the two are handed on
abbrev pub how_many : Entry → Entry → ℕ
how_many e e' = provided (hands_on e) 1 + provided (hands_on e') 1

-- "with nothing between": none but calls that were refused
pub data Refused (s : State) : State → Type 0 where
  none_between : Refused s s
  one_more : {s' : State} (c : Presented) → Refused s s' → ((decide s' c).refused ≡ 0 → ⊥) → Refused s (decide s' c).state

-- "The same number .. on A and B within the skew", of two accepted calls. Sound is not asked: what is not sound is not handed on
pub record Copies (skew : ℕ) (e e' : Entry) : Type 0 where
  pub accepted : e.answer.decision.refused ≡ 0
  pub accepted' : e'.answer.decision.refused ≡ 0
  pub other : e.answer.decision.network ≡ e'.answer.decision.network → ⊥
  pub same : sequence_number (taken_by e).frame ≡ sequence_number (taken_by e').frame
  pub within : (taken_by e').tick - (taken_by e).tick ≤ skew
