-- Networks A and B: numbers that follow by their distance; one of two copies; what every list of calls keeps.
use mathlib.Core.Path.{◌≡◌, refl, sym, ap, ◌∙◌}
use mathlib.Core.Bool.{Bool, true, false, cond, ◌&&◌, ◌||◌, not}
use mathlib.Core.Option.{some}
use mathlib.Core.List.{List, [], ◌∷◌, ◌++◌}
use Prim.Native.Nat.{ℕ, zero, suc, ◌+◌, ◌-◌, ◌%◌, ◌≤◌, ◌<◌}
use native.Mathlib.Decide.{dec_le, ℕ_discrete}
use native.Mathlib.Omega.{arith}
use lib.Dec.{eqb, leb, ltb}
use lib.ListN.{length, get_or, take}
use borrow.Author.Tests.{le-leb, lt-leb, eq-eqb, ne_eqb, eqb-false, le-ltb, ltb-false}
use Rattle.model.specs.Basics.{provided, first_met}
use Rattle.model.specs.Redundancy.{Waiting, Presented, Network, network_a, network_b, State, Decision, sequence_number, following, among, sound, is_new, is_empty, earlier, waiting_on, refusal_of, received_on, last_after, decide_on, refused_by, decide_or, decide, part_of, select, Entry, entry_of, state_after, run, taken_by, hands_on, ticks_handed_on, AnsweredBy, Throughout, start, then, Selected, how_many, Refused, none_between, one_more, Copies}

-- ---- the numbers that follow

-- how far n is ahead of m, round the cycle
unfoldable pub ahead : ℕ → ℕ → ℕ
ahead m n = (n + 255 - m) % 255

-- by its distance d, n is among k that follow
unfoldable pub near : ℕ → ℕ → ℕ → Bool
near n d k = not (eqb n 0) && leb 1 d && leb d k

near_true : (n d k : ℕ) → 1 ≤ n → 1 ≤ d → d ≤ k → near n d k ≡ true
unfolding near
near_true n d k h h1 h2 = rw (ne_eqb n 0 (λ e. omega arith), le-leb 1 d h1, le-leb d k h2) refl

zero_far : (n d k : ℕ) → n ≡ 0 → near n d k ≡ false
unfolding near
zero_far n d k h = rw (eq-eqb n 0 h) refl

same_far : (n d k : ℕ) → 1 ≤ n → d ≡ 0 → near n d k ≡ false
unfolding near
same_far n d k h h1 = rw (ne_eqb n 0 (λ e. omega arith), lt-leb 1 d (omega arith)) refl

too_far : (n d k : ℕ) → 1 ≤ n → 1 ≤ d → k < d → near n d k ≡ false
unfolding near
too_far n d k h h1 h2 = rw (ne_eqb n 0 (λ e. omega arith), le-leb 1 d h1, lt-leb d k h2) refl

following_is : (m : ℕ) → m < 256 → following m ≡ m % 255 + 1
unfolding following
following_is m h =
    elim (ℕ_discrete m 255) [
      | yes e ↦ rw (eq-eqb m 255 e) (omega arith)
      | no d ↦ rw (ne_eqb m 255 d) (omega arith)
    ]

-- one step on, n is one less far ahead
ahead_less : (m n : ℕ) → m < 256 → n < 256 → 1 ≤ ahead m n → ahead (m % 255 + 1) n + 1 ≡ ahead m n
unfolding ahead
ahead_less m n hm hn h = omega arith

ahead_round : (m n : ℕ) → m < 256 → n < 256 → ahead m n ≡ 0 → 1 ≤ n → ahead (m % 255 + 1) n ≡ 254
unfolding ahead
ahead_round m n hm hn h h1 = omega arith

ahead_one : (m n : ℕ) → m < 256 → n < 256 → 1 ≤ n → ahead m n ≡ 1 → n ≡ m % 255 + 1
unfolding ahead
ahead_one m n hm hn h h1 = omega arith

one_ahead : (m : ℕ) → m < 256 → ahead m (m % 255 + 1) ≡ 1
unfolding ahead
one_ahead m hm = omega arith

-- n is not the next number: so it is among k + 1 from m exactly if it is among k from the next
near_on : (k m n : ℕ) → k < 254 → m < 256 → n < 256 → (n ≡ m % 255 + 1 → ⊥) → near n (ahead (m % 255 + 1) n) k ≡ near n (ahead m n) (suc k)
near_on k m n hk hm hn other =
    elim (dec_le 1 n) [
      | no z ↦ zero_far n (ahead (m % 255 + 1) n) k (omega arith) ∙ sym (zero_far n (ahead m n) (suc k) (omega arith))
      | yes h ↦ elim (dec_le 1 (ahead m n)) [
        | no z ↦ (let r = ahead_round m n hm hn (omega arith) h in
            too_far n (ahead (m % 255 + 1) n) k h (omega arith) (omega arith) ∙ sym (same_far n (ahead m n) (suc k) h (omega arith)))
        | yes h1 ↦ (
            let l = ahead_less m n hm hn h1 in
            let two : 2 ≤ ahead m n = elim (ℕ_discrete (ahead m n) 1) [ yes e ↦ absurd (other (ahead_one m n hm hn h e)) | no e ↦ omega arith ] in
            elim (dec_le (ahead m n) (suc k)) [
              | yes g ↦ near_true n (ahead (m % 255 + 1) n) k h (omega arith) (omega arith) ∙ sym (near_true n (ahead m n) (suc k) h h1 g)
              | no g ↦ too_far n (ahead (m % 255 + 1) n) k h (omega arith) (omega arith) ∙ sym (too_far n (ahead m n) (suc k) h h1 (omega arith))
            ])
      ]
    ]

pub among_near : (k m n : ℕ) → k < 255 → m < 256 → n < 256 → among k m n ≡ near n (ahead m n) k
unfolding among
among_near zero m n hk hm hn =
    elim (dec_le 1 n) [
      | no z ↦ sym (zero_far n (ahead m n) 0 (omega arith))
      | yes h ↦ elim (dec_le 1 (ahead m n)) [ yes h1 ↦ sym (too_far n (ahead m n) 0 h h1 (omega arith)) | no z ↦ sym (same_far n (ahead m n) 0 h (omega arith)) ]
    ]
among_near (suc k) m n hk hm hn =
    rw (following_is m hm)
    (elim (ℕ_discrete n (m % 255 + 1)) [
      | yes e ↦ rw (eq-eqb n (m % 255 + 1) e) (sym (near_true n (ahead m n) (suc k) (omega arith) (one_away m n hm e).0 (one_away m n hm e).1))
      | no d ↦ rw (ne_eqb n (m % 255 + 1) d) (among_near k (m % 255 + 1) n (omega arith) (omega arith) hn ∙ near_on k m n (omega arith) hm hn d)
    ])
  where
    one_away : (m n : ℕ) → m < 256 → n ≡ m % 255 + 1 → (1 ≤ ahead m n) × (ahead m n ≤ suc k)
    one_away m n hm e = let o : ahead m n ≡ 1 = rw e (one_ahead m hm) in (omega arith, omega arith)

-- not among the numbers that follow itself; a number above 255 is among none that follow it either
beyond : (k m n : ℕ) → 256 ≤ m → n ≤ m → among k m n ≡ false
unfolding among following
beyond zero m n hm hn = refl
beyond (suc k) m n hm hn = rw (ne_eqb m 255 (λ e. omega arith)) (rw (ne_eqb n (m + 1) (λ e. omega arith)) (beyond k (m + 1) n (omega arith) (omega arith)))

none_follows : (n : ℕ) → among 127 n n ≡ false
unfolding ahead
none_follows n =
    elim (dec_le 256 n) [
      | yes h ↦ beyond 127 n n h (omega arith)
      | no h ↦ among_near 127 n n (omega arith) (omega arith) (omega arith) ∙ itself
    ]
  where
    itself : near n (ahead n n) 127 ≡ false
    itself = elim (dec_le 1 n) [ yes k ↦ same_far n (ahead n n) 127 k (omega arith) | no k ↦ zero_far n (ahead n n) 127 (omega arith) ]

-- ---- the cases of a call

-- what the call would take
abbrev choice : Presented → Waiting
choice c = waiting_on (earlier c) c

positive : (l : List ℕ) → eqb (length l) 0 ≡ false → 1 ≤ length l
positive l e = let other = eqb-false (length l) 0 e in elim (dec_le 1 (length l)) [ yes h ↦ h | no h ↦ absurd (other (omega arith)) ]

-- 17 is not met: there is a frame to take
some_frame : (c : Presented) → (is_empty c.a.frame && is_empty c.b.frame) ≡ false → 1 ≤ length (choice c).frame
unfolding is_empty earlier waiting_on
some_frame c h = go (eqb (length c.a.frame) 0) refl (eqb (length c.b.frame) 0) refl (leb c.a.tick c.b.tick) refl h
  where
    go : (x : Bool) → eqb (length c.a.frame) 0 ≡ x → (y : Bool) → eqb (length c.b.frame) 0 ≡ y → (z : Bool) → leb c.a.tick c.b.tick ≡ z → (x && y) ≡ false
        → 1 ≤ length (waiting_on (cond (eqb (length c.b.frame) 0 || not (eqb (length c.a.frame) 0) && leb c.a.tick c.b.tick) network_a network_b) c).frame
    go true ex true ey z ez h = absurd (let w : ◌≡◌ {A = ℕ} 0 1 = cc in omega arith)
    go false ex true ey z ez h = rw (ex, ey) (positive c.a.frame ex)
    go true ex false ey z ez h = rw (ex, ey) (positive c.b.frame ey)
    go false ex false ey true ez h = rw (ex, ey, ez) (positive c.a.frame ex)
    go false ex false ey false ez h = rw (ex, ey, ez) (positive c.b.frame ey)

-- a call is accepted, or refused
pub data Outcome (s : State) (c : Presented) : Type 0 where
  accepts : 1 ≤ length (choice c).frame → s.taken ≤ (choice c).tick → decide s c ≡ decide_on s (earlier c) (sequence_number (choice c).frame) (choice c).tick → Outcome s c
  refuses : (n : ℕ) → decide s c ≡ refused_by (suc n) s → Outcome s c

pub outcome : (s : State) (c : Presented) → Outcome s c
unfolding decide refusal_of first_met decide_or
outcome s c = go (is_empty c.a.frame && is_empty c.b.frame) refl (ltb (choice c).tick s.taken) refl
  where
    go : (x : Bool) → (is_empty c.a.frame && is_empty c.b.frame) ≡ x → (y : Bool) → ltb (choice c).tick s.taken ≡ y → Outcome s c
    go true ex y ey = refuses 16 (rw ex refl)
    go false ex true ey = refuses 17 (rw (ex, ey) refl)
    go false ex false ey = accepts (some_frame c ex) (ltb-false (choice c).tick s.taken ey) (rw (ex, ey) refl)

-- ---- one of two copies

refused_same : (s s' : State) → Refused s s' → s' ≡ s
unfolding refused_by decide_on
refused_same s s' none_between = refl
refused_same s s'' (one_more {s' = s'} c r n) = go (outcome s' c) (refused_same s s' r)
  where
    go : Outcome s' c → s' ≡ s → (decide s' c).state ≡ s
    go (accepts a b e) same = absurd (n (rw e refl))
    go (refuses k e) same = rw e same

-- handed on, the frame is the last one handed on
handed_last : (s : State) (network : Network) (n tick : ℕ) → (decide_on s network n tick).handed_on ≡ true
    → (decide_on s network n tick).state.last ≡ some (record { number = n; tick = tick })
unfolding decide_on last_after
handed_last s network n tick e = rw e refl

skew_kept : (s : State) (network : Network) (n tick : ℕ) → (decide_on s network n tick).state.skew ≡ s.skew
unfolding decide_on
skew_kept s network n tick = refl

network_is : (s : State) (network : Network) (n tick : ℕ) → (decide_on s network n tick).network ≡ network
unfolding decide_on
network_is s network n tick = refl

-- of the last frame handed on, the same number within the skew is not new
not_new : (skew n tick tick' : ℕ) → tick' - tick ≤ skew → is_new skew (some (record { number = n; tick = tick })) n tick' ≡ false
unfolding is_new
not_new skew n tick tick' h = rw (le-ltb skew (tick' - tick) h, none_follows n) (go (eqb n 0))
  where
    go : (b : Bool) → (b && not b) ≡ false
    go true = refl
    go false = refl

and_no : (a b : Bool) → b ≡ false → (a && b) ≡ false
and_no true b e = e
and_no false b e = refl

copy_left : (s : State) (network : Network) (n tick tick' : ℕ) → s.last ≡ some (record { number = n; tick = tick }) → tick' - tick ≤ s.skew → (decide_on s network n tick').handed_on ≡ false
unfolding decide_on
copy_left s network n tick tick' e h =
    and_no (sound (received_on network s) n) (is_new s.skew s.last n tick') (ap (λ l. is_new s.skew l n tick') e ∙ not_new s.skew n tick tick' h)

-- an accepted call: what it took and what came of it
record Took (s : State) (c : Presented) : Type 0 where
  network : Network
  taken : Waiting
  takes : taken_by (entry_of s c) ≡ taken
  decided : decide s c ≡ decide_on s network (sequence_number taken.frame) taken.tick

took : (s : State) (c : Presented) → (decide s c).refused ≡ 0 → Took s c
unfolding select taken_by refused_by decide_on
took s c accepted = go (outcome s c)
  where
    go : Outcome s c → Took s c
    go (accepts a b e) = record { network = earlier c; taken = choice c; takes = ap (λ (x : Decision). waiting_on x.network c) e; decided = e }
    go (refuses k e) = absurd (let z : suc k ≡ 0 = sym (ap (λ (x : Decision). x.refused) e) ∙ accepted in omega arith)

module _ (s s' : State) (c c' : Presented) (between : Refused (select s c).decision.state s') (copies : Copies s.skew (entry_of s c) (entry_of s' c')) where
  second_left : hands_on (entry_of s c) ≡ true → hands_on (entry_of s' c') ≡ false
  unfolding hands_on select
  second_left on =
      let t = took s c copies.accepted in
      let t' = took s' c' copies.accepted' in
      let n = sequence_number t.taken.frame in
      let tick = t.taken.tick in
      let d : (decide_on s t.network n tick).handed_on ≡ true = sym (ap (λ (x : Decision). x.handed_on) t.decided) ∙ on in
      let same : s' ≡ (decide_on s t.network n tick).state = refused_same (decide s c).state s' between ∙ ap (λ (x : Decision). x.state) t.decided in
      let last : s'.last ≡ some (record { number = n; tick = tick }) = ap (λ (x : State). x.last) same ∙ handed_last s t.network n tick d in
      let skew : s'.skew ≡ s.skew = ap (λ (x : State). x.skew) same ∙ skew_kept s t.network n tick in
      let numbers : sequence_number t'.taken.frame ≡ n
      = sym (ap (λ (w : Waiting). sequence_number w.frame) t'.takes) ∙ sym copies.same ∙ ap (λ (w : Waiting). sequence_number w.frame) t.takes in
      let ticks : (taken_by (entry_of s c)).tick ≡ tick = ap (λ (w : Waiting). w.tick) t.takes in
      let ticks' : (taken_by (entry_of s' c')).tick ≡ t'.taken.tick = ap (λ (w : Waiting). w.tick) t'.takes in
      ap (λ (x : Decision). x.handed_on) t'.decided
      ∙ ap (λ (k : ℕ). (decide_on s' t'.network k t'.taken.tick).handed_on) numbers
      ∙ copy_left s' t'.network n tick t'.taken.tick last (omega (arith, copies.within))

  pub one_of_two : (how_many (entry_of s c) (entry_of s' c') ≤ 1) × (hands_on (entry_of s c) ≡ true → how_many (entry_of s c) (entry_of s' c') ≡ 1)
  unfolding provided
  one_of_two = go (hands_on (entry_of s c)) refl (hands_on (entry_of s' c')) refl
    where
      go : (b : Bool) → hands_on (entry_of s c) ≡ b → (b' : Bool) → hands_on (entry_of s' c') ≡ b' → (provided b 1 + provided b' 1 ≤ 1) × (b ≡ true → provided b 1 + provided b' 1 ≡ 1)
      go true on true on' = absurd (let f = second_left on in let z : ◌≡◌ {A = ℕ} 0 1 = cc in omega arith)
      go true on false on' = (omega arith, λ h. refl)
      go false on true on' = (omega arith, λ h. absurd (let z : ◌≡◌ {A = ℕ} 0 1 = cc in omega arith))
      go false on false on' = (omega arith, λ h. absurd (let z : ◌≡◌ {A = ℕ} 0 1 = cc in omega arith))

-- ---- every list of calls

-- a list but for its last, and its last
but_last : (k : ℕ) (l : List ℕ) → length l ≡ suc k → take k l ++ (get_or l k 0 ∷ []) ≡ l
but_last zero [] h = absurd (omega arith)
but_last zero (x ∷ []) h = refl
but_last zero (x ∷ y ∷ l) h = absurd (omega arith)
but_last (suc k) [] h = absurd (omega arith)
but_last (suc k) (x ∷ l) h = ap (λ (r : List ℕ). x ∷ r) (but_last k l (omega arith))

part_unchanged : (d : Decision) (c : Presented) → 1 ≤ length (waiting_on d.network c).frame → d.handed_on ≡ true
    → (n : ℕ) × (part_of d c ++ (n ∷ []) ≡ (waiting_on d.network c).frame)
unfolding part_of
part_unchanged d c h on =
    let frame = (waiting_on d.network c).frame in
    rw on (get_or frame (length frame - 1) 0, but_last (length frame - 1) frame (omega arith))

part_empty : (d : Decision) (c : Presented) → d.handed_on ≡ false → part_of d c ≡ []
unfolding part_of
part_empty d c on = rw on refl

answered_by : (s : State) (c : Presented) → AnsweredBy s (entry_of s c)
unfolding select hands_on taken_by refused_by decide_on
answered_by s c = go (outcome s c)
  where
    go : Outcome s c → AnsweredBy s (entry_of s c)
    go (accepts a b e) =
        record {
          unchanged = λ on. part_unchanged (decide s c) c (rw e a) on;
          empty = λ on. part_empty (decide s c) c on;
          kept = λ refused. absurd (refused (rw e refl));
        }
    go (refuses k e) =
        record {
          unchanged = λ on. absurd (let f : (decide s c).handed_on ≡ false = rw e refl in let z : ◌≡◌ {A = ℕ} 0 1 = cc in omega arith);
          empty = λ on. part_empty (decide s c) c on;
          kept = λ refused. (rw e refl, rw e refl, rw e refl);
        }

-- the ticks handed on are at most the tick last taken, and fall or stay equal from the latest on
record Falling (top : ℕ) (ticks : List ℕ) : Type 0 where
  below : (i : ℕ) → i < length ticks → get_or ticks i 0 ≤ top
  falls : (i j : ℕ) → i ≤ j → j < length ticks → get_or ticks j 0 ≤ get_or ticks i 0

falling_later : (top top' : ℕ) (ticks : List ℕ) → top ≤ top' → Falling top ticks → Falling top' ticks
falling_later top top' ticks h f = record { below = λ i k. omega (arith, f.below i k); falls = f.falls }

falling_more : (top tick : ℕ) (ticks : List ℕ) → top ≤ tick → Falling top ticks → Falling tick (tick ∷ ticks)
falling_more top tick ticks h f = record { below = below; falls = falls }
  where
    below : (i : ℕ) → i < length (tick ∷ ticks) → get_or (tick ∷ ticks) i 0 ≤ tick
    below zero k = omega arith
    below (suc i) k = omega (arith, f.below i (omega arith))

    falls : (i j : ℕ) → i ≤ j → j < length (tick ∷ ticks) → get_or (tick ∷ ticks) j 0 ≤ get_or (tick ∷ ticks) i 0
    falls zero j l k = below j k
    falls (suc i) zero l k = absurd (omega arith)
    falls (suc i) (suc j) l k = f.falls i j (omega arith) (omega arith)

-- a call that took a frame no earlier than the top
falling_by : (d : Decision) (c : Presented) (top tick : ℕ) (ticks : List ℕ) → d.state.taken ≡ tick → (waiting_on d.network c).tick ≡ tick → top ≤ tick → Falling top ticks
    → Falling d.state.taken (cond d.handed_on ((waiting_on d.network c).tick ∷ ticks) ticks)
falling_by d c top tick ticks et ew h f = rw (et, ew) (go d.handed_on)
  where
    go : (b : Bool) → Falling tick (cond b (tick ∷ ticks) ticks)
    go true = falling_more top tick ticks h f
    go false = falling_later top tick ticks h f

-- one call more
falling_on : (s : State) (log : List Entry) (c : Presented) → Falling s.taken (ticks_handed_on log)
    → Falling (select s c).decision.state.taken (ticks_handed_on (entry_of s c ∷ log))
unfolding ticks_handed_on hands_on taken_by select decide_on refused_by
falling_on s log c f = go (outcome s c)
  where
    go : Outcome s c → Falling (decide s c).state.taken (cond (decide s c).handed_on ((waiting_on (decide s c).network c).tick ∷ ticks_handed_on log) (ticks_handed_on log))
    go (accepts a l e) = falling_by (decide s c) c s.taken (choice c).tick (ticks_handed_on log) (rw e refl) (rw e refl) l f
    go (refuses k e) = rw e f

falling_run : (skew : ℕ) (calls : List Presented) → Falling (state_after skew (run skew calls)).taken (ticks_handed_on (run skew calls))
unfolding run state_after ticks_handed_on
falling_run skew [] = record { below = λ i h. absurd (omega arith); falls = λ i j l h. absurd (omega arith) }
falling_run skew (c ∷ calls) = falling_on (state_after skew (run skew calls)) (run skew calls) c (falling_run skew calls)

throughout : (skew : ℕ) (calls : List Presented) → Throughout skew (run skew calls)
unfolding run
throughout skew [] = start
throughout skew (c ∷ calls) = then (answered_by (state_after skew (run skew calls)) c) (throughout skew calls)

pub selected_always : (skew : ℕ) (calls : List Presented) → Selected skew (run skew calls)
selected_always skew calls = record { each = throughout skew calls; in_order = (falling_run skew calls).falls }
