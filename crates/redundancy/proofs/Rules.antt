-- The outcomes of each test, over the definitions.
use mathlib.Core.Path.{◌≡◌, refl, sym, ap, ◌∙◌}
use mathlib.Core.Bool.{Bool, true, false, ◌&&◌, ◌||◌, not, or-false}
use mathlib.Core.List.{List, []}
use Prim.Native.Nat.{ℕ, ◌+◌, ◌-◌, ◌%◌, ◌≤◌, ◌<◌}
use native.Mathlib.Omega.{arith}
use lib.Dec.{eqb, leb}
use lib.ListN.{length, take}
use borrow.Author.Tests.{le-leb, lt-leb, eq-eqb, ne_eqb, lt-ltb, le-ltb}
use Rattle.model.specs.Basics.{first_met}
use Rattle.model.specs.Redundancy.{network_a, network_b, State, sequence_number, among, sound, is_new, is_empty, earlier, waiting_on, refusal_of, received_on, next_on_a, next_on_b, last_after, decide_on, refused_by, decide_or, decide, part_of}
use Rattle.model.proofs.Theorems.{among_by_distance}
use Rattle.std.specs.Prelude.{Option, Some, None, Ok, Err}
use Rattle.refusal.specs.declared.Refusal.{Refusal}
use Rattle.redundancy.specs.declared.Waiting.{Waiting as WaitingRecord}
use Rattle.redundancy.specs.declared.Numbered.{Numbered as NumberedRecord}
use Rattle.redundancy.specs.declared.Network.{Network as NetworkRecord}
use Rattle.redundancy.specs.declared.Network.TheVariants as network
use Rattle.redundancy.specs.declared.State.{State as StateRecord}
use Rattle.redundancy.specs.declared.Taken.{Taken as TakenRecord}
use Rattle.redundancy.specs.declared.Decision.{Decision as DecisionRecord}
use Rattle.redundancy.specs.View.{presented, frames, view_received, view_handed_on, view_network, view_state, view_decision}

-- ---- numbers that follow

pub zero_follows_none : (k m n : ℕ) → k < 255 → m < 256 → n < 256 → n ≡ 0 → false ≡ among k m n
zero_follows_none k m n hk hm hn z = sym (among_by_distance k m n hk hm hn ∙ rw (eq-eqb n 0 z) refl)

pub same_follows_none : (k m n : ℕ) → k < 255 → m < 256 → n < 256 → (n ≡ 0 → ⊥) → (n + 255 - m) % 255 ≡ 0 → false ≡ among k m n
same_follows_none k m n hk hm hn z d = sym (among_by_distance k m n hk hm hn ∙ rw (ne_eqb n 0 z, lt-leb 1 ((n + 255 - m) % 255) (omega arith)) refl)

pub follows_near : (k m n : ℕ) → k < 255 → m < 256 → n < 256 → (n ≡ 0 → ⊥) → ((n + 255 - m) % 255 ≡ 0 → ⊥) → leb ((n + 255 - m) % 255) k ≡ among k m n
follows_near k m n hk hm hn z d = sym (among_by_distance k m n hk hm hn ∙ rw (ne_eqb n 0 z, le-leb 1 ((n + 255 - m) % 255) (omega arith)) refl)

-- ---- sound, new

pub sound_first : (r : Option ℕ) (n : ℕ) → r ≡ None → true ≡ sound (view_received r) n
unfolding sound
sound_first r n e = rw e refl

pub sound_zero : (r : Option ℕ) (m n : ℕ) → r ≡ Some m → n ≡ 0 → true ≡ sound (view_received r) n
unfolding sound
sound_zero r m n e z = rw (e, eq-eqb n 0 z) refl

pub sound_next : (r : Option ℕ) (m n : ℕ) → r ≡ Some m → (n ≡ 0 → ⊥) → among 2 m n ≡ sound (view_received r) n
unfolding sound
sound_next r m n e z = rw (e, ne_eqb n 0 z) refl

module _ (skew : ℕ) (h : Option NumberedRecord) (f : NumberedRecord) where
  pub new_first : h ≡ None → true ≡ is_new skew (view_handed_on h) f.number f.tick
  unfolding is_new
  new_first e = rw e refl

  module _ (m : NumberedRecord) (e : h ≡ Some m) where
    pub new_expired : skew < f.tick - m.tick → true ≡ is_new skew (view_handed_on h) f.number f.tick
    unfolding is_new
    new_expired l = rw (e, lt-ltb skew (f.tick - m.tick) l) refl

    pub new_zero : m.number < 256 → f.tick - m.tick ≤ skew → f.number ≡ 0 → not (eqb m.number 0) ≡ is_new skew (view_handed_on h) f.number f.tick
    unfolding is_new
    new_zero hm l z =
        rw (e, le-ltb skew (f.tick - m.tick) l, sym (zero_follows_none 127 m.number f.number (omega arith) hm (omega arith) z), eq-eqb f.number 0 z) refl

    pub new_next : f.tick - m.tick ≤ skew → (f.number ≡ 0 → ⊥) → among 127 m.number f.number ≡ is_new skew (view_handed_on h) f.number f.tick
    unfolding is_new
    new_next l z = rw (e, le-ltb skew (f.tick - m.tick) l, ne_eqb f.number 0 z) (sym (or-false (among 127 m.number f.number)))

-- ---- a decision

pub decided : (s : StateRecord) (network : NetworkRecord) (f : NumberedRecord) (on : Bool) (on_a on_b : Option ℕ) (last : Option NumberedRecord)
    → on ≡ (sound (received_on (view_network network) (view_state s)) f.number && is_new s.skew (view_handed_on s.last) f.number f.tick)
    → view_received on_a ≡ next_on_a (view_network network) f.number (view_state s)
    → view_received on_b ≡ next_on_b (view_network network) f.number (view_state s)
    → view_handed_on last ≡ last_after (view_handed_on s.last) on f.number f.tick
    → view_decision (record {
      outcome = Ok (record { network = network; handed_on = on });
      state = record { skew = s.skew; on_a = on_a; on_b = on_b; last = last; taken = f.tick };
    })
    ≡ decide_on (view_state s) (view_network network) f.number f.tick
unfolding decide_on
decided s network f on on_a on_b last eo ea eb el = cc

module _ (s : State) (a b : WaitingRecord) where
  abbrev none_waits : Bool
  none_waits = eqb (length a.frame.now) 0 && eqb (length b.frame.now) 0

  abbrev a_taken : Bool
  a_taken = eqb (length b.frame.now) 0 || not (eqb (length a.frame.now) 0) && leb a.tick b.tick

  pub decide_none : none_waits ≡ true → decide s (presented a b) ≡ refused_by 17 s
  unfolding decide refusal_of is_empty first_met decide_or
  decide_none e = rw e refl

  pub decide_a_late : none_waits ≡ false → a_taken ≡ true → a.tick < s.taken → decide s (presented a b) ≡ refused_by 18 s
  unfolding decide refusal_of is_empty earlier waiting_on first_met decide_or
  decide_a_late e ea l = rw (e, ea) (rw (lt-ltb a.tick s.taken l) refl)

  pub decide_a_taken : none_waits ≡ false → a_taken ≡ true → s.taken ≤ a.tick → decide s (presented a b) ≡ decide_on s network_a (sequence_number a.frame.now) a.tick
  unfolding decide refusal_of is_empty earlier waiting_on first_met decide_or
  decide_a_taken e ea l = rw (e, ea) (rw (le-ltb a.tick s.taken l) (rw ea refl))

  pub decide_b_late : none_waits ≡ false → a_taken ≡ false → b.tick < s.taken → decide s (presented a b) ≡ refused_by 18 s
  unfolding decide refusal_of is_empty earlier waiting_on first_met decide_or
  decide_b_late e ea l = rw (e, ea) (rw (lt-ltb b.tick s.taken l) refl)

  pub decide_b_taken : none_waits ≡ false → a_taken ≡ false → s.taken ≤ b.tick → decide s (presented a b) ≡ decide_on s network_b (sequence_number b.frame.now) b.tick
  unfolding decide refusal_of is_empty earlier waiting_on first_met decide_or
  decide_b_taken e ea l = rw (e, ea) (rw (le-ltb b.tick s.taken l) (rw ea refl))

-- ---- a test, then another

pub left_fails : {r a : Bool} (b : Bool) → r ≡ a → r ≡ false → false ≡ (a && b)
left_fails b e f = ap (λ x. x && b) (sym f ∙ e)

pub left_holds : {r x a b : Bool} → r ≡ a → r ≡ true → x ≡ b → x ≡ (a && b)
left_holds {b = b} e f g = g ∙ ap (λ x. x && b) (sym f ∙ e)

-- ---- the part

module _ (d : DecisionRecord) (a b : List ℕ) where
  pub part_refused : (r : Refusal) → d.outcome ≡ Err r → [] ≡ part_of (view_decision d) (frames a b)
  unfolding part_of
  part_refused r e = rw e refl

  module _ (t : TakenRecord) (e : d.outcome ≡ Ok t) where
    pub part_left : t.handed_on ≡ false → [] ≡ part_of (view_decision d) (frames a b)
    unfolding part_of
    part_left on = rw (e, on) refl

    pub part_a : t.handed_on ≡ true → t.network ≡ network.A → take (length a - 1) a ≡ part_of (view_decision d) (frames a b)
    unfolding part_of waiting_on
    part_a on n = rw (e, on, n) refl

    pub part_b : t.handed_on ≡ true → t.network ≡ network.B → take (length b - 1) b ≡ part_of (view_decision d) (frames a b)
    unfolding part_of waiting_on
    part_b on n = rw (e, on, n) refl
