-- The next port: what is handed over to it in order on its line is refused for nothing but its list, neither filtered nor policed, and stored
-- where the sizes are at least the bounds.
use mathlib.Core.Path.{◌≡◌, refl, sym, ap, ◌∙◌}
use mathlib.Core.Logic.{◌⊎◌, inl, inr}
use mathlib.Core.Bool.{Bool, true, false, cond, not}
use mathlib.Core.Option.{Option, none, some}
use mathlib.Core.List.{List, [], ◌∷◌, ◌++◌}
use Prim.Native.Nat.{ℕ, suc, ◌+◌, ◌*◌, ◌≤◌, ◌<◌}
use native.Mathlib.Nat.{le_refl, le_trans}
use native.Mathlib.Decide.{ℕ_discrete}
use native.Mathlib.Omega.{arith}
use lib.Dec.{eqb, leb, ltb}
use borrow.Author.Tests.{eq-eqb, le-leb, lt-leb, le-ltb, ltb-true}
use lib.ListN.{length, set}
use lib.Seq.{get_or-set_same, get_or-set_other}
use Rattle.model.specs.Basics.{first_met}
use Rattle.model.specs.Units.{last_tick, least_length, greatest_length, occupied, most_frames}
use Rattle.model.specs.Link.{VirtualLink, link_at, place_of}
use Rattle.model.specs.Table.{Table, size_of, table_refusal}
use Rattle.model.specs.Bounds.{bounds_refusal, bound}
use Rattle.model.specs.Machine.{Frame, Departure, queue_of, advance, frames_held}
use Rattle.model.specs.Port.{Port, line_tick, fresh, with_gate, with_line_tick}
use Rattle.model.specs.Fitness.{fit}
use Rattle.model.specs.Report.{Report, wait, frame, tick_of, fit_check, frame_checks, report_checks, room_check, all_checks, report_refusal, Judged, Answer, admits, admitted, stored_if, store, passed_if, judge, Call, Stepped, arrived, judge_report, accepted_or, step}
use Rattle.model.specs.Run.{Entry, run, accepted, frame_if, policed_by, dropped_by, through_by, is_priority, has_priority, ticks_of, LinkKeeps, Always, start, then}
use Rattle.model.specs.NextTable.{next_link}
use Rattle.model.specs.Promises.{Spaced}
use Rattle.model.proofs.Checks.{true_all, NoneMet, first_past}
use Rattle.model.proofs.Curves.{occupied_weight}
use Rattle.model.proofs.Passing.{Passing, is_passing}
use Rattle.model.proofs.QueueSteps.{advance_clock}
use Rattle.model.proofs.Stepping.{Admitted, Judgement, filters, polices, drops, stores, moved_to, reached, freed_by, Stepping, refuses, waits, frames, stepping}
use Rattle.model.proofs.Log.{entry_of, taken, declined, frame_declined}
use Rattle.model.proofs.Invariant.{Invariant, run_kept, no_marks}
use Rattle.model.proofs.Fitness.{never_unfit, fit_is}
use Rattle.model.proofs.Paying.{ticks_none, ticks_same, ticks_other, run_spared}
use Rattle.model.proofs.Demand.{demand_three}
use Rattle.table_lookup.proofs.Finding.{place_at}
use Rattle.two_ports.specs.Handed.{IsOn, handed_by, handed_on, latest, InOrder}
use Rattle.two_ports.specs.Promises.{Fares, RowsAmong}
use Rattle.two_ports.proofs.Thinned.{Thinned, none_left, thinned_more, thinned_last, thinned_keeps}
use Rattle.two_ports.proofs.Flow.{same_place, freed_of, freed_append}
use Rattle.two_ports.proofs.HandedOver.{last_from, last_is, last_grows, spaced_last, Sent, Orderly, orderly_front, orderly_last}

-- ---- a frame that the filter lets through is stored, policed or dropped
data Ruling : ℕ → Type 0 where
  is_stored : Ruling 0
  is_policed : Ruling 2
  is_dropped : Ruling 3

storing : (b : Bool) (s : Port) (p : ℕ) (f : Frame) → Ruling (stored_if b s p f).verdict
unfolding stored_if
storing true s p f = is_stored
storing false s p f = is_dropped

passing : (b : Bool) (u : Table) (s : Port) (p : ℕ) (f : Frame) → Ruling (passed_if b u s p f).verdict
unfolding passed_if store
passing true u s p f = storing _ s p f
passing false u s p f = is_policed

ruling : (u : Table) (s : Port) (f : Frame) (o : Option ℕ) (i : ℕ) → o ≡ some i → Ruling (judge u s f o).verdict
unfolding judge
ruling u s f o i e = rw e (passing _ u _ _ f)

report_ruling : (u : Table) (s : Port) (time on number len i : ℕ) → place_of number u.links ≡ some i → admits (link_at u.links i) on len ≡ true
    → Ruling (judge_report u s (frame time on number len)).verdict
unfolding judge_report admitted
report_ruling u s time on number len i e a = ruling u (with_gate s (with_line_tick s.gate on time)) (arrived number len time) _ i (rw (e, a))

-- ---- refused for nothing but its list
frames_few : (most : ℕ) (queues : List (List Frame)) → ((p : ℕ) → p < length queues → length (queue_of queues p) ≤ most) → frames_held queues ≤ most * length queues
unfolding frames_held
frames_few most [] h = omega arith
frames_few most (q ∷ queues) h = omega (arith, h 0 (omega arith), frames_few most queues (λ p l. h (suc p) (omega arith)))

data Outcome (room : ℕ) : ℕ → Type 0 where
  goes : Outcome room 0
  lacks_room : room < 3 * (8 * most_frames) → Outcome room 16

-- what a frame's checks ask
record Ready (u : Table) (s : Port) (time on len : ℕ) : Type 0 where
  is_fit : fit u s ≡ true
  soon : time ≤ last_tick
  from : s.scheduler.clock ≤ time
  line_in : on < u.lines
  long : least_length ≤ len
  short : len ≤ greatest_length
  spaced : line_tick s.gate.line_ticks on + len ≤ time

none_met_by : (u : Table) (s : Port) (time on number len : ℕ) → Ready u s time on len
    → NoneMet (fit_check u s ∷ report_checks s.scheduler.clock u.lines s.gate.line_ticks (frame time on number len))
unfolding report_checks frame_checks tick_of
none_met_by u s time on number len k = (
  rw k.is_fit,
  (
    le-ltb last_tick time k.soon,
    (
      le-ltb time s.scheduler.clock k.from,
      (
        lt-leb u.lines on k.line_in,
        (
          rw (true_all (leb least_length len ∷ leb len greatest_length ∷ []) (le-leb least_length len k.long, (le-leb len greatest_length k.short, tt))),
          (le-ltb time (line_tick s.gate.line_ticks on + len) k.spaced, tt),
        ),
      ),
    ),
  ),
)

outcome : (u : Table) (s : Port) (time on number len room : ℕ) → length s.scheduler.queues ≡ 8 → Ready u s time on len → Outcome room (report_refusal u s (frame time on number len) room)
unfolding report_refusal all_checks first_met
outcome u s time on number len room eight k =
    rw (first_past (fit_check u s ∷ report_checks s.scheduler.clock u.lines s.gate.line_ticks (frame time on number len)) (room_check (frames_held s.scheduler.queues) room ∷ []) (none_met_by u s time on number len k))
    (go (ltb room (3 * frames_held s.scheduler.queues)) refl)
  where
    go : (b : Bool) → ltb room (3 * frames_held s.scheduler.queues) ≡ b → Outcome room (cond b 16 0)
    go true e =
        lacks_room
        (omega (arith, eight, ltb-true room (3 * frames_held s.scheduler.queues) e, frames_few most_frames s.scheduler.queues (λ p l. (fit_is u s k.is_fit).few p (omega arith))))
    go false e = goes

-- ---- the clock and the line's tick
judged_clock : (u : Table) (s : Port) (time on number len : ℕ) {j : Judged} → Judgement u (reached s time on) time on number len j
    → j.port.scheduler.clock ≡ (advance time s.scheduler).scheduler.clock
unfolding stored_if
judged_clock u s time on number len filters = refl
judged_clock u s time on number len (polices i a c) = refl
judged_clock u s time on number len (drops i a c full) = refl
judged_clock u s time on number len (stores i a c room) = refl

judged_lines : (u : Table) (s : Port) (time on number len : ℕ) {j : Judged} → Judgement u (reached s time on) time on number len j → j.port.gate.line_ticks ≡ set s.gate.line_ticks on time
unfolding stored_if
judged_lines u s time on number len filters = refl
judged_lines u s time on number len (polices i a c) = refl
judged_lines u s time on number len (drops i a c full) = refl
judged_lines u s time on number len (stores i a c room) = refl

step_clock : (u : Table) (s : Port) (list : List ℕ) {r : Report} {x : Stepped} → Stepping u s list r x → s.scheduler.clock ≤ tick_of r → x.port.scheduler.clock ≤ tick_of r
unfolding tick_of
step_clock u s list (refuses {r = r} n) l = l
step_clock u s list (waits time timely) l = rw (advance_clock time s.scheduler timely.from) (le_refl time)
step_clock u s list (frames time on number len timely arrives j) l = rw (judged_clock u s time on number len j, advance_clock time s.scheduler timely.from) (le_refl time)

run_clock : (u : Table) (calls : List Call) → InOrder (run u calls).log → (run u calls).port.scheduler.clock ≤ latest (run u calls).log
unfolding run latest InOrder fresh
run_clock u [] o = le_refl 0
run_clock u (c ∷ calls) o =
    step_clock u (run u calls).port c.list (stepping u (run u calls).port c.list c.report) (le_trans (run_clock u calls o.1) o.0)

-- a frame on the line, as a departure
abbrev departed : ℕ → ℕ → ℕ → Departure
departed number len time = record { number = number; length = len; freed = time }

pub handed_here : (line time on number len : ℕ) → on ≡ line → handed_by line (frame time on number len) ≡ departed number len time ∷ []
unfolding handed_by
handed_here line time on number len e = rw (eq-eqb on line e)

-- the line's tick is not after what was last handed over on it
step_behind : (u : Table) (s : Port) → length s.gate.line_ticks ≡ u.lines → (line : ℕ) (list : List ℕ) {r : Report} {x : Stepped} → Stepping u s list r x → (ds : List Departure)
    → Spaced 0 (ds ++ handed_by line r) → line_tick s.gate.line_ticks line ≤ last_from 0 ds → line_tick x.port.gate.line_ticks line ≤ last_from 0 (ds ++ handed_by line r)
step_behind u s n line list (refuses {r = r} k) ds sp b = le_trans b (last_grows 0 ds (handed_by line r) sp)
step_behind u s n line list (waits time timely) ds sp b = le_trans b (last_grows 0 ds (handed_by line (wait time)) sp)
step_behind u s n line list (frames time on number len timely arrives {j = j} x) ds sp b = go (ℕ_discrete on line)
  where
    go : Dec (on ≡ line) → line_tick j.port.gate.line_ticks line ≤ last_from 0 (ds ++ handed_by line (frame time on number len))
    go (yes e) =
        rw (judged_lines u s time on number len x, handed_here line time on number len e, last_is 0 ds (departed number len time), ← e, get_or-set_same s.gate.line_ticks on time 0 (omega (arith, n, arrives.line_in)))
        (le_refl time)
    go (no e) =
        rw (judged_lines u s time on number len x, get_or-set_other s.gate.line_ticks on line time 0 (λ q. e (sym q)))
        (le_trans b (last_grows 0 ds (handed_by line (frame time on number len)) sp))

-- ---- an entry's verdict
frame_of : (n time on number len : ℕ) (a : Answer) → a.refused ≡ 0 → a.verdict ≡ n → frame_if (eqb n) (frame time on number len) a ≡ some (arrived number len time)
unfolding frame_if accepted
frame_of n time on number len a p q = rw (p, q, eq-eqb n n refl)

always_head : {P : Entry → List Entry → Type 0} {e : Entry} {log : List Entry} → Always P (e ∷ log) → P e log
always_head (then x r) = x

not_two : (w : ℕ) → Ruling w → (w ≡ 2 → ⊥) → (w ≡ 0) ⊎ (w ≡ 3)
not_two w is_stored h = inl refl
not_two w is_policed h = absurd (h refl)
not_two w is_dropped h = inr refl

not_three : (w : ℕ) → (w ≡ 0) ⊎ (w ≡ 3) → (w ≡ 3 → ⊥) → w ≡ 0
not_three w (inl e) h = e
not_three w (inr e) h = absurd (h e)

-- ---- the next port
module _ (t : Table) (line : ℕ) (u : Table) (passes : table_refusal u ≡ 0) (rows : RowsAmong t line u.links) where
  ok : Passing u
  ok = is_passing u passes

  inv : (calls : List Call) → Invariant u (run u calls).port (run u calls).log
  inv calls = run_kept u ok calls

  run_behind : (calls : List Call) → Orderly t line (handed_on line (run u calls).log) → line_tick (run u calls).port.gate.line_ticks line ≤ last_from 0 (handed_on line (run u calls).log)
  unfolding run handed_on last_from fresh
  run_behind [] k = rw (no_marks u.lines line) (le_refl 0)
  run_behind (c ∷ calls) k =
      step_behind u (run u calls).port ((inv calls).good occupied occupied_weight (λ _. true)).lines_length line c.list (stepping u (run u calls).port c.list c.report) (handed_on line (run u calls).log)
      k.spaced (run_behind calls (orderly_front (handed_on line (run u calls).log) (handed_by line c.report) k))

  -- the row of link i
  module _ (i : ℕ) (l : i < length t.links) where
    abbrev vl : VirtualLink
    vl = link_at t.links i

    abbrev n : ℕ
    n = vl.number

    abbrev at_row : ℕ
    at_row = (rows i l).0

    row_in : at_row < length u.links
    row_in = (rows i l).1

    row_number : (link_at u.links at_row).number ≡ n
    unfolding next_link
    row_number = rw (rows i l).2

    row_line : (link_at u.links at_row).line ≡ line
    unfolding next_link
    row_line = rw (rows i l).2

    -- a frame of its number that the filter lets through is on the line
    on_line_lem : (on number len k : ℕ) → Admitted u on number len k → number ≡ n → on ≡ line
    on_line_lem on number len k a e =
        let q : k ≡ at_row = same_place u.links ok.rising k at_row a.at_place row_in (a.named ∙ e ∙ sym row_number) in
        sym a.on_its_line ∙ ap (λ (j : ℕ). (link_at u.links j).line) q ∙ row_line

    module _ (log : List Entry) (ds : List Departure) (r : Thinned (ticks_of through_by n log) (freed_of n ds)) where
      skips : (e : Entry) (more : List Departure) → through_by e ≡ none → Thinned (ticks_of through_by n (e ∷ log)) (freed_of n (ds ++ more))
      skips e more x = rw (ticks_none through_by n e log x, freed_append n ds more) (thinned_more (freed_of n more) r)

      goes_through : (e : Entry) (time on number len k : ℕ) → through_by e ≡ some (arrived number len time) → Admitted u on number len k
          → Thinned (ticks_of through_by n (e ∷ log)) (freed_of n (ds ++ handed_by line (frame time on number len)))
      unfolding freed_of
      goes_through e time on number len k x a = go (ℕ_discrete number n)
        where
          go : Dec (number ≡ n) → Thinned (ticks_of through_by n (e ∷ log)) (freed_of n (ds ++ handed_by line (frame time on number len)))
          go (yes q) =
              rw (ticks_same through_by n e log (arrived number len time) x q, handed_here line time on number len (on_line_lem on number len k a q), freed_append n ds (departed number len time ∷ []), eq-eqb number n q)
              (thinned_last time r)
          go (no q) =
              rw (ticks_other through_by n e log (arrived number len time) x q, freed_append n ds (handed_by line (frame time on number len)))
              (thinned_more (freed_of n (handed_by line (frame time on number len))) r)

      judged_through : (s : Port) (time on number len : ℕ) (list : List ℕ) {j : Judged} → Judgement u (reached s time on) time on number len j
          → Thinned (ticks_of through_by n (taken (frame time on number len) j.verdict (freed_by s time) list ∷ log)) (freed_of n (ds ++ handed_by line (frame time on number len)))
      unfolding stored_if through_by frame_if accepted
      judged_through s time on number len list filters = skips (taken (frame time on number len) 1 (freed_by s time) list) (handed_by line (frame time on number len)) refl
      judged_through s time on number len list (polices k a c) = goes_through (taken (frame time on number len) 2 (freed_by s time) list) time on number len k refl a
      judged_through s time on number len list (drops k a c full) = goes_through (taken (frame time on number len) 3 (freed_by s time) list) time on number len k refl a
      judged_through s time on number len list (stores k a c room) = goes_through (taken (frame time on number len) 0 (freed_by s time) list) time on number len k refl a

      step_through : (s : Port) (list : List ℕ) {q : Report} {x : Stepped} → Stepping u s list q x → Thinned (ticks_of through_by n (entry_of q x ∷ log)) (freed_of n (ds ++ handed_by line q))
      unfolding through_by frame_if
      step_through s list (refuses {r = q} k) = skips (declined q k list) (handed_by line q) (frame_declined (λ verdict. not (eqb verdict 1)) q k)
      step_through s list (waits time timely) = skips (taken (wait time) 0 (freed_by s time) list) (handed_by line (wait time)) refl
      step_through s list (frames time on number len timely arrives x) = judged_through s time on number len list x

    run_through : (calls : List Call) → Thinned (ticks_of through_by n (run u calls).log) (freed_of n (handed_on line (run u calls).log))
    unfolding run handed_on ticks_of
    run_through [] = none_left
    run_through (c ∷ calls) =
        step_through (run u calls).log (handed_on line (run u calls).log) (run_through calls) (run u calls).port c.list (stepping u (run u calls).port c.list c.report)

    -- so its link keeps BAG and jitter
    run_keeps : (calls : List Call) → Orderly t line (handed_on line (run u calls).log) → LinkKeeps (link_at u.links at_row) (run u calls).log
    run_keeps calls k = rw (row_number, (rows i l).2) (thinned_keeps (next_link t line vl) (run_through calls) (k.keeps i l))

  -- a departure d, reported on the line after the calls
  module _ (calls : List Call) (time on number len : ℕ) (here : on ≡ line) (order : latest (run u calls).log ≤ time) (ordered : InOrder (run u calls).log)
      (k : Orderly t line (handed_on line (run u calls).log ++ (departed number len time ∷ []))) (list : List ℕ) where
    abbrev s : Port
    s = (run u calls).port

    abbrev this : Call
    this = record { report = frame time on number len; list = list }

    abbrev d : Departure
    d = departed number len time

    sent : Sent t d
    sent = orderly_last (handed_on line (run u calls).log) d k

    abbrev i : ℕ
    i = sent.lawful.place

    abbrev l : i < length t.links
    l = sent.lawful.at_place

    abbrev j : ℕ
    j = at_row i l

    is_place : place_of number u.links ≡ some j
    is_place =
        place_at number u.links j (row_in i l) (row_number i l ∙ sent.lawful.named)
        (λ k m e. omega (arith, ok.rising k j m (row_in i l), e, row_number i l, sent.lawful.named))

    admits_it : admits (link_at u.links j) on len ≡ true
    unfolding admits next_link
    admits_it =
        true_all _ (
          eq-eqb (link_at u.links j).line on (row_line i l ∙ sym here),
          (rw (rows i l).2 (le-leb (link_at t.links i).least len sent.lawful.not_shorter), (rw (rows i l).2 (le-leb len (link_at t.links i).greatest sent.lawful.not_longer), tt)),
        )

    ready : Ready u s time on len
    unfolding next_link
    ready =
        record {
          is_fit = (never_unfit u passes calls).0;
          soon = sent.soon;
          from = le_trans (run_clock u calls ordered) order;
          line_in = rw (here, ← row_line i l) (ok.fields j (row_in i l)).line_below;
          long = le_trans (ok.fields j (row_in i l)).least_from (rw (rows i l).2 sent.lawful.not_shorter);
          short = le_trans sent.lawful.not_longer (rw (rows i l).2 at (ok.fields j (row_in i l)).greatest_most);
          spaced =
              rw here
              (omega (arith, run_behind calls (orderly_front (handed_on line (run u calls).log) (d ∷ []) k), spaced_last 0 (handed_on line (run u calls).log) d k.spaced));
        }

    abbrev entry : ℕ → Entry
    entry m = entry_of (frame time on number len) (accepted_or m u s this)

    -- its priority
    abbrev p : ℕ
    p = (link_at u.links j).priority

    p_below : p < 8
    p_below = omega (arith, (ok.fields j (row_in i l)).priority_most)

    of_p : has_priority u p (arrived number len time) ≡ true
    unfolding has_priority is_priority
    of_p = rw is_place (eq-eqb p p refl)

    abbrev NotPoliced : Entry → Type 0
    NotPoliced e = (f : Frame) → policed_by e ≡ some f → f.number ≡ (link_at u.links j).number → ⊥

    abbrev NotDropped : Entry → Type 0
    NotDropped e = bounds_refusal u ≡ 0 → ((q : ℕ) → q < 8 → bound u q ≤ size_of u q) → (f : Frame) → dropped_by e ≡ some f → has_priority u p f ≡ true → ⊥

    fares_if : (m : ℕ) → Outcome (length list) m → NotPoliced (entry m) → NotDropped (entry m) → Fares u (entry m)
    unfolding accepted_or policed_by dropped_by tick_of
    fares_if m goes spared kept = record { refused = inl refl; verdict = either; stored = λ b fits x. not_three _ either (λ q. kept b fits it (frame_of 3 time on number len _ refl q) of_p) }
      where
        it : Frame
        it = arrived number len time

        either : ((entry 0).answer.verdict ≡ 0) ⊎ ((entry 0).answer.verdict ≡ 3)
        either =
            not_two _ (report_ruling u (moved_to s time) time on number len j is_place admits_it)
            (λ q. spared it (frame_of 2 time on number len _ refl q) (sym (row_number i l ∙ sent.lawful.named)))
    fares_if m (lacks_room h) spared kept = record { refused = inr (refl, h); verdict = inl refl; stored = λ b fits x. refl }

    fares : Fares u (entry_of (frame time on number len) (step u s this))
    unfolding step run handed_on
    fares =
        fares_if (report_refusal u s (frame time on number len) (length list)) (outcome u s time on number len (length list) (inv calls).ordered.sound.eight ready)
        (always_head (run_spared u ok (this ∷ calls)) j (row_in i l) (run_keeps i l (this ∷ calls) (rw (handed_here line time on number len here) k)))
        (λ b fits. always_head ((demand_three u b (this ∷ calls)).no_drop p p_below (fits p p_below)))

  report_fares : (c : Call) (calls : List Call) → latest (run u calls).log ≤ tick_of c.report → InOrder (run u calls).log → Orderly t line (handed_on line (run u calls).log ++ handed_by line c.report) → IsOn line c.report
      → Fares u (entry_of c.report (step u (run u calls).port c))
  unfolding IsOn tick_of
  report_fares c calls order ordered k here = go c.report order k here
    where
      go : (r : Report) → latest (run u calls).log ≤ tick_of r → Orderly t line (handed_on line (run u calls).log ++ handed_by line r) → IsOn line r
          → Fares u (entry_of r (step u (run u calls).port (record { report = r; list = c.list })))
      go (wait time) order k here = absurd here
      go (frame time on number len) order k here = fares calls time on number len here order ordered (rw (handed_here line time on number len here) at k) c.list

  pub onward_fares : (calls : List Call) → InOrder (run u calls).log → Orderly t line (handed_on line (run u calls).log) → Always (λ e log. IsOn line e.report → Fares u e) (run u calls).log
  unfolding run handed_on InOrder
  onward_fares [] ordered k = start
  onward_fares (c ∷ calls) ordered k =
      then (report_fares c calls ordered.0 ordered.1 k) (onward_fares calls ordered.1 (orderly_front (handed_on line (run u calls).log) (handed_by line c.report) k))
