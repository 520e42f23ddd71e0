-- Every count is the number of accepted frame reports that it stands for; frames on a line are at least 84 ticks apart, so no count fills.
use mathlib.Core.Path.{◌≡◌, refl, sym, ap, ◌∙◌}
use mathlib.Core.Bool.{Bool, true, false, ◌&&◌, not}
use mathlib.Core.Option.{Option, none, some}
use mathlib.Core.List.{List, [], ◌∷◌}
use Prim.Native.Nat.{ℕ, zero, suc, ◌+◌, ◌*◌, ◌≤◌, ◌<◌}
use native.Mathlib.Nat.{le_refl}
use native.Mathlib.Decide.{ℕ_discrete}
use native.Mathlib.Omega.{arith}
use lib.Dec.{eqb, ltb}
use borrow.Author.Tests.{eq-eqb, ne_eqb, lt-ltb}
use lib.ListN.{length, get_or, set, length-set, replicate, length-replicate, get_or-replicate}
use lib.Seq.{get_or-set_same, get_or-set_other}
use Rattle.model.specs.Basics.{provided, sum_to, further}
use Rattle.model.specs.Units.{last_tick, full_count, occupied}
use Rattle.model.specs.Link.{VirtualLink, link_at, place_of}
use Rattle.model.specs.Table.{Table, table_refusal}
use Rattle.model.specs.Bounds.{is_there}
use Rattle.model.specs.Counters.{Counters, verdicts, counts_of, count_at, none_counted, risen, counted, link_sum, link_sums, grand_total, none_full}
use Rattle.model.specs.Port.{Port, line_tick, fresh, with_counters}
use Rattle.model.specs.Sums.{sums_if, sums}
use Rattle.model.specs.Report.{Report, wait, frame, Judged, stored_if, counted_by, Call, Stepped, Answer, refusal}
use Rattle.model.specs.Run.{Entry, run, accepted, reports_frame, frames_reported}
use Rattle.model.specs.Promises.{CountsAddUp}
use Rattle.model.proofs.Curves.{sum_to_none, occupied_weight}
use Rattle.model.proofs.Queues.{sum_to_ext, sum_to_change}
use Rattle.model.proofs.Gate.{numbers_apart, after_set}
use Rattle.model.proofs.Passing.{Passing, is_passing}
use Rattle.model.proofs.Stepping.{Judgement, filters, polices, drops, stores, Placed, placed, verdict_of_lem, Arrives, moved_to, reached, freed_by, Stepping, refuses, waits, frames, stepping}
use Rattle.model.proofs.Counting.{is_every, judged_counters, none_at}
use Rattle.model.proofs.Log.{entry_of, taken, not_accepted}
use Rattle.model.proofs.Invariant.{Invariant, run_kept}
use Rattle.model.proofs.Fitness.{never_unfit}

abbrev Meant : Type 0
Meant = ℕ → ℕ → Bool

abbrev all_of : Meant
all_of number given = true

-- the frames of a link with a verdict; those whose number no link has
abbrev of_link : VirtualLink → ℕ → Meant
of_link v verdict number given = eqb number v.number && eqb given verdict

abbrev of_none : Table → Meant
of_none t number given = not (is_there (place_of number t.links))

-- ---- entries
declined_none : (meant : Meant) (r : Report) (n : ℕ) → reports_frame meant r (refusal (suc n)) ≡ false
unfolding reports_frame
declined_none meant (wait time) n = refl
declined_none meant (frame time line number len) n = rw (not_accepted n)

at_most : (meant : Meant) (r : Report) (a : Answer) → provided (reports_frame meant r a) 1 ≤ provided (reports_frame all_of r a) 1
unfolding reports_frame provided
at_most meant (wait time) a = le_refl 0
at_most meant (frame time line number len) a = go (accepted a) (meant number a.verdict)
  where
    go : (x y : Bool) → provided (x && y) 1 ≤ provided (x && true) 1
    go true true = le_refl 1
    go true false = omega arith
    go false y = le_refl 0

reported_few : (meant : Meant) (log : List Entry) → frames_reported meant log ≤ frames_reported all_of log
unfolding frames_reported
reported_few meant [] = le_refl 0
reported_few meant (e ∷ log) = omega (arith, at_most meant e.report e.answer, reported_few meant log)

-- one entry more
one_more : (meant : Meant) (e : Entry) (log : List Entry) → reports_frame meant e.report e.answer ≡ true → frames_reported meant (e ∷ log) ≡ suc (frames_reported meant log)
unfolding frames_reported provided
one_more meant e log h = rw h (omega arith)

no_more : (meant : Meant) (e : Entry) (log : List Entry) → reports_frame meant e.report e.answer ≡ false → frames_reported meant (e ∷ log) ≡ frames_reported meant log
unfolding frames_reported provided
no_more meant e log h = rw h (omega arith)

-- ---- a count more

-- the unknown count is no part of a link's sum
sums_same : (n : ℕ) (c : Counters) (u : ℕ) → sum_to (link_sum (record { links = c.links; unknown = u })) n ≡ sum_to (link_sum c) n
unfolding link_sum
sums_same n c u = refl

risen_more : {n : ℕ} → n < full_count → risen n ≡ suc n
unfolding risen
risen_more {n} h = rw (lt-ltb n full_count h)

module _ (n : ℕ) (c : Counters) (i verdict : ℕ) (at_place : i < n) (one_of_lem : verdict < verdicts) (rows : length c.links ≡ n) (four : length (counts_of c i) ≡ verdicts) (less : count_at c i verdict < full_count) where
  abbrev after : Counters
  after = counted (some i) verdict c

  row_is : counts_of after i ≡ set (counts_of c i) verdict (risen (count_at c i verdict))
  unfolding counted
  row_is = get_or-set_same c.links i (set (counts_of c i) verdict (risen (count_at c i verdict))) [] (omega arith)

  here : count_at after i verdict ≡ suc (count_at c i verdict)
  here = rw row_is (get_or-set_same (counts_of c i) verdict (risen (count_at c i verdict)) 0 (omega arith)) ∙ risen_more less

  other_verdict : (v : ℕ) → (v ≡ verdict → ⊥) → count_at after i v ≡ count_at c i v
  other_verdict v x = rw row_is (get_or-set_other (counts_of c i) verdict v (risen (count_at c i verdict)) 0 x)

  other_link : (j v : ℕ) → (j ≡ i → ⊥) → count_at after j v ≡ count_at c j v
  unfolding counted
  other_link j v x = ap (λ (row : List ℕ). get_or row v 0) (get_or-set_other c.links i j (set (counts_of c i) verdict (risen (count_at c i verdict))) [] x)

  sum_more : link_sum after i ≡ suc (link_sum c i)
  unfolding link_sum
  sum_more = omega (arith, here, sum_to_change (count_at after i) (count_at c i) verdict verdicts one_of_lem (λ v h x. other_verdict v x))

  sum_other : (j : ℕ) → (j ≡ i → ⊥) → link_sum after j ≡ link_sum c j
  unfolding link_sum
  sum_other j x = sum_to_ext (count_at after j) (count_at c j) verdicts (λ v h. other_link j v x)

  total_more : grand_total n after ≡ suc (grand_total n c)
  unfolding grand_total counted
  total_more = omega (arith, sum_more, sum_to_change (link_sum after) (link_sum c) i n at_place (λ j h x. sum_other j x))

-- ---- what every list of reports keeps
record Kept (t : Table) (s : Port) (log : List Entry) : Type 0 where
  each : (i verdict : ℕ) → i < length t.links → verdict < verdicts → count_at s.counters i verdict ≡ frames_reported (of_link (link_at t.links i) verdict) log
  unknown : s.counters.unknown ≡ frames_reported (of_none t) log
  total : grand_total (length t.links) s.counters ≡ frames_reported all_of log
  spaced : 84 * frames_reported all_of log ≤ sum_to (line_tick s.gate.line_ticks) t.lines
  rows : length s.counters.links ≡ length t.links
  four : (i : ℕ) → i < length t.links → length (counts_of s.counters i) ≡ verdicts

-- the lines' ticks together are at most 24 times the last
sum_to_under : (f : ℕ → ℕ) (n : ℕ) → ((k : ℕ) → k < n → f k ≤ last_tick) → sum_to f n ≤ n * last_tick
unfolding sum_to
sum_to_under f zero h = le_refl 0
sum_to_under f (suc n) h = omega (arith, sum_to_under f n (λ k l. h k (omega arith)), h n (le_refl (suc n)))

module _ (t : Table) (v : Passing t) (s : Port) (log : List Entry) (inv : Invariant t s log) (k : Kept t s log) where
  few_frames : frames_reported all_of log < full_count
  few_frames =
      omega (
        arith,
        k.spaced,
        v.counts.lines_most,
        sum_to_under (line_tick s.gate.line_ticks) t.lines (λ ℓ l. omega (arith, inv.ordered.early, (inv.good occupied occupied_weight (λ _. true)).line_past ℓ l)),
      )

  count_few : (meant : Meant) → frames_reported meant log < full_count
  count_few meant = omega (arith, few_frames, reported_few meant log)

-- ---- a report

-- an entry that reports no frame: the counters and the line ticks stay
module _ (t : Table) (s : Port) (log : List Entry) (k : Kept t s log) (e : Entry) (x : Port) where
  stays : x.counters ≡ s.counters → x.gate.line_ticks ≡ s.gate.line_ticks → ((meant : Meant) → reports_frame meant e.report e.answer ≡ false) → Kept t x (e ∷ log)
  stays c l not-one =
      record {
        each = λ i v h m. rw (c, no_more (of_link (link_at t.links i) v) (e) log (not-one (of_link (link_at t.links i) v))) (k.each i v h m);
        unknown = rw (c, no_more (of_none t) (e) log (not-one (of_none t))) k.unknown;
        total = rw (c, no_more (all_of) (e) log (not-one all_of)) k.total;
        spaced = rw (l, no_more (all_of) (e) log (not-one all_of)) k.spaced;
        rows = rw c k.rows;
        four = λ i h. rw c (k.four i h);
      }

-- no link has a number whose place is none
nowhere : (n : ℕ) (links : List VirtualLink) → place_of n links ≡ none → (i : ℕ) → i < length links → n ≡ (link_at links i).number → ⊥
unfolding place_of further
nowhere n [] e i h q = omega arith
nowhere n (v ∷ links) e i h q = go (eqb v.number n) refl (place_of n links) refl i h q (nowhere n links)
  where
    go : (x : Bool) → eqb v.number n ≡ x → (o : Option ℕ) → place_of n links ≡ o → (j : ℕ) → j < length (v ∷ links) → n ≡ (link_at (v ∷ links) j).number
        → (place_of n links ≡ none → (j : ℕ) → j < length links → n ≡ (link_at links j).number → ⊥) → ⊥
    go true x o y j m r ih = let z : ◌≡◌ {A = ℕ} 0 1 = let w : ◌≡◌ {A = Option ℕ} (some 0) none = rw x at e in cc in omega arith
    go false x (some k) y j m r ih = let z : ◌≡◌ {A = ℕ} 0 1 = let w : ◌≡◌ {A = Option ℕ} (some (suc k)) none = rw (x, y) at e in cc in omega arith
    go false x none y zero m r ih = let z : ◌≡◌ {A = ℕ} 0 1 = let w : false ≡ true = sym x ∙ eq-eqb v.number n (sym r) in cc in omega arith
    go false x none y (suc j) m r ih = ih y j (omega arith) r

-- the tick of a frame's line rises by its length at least
ticks_more : (ticks : List ℕ) (lines line time : ℕ) → line < lines → length ticks ≡ lines → line_tick ticks line + 84 ≤ time →
    sum_to (line_tick ticks) lines + 84 ≤ sum_to (line_tick (set ticks line time)) lines
ticks_more ticks lines line time l n h =
    omega (
      arith,
      get_or-set_same ticks line time 0 (omega arith),
      sum_to_change (line_tick (set ticks line time)) (line_tick ticks) line lines l (λ j m x. get_or-set_other ticks line j time 0 x),
    )

judged_ticks : {t : Table} {s : Port} {time line number len : ℕ} {j : Judged} → Judgement t s time line number len j → j.port.gate.line_ticks ≡ s.gate.line_ticks
unfolding stored_if
judged_ticks filters = refl
judged_ticks (polices i a c) = refl
judged_ticks (drops i a c full) = refl
judged_ticks (stores i a c room) = refl

module _ (t : Table) (v : Passing t) (s : Port) (log : List Entry) (inv : Invariant t s log) (k : Kept t s log)
    (time line number len : ℕ) (arrives : Arrives t s time line len) {j : Judged} (x : Judgement t (reached s time line) time line number len j) (list : List ℕ) where
  abbrev this : Entry
  this = taken (frame time line number len) j.verdict (freed_by s time) list

  abbrev n : ℕ
  n = length t.links

  ticks_are : j.port.gate.line_ticks ≡ set s.gate.line_ticks line time
  ticks_are = judged_ticks x

  further_apart : 84 * suc (frames_reported all_of log) ≤ sum_to (line_tick j.port.gate.line_ticks) t.lines
  further_apart =
      rw ticks_are
      (omega (
        arith,
        k.spaced,
        ticks_more s.gate.line_ticks t.lines line time arrives.line_in (inv.good occupied occupied_weight (λ _. true)).lines_length (omega (arith, arrives.spaced, arrives.long)),
      ))

  meant_is : (meant : Meant) → reports_frame meant this.report this.answer ≡ meant number j.verdict
  unfolding reports_frame accepted
  meant_is meant = refl

  all_more : frames_reported all_of (this ∷ log) ≡ suc (frames_reported all_of log)
  all_more = one_more (all_of) (this) log (meant_is all_of)

  -- the port after it, with those counters
  abbrev with : Counters → Port
  with c = with_counters j.port c

  -- a number that no link has
  is_unknown : place_of number t.links ≡ none → Kept t (with (counted none j.verdict s.counters)) (this ∷ log)
  unfolding counted is_there grand_total
  is_unknown e =
      let less : s.counters.unknown < full_count = omega (arith, k.unknown, count_few t v s log inv k (of_none t)) in
      let more : frames_reported (of_none t) (this ∷ log) ≡ suc (frames_reported (of_none t) log) = one_more (of_none t) (this) log (meant_is (of_none t) ∙ rw e) in
      record {
        each =
            λ i w h m.
            rw (no_more (of_link (link_at t.links i) w) (this) log (meant_is (of_link (link_at t.links i) w) ∙ rw (ne_eqb number (link_at t.links i).number (nowhere number t.links e i h)))) (k.each i w h m);
        unknown = rw (risen_more less) (omega (arith, more, k.unknown));
        total = rw (risen_more less, sums_same n s.counters) (omega (arith, all_more, k.total));
        spaced = rw all_more further_apart;
        rows = k.rows;
        four = k.four;
      }

  -- a number of the table's
  module _ (i : ℕ) (e : place_of number t.links ≡ some i) where
    p : Placed number t.links i
    p = placed number t.links i e

    few : j.verdict < verdicts
    few = verdict_of_lem x

    less : count_at s.counters i j.verdict < full_count
    less = omega (arith, k.each i j.verdict p.in_range few, count_few t v s log inv k (of_link (link_at t.links i) j.verdict))

    abbrev c : Counters
    c = counted (some i) j.verdict s.counters

    each_after : (h w : ℕ) → h < n → w < verdicts → Dec (h ≡ i) → Dec (w ≡ j.verdict) → count_at c h w ≡ frames_reported (of_link (link_at t.links h) w) (this ∷ log)
    each_after h w l m (yes a) (yes b) =
        rw (a, b)
        (here n s.counters i j.verdict p.in_range few k.rows (k.four i p.in_range) less
        ∙ ap suc (k.each i j.verdict p.in_range few)
        ∙ sym (one_more (of_link (link_at t.links i) j.verdict) (this) log (meant_is (of_link (link_at t.links i) j.verdict) ∙ rw (eq-eqb number (link_at t.links i).number (sym p.number_is), eq-eqb j.verdict j.verdict refl))))
    each_after h w l m (yes a) (no b) =
        rw a
        (other_verdict n s.counters i j.verdict p.in_range few k.rows (k.four i p.in_range) less w b
        ∙ k.each i w p.in_range m
        ∙ sym (no_more (of_link (link_at t.links i) w) (this) log (meant_is (of_link (link_at t.links i) w) ∙ rw (eq-eqb number (link_at t.links i).number (sym p.number_is), ne_eqb j.verdict w (λ z. b (sym z))))))
    each_after h w l m (no a) d =
        other_link n s.counters i j.verdict p.in_range few k.rows (k.four i p.in_range) less h w a
        ∙ k.each h w l m
        ∙ sym (no_more (of_link (link_at t.links h) w) (this) log (meant_is (of_link (link_at t.links h) w) ∙ rw (ne_eqb number (link_at t.links h).number (λ z. numbers_apart t.links v.rising h i l p.in_range a (sym z ∙ sym p.number_is)))))

    unknown_stays : c.unknown ≡ frames_reported (of_none t) log
    unfolding counted
    unknown_stays = k.unknown

    rows_stay : length c.links ≡ n
    unfolding counted
    rows_stay = length-set s.counters.links i _ ∙ k.rows

    four_stay : (h : ℕ) → h < n → length (counts_of c h) ≡ verdicts
    unfolding counted
    four_stay =
        after_set (λ _ row. length row ≡ verdicts) n s.counters.links [] i (set (counts_of s.counters i) j.verdict (risen (count_at s.counters i j.verdict))) k.rows p.in_range
        (length-set (counts_of s.counters i) j.verdict _ ∙ k.four i p.in_range) (λ h l _. k.four h l)

    is_known : Kept t (with c) (this ∷ log)
    unfolding is_there
    is_known =
        record {
          each = λ h w l m. each_after h w l m (ℕ_discrete h i) (ℕ_discrete w j.verdict);
          unknown = rw (no_more (of_none t) this log (meant_is (of_none t) ∙ rw e)) unknown_stays;
          total = rw all_more (total_more n s.counters i j.verdict p.in_range few k.rows (k.four i p.in_range) less ∙ ap suc k.total);
          spaced = rw all_more further_apart;
          rows = rows_stay;
          four = four_stay;
        }

  counted_kept : Kept t (with (counted_by t (frame time line number len) j.verdict j.port.counters)) (this ∷ log)
  unfolding counted_by
  counted_kept = rw (judged_counters t (reached s time line) time line number len x) (go (place_of number t.links) refl)
    where
      go : (o : Option ℕ) → place_of number t.links ≡ o → Kept t (with (counted o j.verdict s.counters)) (this ∷ log)
      go none e = is_unknown e
      go (some i) e = is_known i e

step_counted : (t : Table) → Passing t → (s : Port) (log : List Entry) → Invariant t s log → Kept t s log → (list : List ℕ) {r : Report} {x : Stepped} → Stepping t s list r x → Kept t x.port (entry_of r x ∷ log)
unfolding reports_frame
step_counted t v s log inv k list (refuses {r = r} n) = stays t s log k (entry_of r (record { port = s; answer = refusal (suc n); list = list })) s refl refl (λ meant. declined_none meant r n)
step_counted t v s log inv k list (waits time timely) = stays t s log k (taken (wait time) 0 (freed_by s time) list) (moved_to s time) refl refl (λ meant. refl)
step_counted t v s log inv k list (frames time line number len timely arrives x) = counted_kept t v s log inv k time line number len arrives x list

-- ---- the fresh port
none_summed : (n m : ℕ) → sum_to (link_sum (none_counted m)) n ≡ 0
unfolding link_sum
none_summed n m = sum_to_none (link_sum (none_counted m)) n (λ i. sum_to_none (count_at (none_counted m) i) verdicts (λ v. none_at m i v))

fresh_counted : (t : Table) → Kept t (fresh t) []
unfolding fresh frames_reported grand_total
fresh_counted t =
    record {
      each = λ i v h m. none_at (length t.links) i v;
      unknown = refl;
      total = omega (arith, none_summed (length t.links) (length t.links));
      spaced = omega arith;
      rows = length-replicate (length t.links) (replicate {A = ℕ} verdicts 0);
      four = λ i h. rw (get_or-replicate (length t.links) i (replicate {A = ℕ} verdicts 0) [] h);
    }

run_counted : (t : Table) → Passing t → (calls : List Call) → Kept t (run t calls).port (run t calls).log
unfolding run
run_counted t v [] = fresh_counted t
run_counted t v (c ∷ calls) =
    step_counted t v (run t calls).port (run t calls).log (run_kept t v calls) (run_counted t v calls) c.list (stepping t (run t calls).port c.list c.report)

module _ (t : Table) (e : table_refusal t ≡ 0) (calls : List Call) where
  abbrev ended : Port
  ended = (run t calls).port

  k : Kept t ended (run t calls).log
  k = run_counted t (is_passing t e) calls

  all_few : (meant : Meant) → frames_reported meant (run t calls).log < full_count
  all_few = count_few t (is_passing t e) ended (run t calls).log (run_kept t (is_passing t e) calls) k

  below : (i verdict : ℕ) → i < length t.links → verdict < verdicts → count_at ended.counters i verdict < full_count
  below i v h m = omega (arith, k.each i v h m, all_few (of_link (link_at t.links i) v))

  unknown_below : ended.counters.unknown < full_count
  unknown_below = omega (arith, k.unknown, all_few (of_none t))

  none_full_lem : none_full (length t.links) ended.counters ≡ true
  unfolding none_full
  none_full_lem =
      is_every (λ count. ltb count full_count) (length t.links) ended.counters
      (record { of_link_lem = λ i v h m. lt-ltb (count_at ended.counters i v) full_count (below i v h m); of_unknown = lt-ltb ended.counters.unknown full_count unknown_below })

  adds_up : sums t ended ≡ record { refused = 0; sums = link_sums (length t.links) ended.counters; has_total = true; total = frames_reported all_of (run t calls).log }
  unfolding sums sums_if provided
  adds_up = rw ((never_unfit t e calls).0, none_full_lem, k.total)

pub counts_add_up : CountsAddUp
counts_add_up t e calls =
    record {
      each = (k t e calls).each;
      unknown = (k t e calls).unknown;
      below = below t e calls;
      unknown_below = unknown_below t e calls;
      adds_up = adds_up t e calls;
    }
