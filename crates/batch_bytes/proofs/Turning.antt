-- The loop over reports in bytes: what a report is lent counts only as far as all queues can fill it.
use Rattle.std.specs.Bool.{then_some}
use mathlib.Core.Path.{◌≡◌, refl, sym, ap, ◌∙◌}
use mathlib.Core.Bool.{Bool, false}
use mathlib.Core.List.{List, [], ◌∷◌, ◌++◌, flat_map}
use Prim.Native.Nat.{ℕ, ◌+◌, ◌-◌, ◌*◌, ◌/◌, ◌^◌, ◌≤◌, ◌<◌, min}
use native.Mathlib.Decide.{dec_le}
use native.Mathlib.Omega.{arith}
use lib.Dec.{ltb}
use borrow.Author.Tests.{lt-ltb, le-ltb}
use lib.ListN.{length, take, drop, length-take, length-drop, length-append}
use lib.Seq.{length-take-le, take-append-le}
use Rattle.model.specs.Table.{Table}
use Rattle.model.specs.Machine.{frames_held}
use Rattle.model.specs.Report.{Report, Answer}
use Rattle.model.specs.Run.{Entry}
use Rattle.model.specs.Batch.{Batched, reports_in, numbers_in, bytes_of, answer_numbers, departure_numbers, over}
use Rattle.model.proofs.Lists.{length-flat_map, flat_map_more}
use Rattle.model.proofs.Reports.{report_at, report_next, no_report}
use Rattle.model.proofs.Batches.{at_last, entry_of, leaves, Alike, alike}
use Rattle.little_endian.specs.Output.{laid}
use Rattle.flat_port.specs.declared.FlatPort.{FlatPort}
use Rattle.flat_port.specs.Lists.{queues_in, view_flat, Stands}
use Rattle.flat_port.specs.Promised.{Reported, Reports, step_of}
use Rattle.flat_port.proofs.Standing.{few_held}
use Rattle.flat_batch.specs.Promised.{batch_of, Still, Ends}
use Rattle.flat_batch.proofs.Turning.{further}
use Rattle.flat_batch.proofs.Progress.{Progress, at_start, at_end, one_more}
use Rattle.report_bytes.specs.Reports.{report_in}
use Rattle.report_bytes.proofs.NumberBytes.{numbers_long, report_in_lem, bytes_over}
use Rattle.batch_bytes.specs.Promised.{BytesAnswers}

-- ---- a list cut to what all queues can fill gives the same
module _ {t : Table} {p : FlatPort} (k : Stands t p) (r : Report) (cut whole : List ℕ) (h : length cut ≡ min 6144 (length whole)) where
  same_room : ltb (length cut) (3 * frames_held (queues_in p.lists)) ≡ ltb (length whole) (3 * frames_held (queues_in p.lists))
  same_room =
      let n = 3 * frames_held (queues_in p.lists) in
      let few : n ≤ 6144 = omega (arith, few_held t p k, k.frames) in
      elim (dec_le n (length whole)) [
        | yes m ↦ le-ltb (length cut) n (omega arith) ∙ sym (le-ltb (length whole) n m)
        | no m ↦ lt-ltb (length cut) n (omega arith) ∙ sym (lt-ltb (length whole) n (omega arith))
      ]

  same : Alike t (view_flat t p) r cut whole
  same = alike t (view_flat t p) r cut whole same_room

  module _ {part : List ℕ} {a : Reported} {p' : FlatPort} (x : Reports t p r cut part a p') where
    pub as_whole : Reports t p r whole (step_of t p r whole).list a p'
    as_whole =
        record {
          refused = x.refused ∙ ap (λ (q : Answer). q.refused) same.answer;
          verdict = x.verdict ∙ ap (λ (q : Answer). q.verdict) same.answer;
          frames = x.frames ∙ ap (λ (q : Answer). q.frames) same.answer;
          list = refl;
          port = x.port ∙ same.port;
          stands = x.stands;
          behind = x.behind;
        }

    pub departed_whole : departure_numbers (entry_of t (view_flat t p) r whole) ≡ take (3 * a.frames) part
    departed_whole = sym same.departures ∙ rw (x.frames, x.list)

-- ---- the loop
pub record Turning (t : Table) (p₀ : FlatPort) (whole : Batched) (reports answers₀ list₀ : List ℕ) (p : FlatPort) (i written : ℕ) (accepted : Bool) (answers list room : List ℕ) : Type 0 where
  pub so_far : List Entry
  pub progress : Progress t p₀ whole so_far (reports_in (drop (5 * i) (numbers_in reports))) (drop (3 * written) (numbers_in list₀)) p i written accepted
  pub answers_are : answers ≡ over (bytes_of (flat_map answer_numbers so_far)) answers₀
  pub list_is : list ≡ over (bytes_of (flat_map departure_numbers so_far)) list₀
  pub answers_long : length answers ≡ length answers₀
  pub list_long : length list ≡ length list₀
  pub room_long : length room ≡ 6144
  pub enough : 3 * (length reports / 40) ≤ length answers₀ / 8
  pub some_left : i ≤ length reports / 40
  pub within : 3 * written ≤ length list₀ / 8
  -- as of every slice
  pub reports_short : length reports < 2 ^ 64
  pub list_short : length list₀ < 2 ^ 64

pub starts : {t : Table} {p : FlatPort} (reports answers list room : List ℕ) → Stands t p → 3 * (length reports / 40) ≤ length answers / 8 → length room ≡ 6144 → length reports < 2 ^ 64 →
    length list < 2 ^ 64 → Turning t p (batch_of t p (reports_in (numbers_in reports)) (numbers_in list)) reports answers list p 0 0 false answers list room
unfolding flat_map
starts reports answers list room k h e a b =
    record {
      so_far = [];
      progress = at_start (reports_in (numbers_in reports)) (numbers_in list) k;
      answers_are = refl;
      list_is = refl;
      answers_long = refl;
      list_long = refl;
      room_long = e;
      enough = h;
      some_left = omega arith;
      within = omega arith;
      reports_short = a;
      list_short = b;
    }

module _ {t : Table} {p₀ : FlatPort} {whole : Batched} {reports answers₀ list₀ : List ℕ} {p : FlatPort} {i written : ℕ} {accepted : Bool} {answers list room : List ℕ}
    (k : Turning t p₀ whole reports answers₀ list₀ p i written accepted answers list room) where
  pub over_all : length reports / 40 ≤ i → Ends t p₀ whole (then_some accepted written) p × BytesAnswers whole answers₀ answers list₀ list
  over_all h =
      let none : reports_in (drop (5 * i) (numbers_in reports)) ≡ [] = no_report (drop (5 * i) (numbers_in reports)) (rw (length-drop, numbers_long reports) (omega (arith, k.some_left))) in
      let q : Progress t p₀ whole k.so_far [] (drop (3 * written) (numbers_in list₀)) p i written accepted = rw none at k.progress in
      let e : whole.entries ≡ k.so_far = ap (λ (b : Batched). b.entries) (at_last q.going) in
      (at_end accepted q, record { answers_are = rw e k.answers_are; list_is = rw e k.list_is })

  -- what a report that is lent a part of the room leaves of it
  module _ (most : ℕ) {r : Report} {part : List ℕ} {a : Reported} {p' : FlatPort} (x : Reports t p r (take most room) part a p') (pl : length part ≡ length (take most room)) (low : most ≤ 6144) where
    cut_long : length (take most room) ≡ most
    cut_long = length-take-le most room (omega (arith, k.room_long))

    pub few : 3 * a.frames ≤ most
    few =
        let e : min (3 * a.frames) (length part) ≡ 3 * a.frames = sym (length-take (3 * a.frames) part) ∙ rw (x.list, x.frames) (leaves t (view_flat t p) r (take most room)).written in
        omega (arith, pl, cut_long)

    pub room_after : length (part ++ drop most room) ≡ 6144
    room_after = rw (length-append, length-drop) (omega (arith, pl, cut_long, k.room_long))

  module _ (h : i < length reports / 40) {r : Report} (re : r ≡ report_in reports (40 * i)) {most : ℕ} (me : most ≡ min 6144 (length list₀ / 8 - 3 * written)) {part : List ℕ} {a : Reported} {p' : FlatPort}
      (x : Reports t p r (take most room) part a p') (pl : length part ≡ length (take most room)) where
    abbrev lent : List ℕ
    lent = drop (3 * written) (numbers_in list₀)

    abbrev entry : Entry
    entry = entry_of t (view_flat t p) r lent

    low : most ≤ 6144
    low = omega (arith, me)

    cut_is : length (take most room) ≡ min 6144 (length lent)
    cut_is = rw (cut_long most x pl low, length-drop, numbers_long list₀) me

    now_due : Progress t p₀ whole k.so_far (r ∷ reports_in (drop (5 * (i + 1)) (numbers_in reports))) lent p i written accepted
    now_due =
        let e : r ≡ report_at (numbers_in reports) (5 * i) = re ∙ report_in_lem reports i h in
        rw e (rw (report_next (numbers_in reports) i (rw (numbers_long reports) (omega arith))) at k.progress)

    reported : Reports t p r lent (step_of t p r lent).list a p'
    reported = as_whole k.progress.stands r (take most room) lent cut_is x

    departures_are : departure_numbers entry ≡ take (3 * a.frames) part
    departures_are = departed_whole k.progress.stands r (take most room) lent cut_is x

    pub within_after : 3 * (written + a.frames) ≤ length list₀ / 8
    within_after = omega (arith, few most x pl low, me, k.within)

    answers_more : {numbers answers' : List ℕ} → numbers ≡ a.refused ∷ a.verdict ∷ a.frames ∷ [] → answers' ≡ laid (24 * i) (bytes_of numbers) answers →
        answers' ≡ over (bytes_of (flat_map answer_numbers (k.so_far ++ (entry ∷ [])))) answers₀
    answers_more ne f =
        let far : 8 * length (flat_map answer_numbers k.so_far) ≡ 24 * i = omega (arith, length-flat_map answer_numbers 3 (λ e. refl) k.so_far, k.progress.count) in
        rw (flat_map_more answer_numbers k.so_far entry)
        (bytes_over (flat_map answer_numbers k.so_far) (answer_numbers entry) answers₀ far k.answers_are (f ∙ rw (ne, reported.refused, reported.verdict, reported.frames)))

    list_more : {list' : List ℕ} → list' ≡ laid (24 * written) (bytes_of (take (3 * a.frames) (part ++ drop most room))) list →
        list' ≡ over (bytes_of (flat_map departure_numbers (k.so_far ++ (entry ∷ [])))) list₀
    list_more f =
        let far : 8 * length (flat_map departure_numbers k.so_far) ≡ 24 * written = omega (arith, k.progress.departed) in
        let d : take (3 * a.frames) (part ++ drop most room) ≡ departure_numbers entry = take-append-le (3 * a.frames) part (drop most room) (omega (arith, few most x pl low, pl, cut_long most x pl low)) ∙ sym departures_are in
        rw (flat_map_more departure_numbers k.so_far entry)
        (bytes_over (flat_map departure_numbers k.so_far) (departure_numbers entry) list₀ far k.list_is (f ∙ rw d))

    pub turns : {flag : Bool} → Still accepted a.refused flag → {freed : ℕ} {numbers answers' list' : List ℕ} → freed ≡ a.frames → numbers ≡ a.refused ∷ a.verdict ∷ a.frames ∷ [] →
        answers' ≡ laid (24 * i) (bytes_of numbers) answers →
        list' ≡ laid (24 * written) (bytes_of (take (3 * freed) (part ++ drop most room))) list → length answers' ≡ length answers → length list' ≡ length list →
        Turning t p₀ whole reports answers₀ list₀ p' (i + 1) (written + freed) flag answers' list' (part ++ drop most room)
    turns f {freed} fe ne ae le al ll =
        record {
          so_far = k.so_far ++ (entry ∷ []);
          progress = rw fe (rw (further written a.frames (numbers_in list₀)) at (one_more now_due reported f));
          answers_are = answers_more ne ae;
          list_is = list_more (rw fe at le);
          answers_long = al ∙ k.answers_long;
          list_long = ll ∙ k.list_long;
          room_long = room_after most x pl low;
          enough = k.enough;
          some_left = omega arith;
          within = rw fe within_after;
          reports_short = k.reports_short;
          list_short = k.list_short;
        }
