-- The loop over reports in numbers.
use Rattle.std.specs.Bool.{then_some}
use borrow.Rule.Slice.PartMut.{put_mid}
use mathlib.Core.Path.{◌≡◌, refl, sym, ap, ◌∙◌}
use mathlib.Core.Bool.{Bool, false}
use mathlib.Core.List.{List, [], ◌∷◌, ◌++◌, flat_map}
use Prim.Native.Nat.{ℕ, ◌+◌, ◌-◌, ◌*◌, ◌/◌, ◌^◌, ◌≤◌, ◌<◌}
use native.Mathlib.Omega.{arith}
use lib.ListN.{length, take, drop, length-append, length-drop}
use lib.Seq.{drop-drop}
use Rattle.model.specs.Table.{Table}
use Rattle.model.specs.Report.{Report}
use Rattle.model.specs.Run.{Entry}
use Rattle.model.specs.Batch.{Batched, reports_in, answer_numbers, departure_numbers, over}
use Rattle.model.proofs.Lists.{length-flat_map, flat_map_more}
use Rattle.model.proofs.Reports.{report_at, report_next, no_report}
use Rattle.model.proofs.Batches.{over_more, at_last, entry_of}
use Rattle.flat_queues.proofs.Slots.{three_put}
use Rattle.flat_port.specs.declared.FlatPort.{FlatPort}
use Rattle.flat_port.specs.Lists.{view_flat, Stands}
use Rattle.flat_port.specs.Promised.{Reported, Reports}
use Rattle.flat_batch.specs.Promised.{batch_of, Still, Ends, Answers}
use Rattle.flat_batch.proofs.Progress.{Progress, at_start, at_end, left, one_more, start_fits, rest_lent, rest_back}

-- ---- the loop
pub record Turning (t : Table) (p₀ : FlatPort) (whole : Batched) (reports answers₀ list₀ : List ℕ) (p : FlatPort) (i written : ℕ) (accepted : Bool) (answers list : List ℕ) : Type 0 where
  pub so_far : List Entry
  pub progress : Progress t p₀ whole so_far (reports_in (drop (5 * i) reports)) (drop (3 * written) list₀) p i written accepted
  pub answers_are : answers ≡ over (flat_map answer_numbers so_far) answers₀
  pub list_is : list ≡ over (flat_map departure_numbers so_far) list₀
  pub answers_long : length answers ≡ length answers₀
  pub list_long : length list ≡ length list₀
  pub enough : 3 * (length reports / 5) ≤ length answers₀
  pub some_left : i ≤ length reports / 5
  -- as of every slice of numbers
  pub reports_short : 8 * length reports < 2 ^ 64
  pub list_short : 8 * length list₀ < 2 ^ 64

pub further : (w f : ℕ) (list : List ℕ) → drop (3 * f) (drop (3 * w) list) ≡ drop (3 * (w + f)) list
further w f list = let e : 3 * (w + f) ≡ 3 * w + 3 * f = omega arith in rw e (drop-drop (3 * f) (3 * w) list)

pub starts : {t : Table} {p : FlatPort} (reports answers list : List ℕ) → Stands t p → 3 * (length reports / 5) ≤ length answers → 8 * length reports < 2 ^ 64 → 8 * length list < 2 ^ 64 →
    Turning t p (batch_of t p (reports_in reports) list) reports answers list p 0 0 false answers list
unfolding flat_map
starts reports answers list k h a b =
    record { so_far = []; progress = at_start (reports_in reports) list k; answers_are = refl; list_is = refl; answers_long = refl; list_long = refl; enough = h; some_left = omega arith; reports_short = a; list_short = b }

module _ {t : Table} {p₀ : FlatPort} {whole : Batched} {reports answers₀ list₀ : List ℕ} {p : FlatPort} {i written : ℕ} {accepted : Bool} {answers list : List ℕ}
    (k : Turning t p₀ whole reports answers₀ list₀ p i written accepted answers list) where
  pub over_all : length reports / 5 ≤ i → Ends t p₀ whole (then_some accepted written) p × Answers whole answers₀ answers list₀ list
  over_all h =
      let none : reports_in (drop (5 * i) reports) ≡ [] = no_report (drop (5 * i) reports) (rw length-drop (omega (arith, k.some_left))) in
      let q : Progress t p₀ whole k.so_far [] (drop (3 * written) list₀) p i written accepted = rw none at k.progress in
      let e : whole.entries ≡ k.so_far = ap (λ (b : Batched). b.entries) (at_last q.going) in
      (at_end accepted q, record { answers_are = rw e k.answers_are; list_is = rw e k.list_is })

  pub room_left : 3 * written ≤ length list
  room_left = rw k.list_long (start_fits list₀ (flat_map departure_numbers k.so_far) k.progress.departed k.list_is k.list_long)

  pub lent : take (length list - 3 * written) (drop (3 * written) list) ≡ drop (3 * written) list₀
  lent = rest_lent list₀ (flat_map departure_numbers k.so_far) k.progress.departed k.list_is k.list_long

  module _ (h : i < length reports / 5) {r : Report} (re : r ≡ report_at reports (5 * i)) {part : List ℕ} {a : Reported} {p' : FlatPort}
      (x : Reports t p r (take (length list - 3 * written) (drop (3 * written) list)) part a p') where
    now_due : Progress t p₀ whole k.so_far (r ∷ reports_in (drop (5 * (i + 1)) reports)) (drop (3 * written) list₀) p i written accepted
    now_due = rw re (rw (report_next reports i (omega arith)) at k.progress)

    reported : Reports t p r (drop (3 * written) list₀) part a p'
    reported = rw lent at x

    abbrev entry : Entry
    entry = entry_of t (view_flat t p) r (drop (3 * written) list₀)

    answers_more : take (3 * i) answers ++ (a.refused ∷ a.verdict ∷ a.frames ∷ drop (3 * i + 3) answers) ≡ over (flat_map answer_numbers k.so_far ++ answer_numbers entry) answers₀
    answers_more =
        rw (reported.refused, reported.verdict, reported.frames)
        (over_more (flat_map answer_numbers k.so_far) (answer_numbers entry) answers₀ answers (3 * i) (length-flat_map answer_numbers 3 (λ e. refl) k.so_far ∙ rw k.progress.count) k.answers_are)

    list_more : take (3 * written) list ++ (part ++ drop (length list - 3 * written) (drop (3 * written) list)) ≡ over (flat_map departure_numbers k.so_far ++ departure_numbers entry) list₀
    list_more =
        let away = left now_due reported in
        rest_back list₀ (flat_map departure_numbers k.so_far) k.progress.departed k.list_is k.list_long part (departure_numbers entry) (3 * a.frames)
        (rw reported.frames away.written)
        (rw (reported.list, reported.frames))
        (rw (reported.list, reported.frames) away.rest)

    -- no sum of departures wraps: they are in the list
    pub room_after : {list' : List ℕ} → list' ≡ take (3 * written) list ++ (part ++ drop (length list - 3 * written) (drop (3 * written) list)) → length list' ≡ length list →
        3 * (written + a.frames) ≤ length list
    room_after le ll =
        let away = left now_due reported in
        let n : length (flat_map departure_numbers k.so_far ++ departure_numbers entry) ≡ 3 * (written + a.frames) = rw length-append (omega (arith, k.progress.departed, away.written, reported.frames)) in
        omega (arith, start_fits list₀ (flat_map departure_numbers k.so_far ++ departure_numbers entry) n (le ∙ list_more) (ll ∙ k.list_long), k.list_long)

    pub turns : {flag : Bool} → Still accepted a.refused flag → {freed : ℕ} {numbers answers' list' : List ℕ} → freed ≡ a.frames → numbers ≡ a.refused ∷ a.verdict ∷ a.frames ∷ [] →
        answers' ≡ put_mid (3 * i) (3 * i + 3 - 3 * i) answers numbers →
        list' ≡ take (3 * written) list ++ (part ++ drop (length list - 3 * written) (drop (3 * written) list)) → length answers' ≡ length answers → length list' ≡ length list →
        Turning t p₀ whole reports answers₀ list₀ p' (i + 1) (written + freed) flag answers' list'
    turns f {freed} {numbers} {answers'} {list'} fe ne ae le al ll =
        let next = one_more now_due reported f in
        let e = entry in
        record {
          so_far = k.so_far ++ (e ∷ []);
          progress = rw fe (rw (further written a.frames list₀) at next);
          answers_are = ae ∙ three_put answers (3 * i) _ _ _ ne ∙ answers_more ∙ sym (ap (λ (ys : List ℕ). over ys answers₀) (flat_map_more answer_numbers k.so_far e));
          list_is = le ∙ list_more ∙ sym (ap (λ (ys : List ℕ). over ys list₀) (flat_map_more departure_numbers k.so_far e));
          answers_long = al ∙ k.answers_long;
          list_long = ll ∙ k.list_long;
          enough = k.enough;
          some_left = omega arith;
          reports_short = k.reports_short;
          list_short = k.list_short;
        }
