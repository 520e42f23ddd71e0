-- Two ports in a row: what leaves a port of a table with bounds fares well at the next.
use mathlib.Core.Path.{◌≡◌, refl, sym, ap, ◌∙◌}
use mathlib.Core.List.{List, [], ◌∷◌, ◌++◌, map, append-nil, append_assoc}
use Prim.Native.Nat.{ℕ, ◌≤◌}
use native.Mathlib.Omega.{arith}
use Rattle.model.specs.Basics.{Each, done, also}
use Rattle.model.specs.Table.{Table}
use Rattle.model.specs.Machine.{Departure}
use Rattle.model.specs.Report.{Report, wait, frame, tick_of}
use Rattle.model.specs.Run.{Entry, run, Always, start, then}
use Rattle.model.specs.NextTable.{next_table}
use Rattle.model.specs.Promises.{Spaced, all_departures}
use Rattle.two_ports.specs.Handed.{reported, report_on, IsOn, handed_by, handed_on, latest, InOrder}
use Rattle.two_ports.specs.Promises.{Fares, TwoPorts, TwoPortsAmongOthers}
use Rattle.two_ports.proofs.HandedOver.{last_from, last_is, spaced_last, spaced_front, each_front, each_end, handed_over}
use Rattle.two_ports.proofs.NextRows.{rows_among, next_bounds, next_passes}
use Rattle.two_ports.proofs.Onward.{handed_here, onward_fares}

pub two_ports_among_others : TwoPortsAmongOthers
two_ports_among_others t e line u rows passes calls onward ordered same = onward_fares t line u passes rows onward ordered (rw same (handed_over t e line calls))

-- ---- the departures alone
module _ (line : ℕ) where
  -- what reports hand on
  unfoldable handed_in : List Report → List Departure
  handed_in [] = []
  handed_in (r ∷ rs) = handed_by line r ++ handed_in rs

  handed_append : (a b : List Report) → handed_in (a ++ b) ≡ handed_in a ++ handed_in b
  unfolding handed_in
  handed_append [] b = refl
  handed_append (r ∷ a) b = ap (λ (l : List Departure). handed_by line r ++ l) (handed_append a b) ∙ sym (append_assoc (handed_by line r) (handed_in a) (handed_in b))

  handed_reported : (log : List Entry) → handed_on line log ≡ handed_in (reported log)
  unfolding handed_on handed_in reported
  handed_reported [] = refl
  handed_reported (e ∷ log) =
      rw (handed_append (reported log) (e.report ∷ []), handed_reported log)
      (ap (λ (l : List Departure). handed_in (reported log) ++ l) (sym (append-nil (handed_by line e.report))))

  handed_departures : (ds : List Departure) → handed_in (map (report_on line) ds) ≡ ds
  unfolding handed_in
  handed_departures [] = refl
  handed_departures (d ∷ ds) = rw (handed_here line d.freed line d.number d.length refl) (ap (λ (l : List Departure). d ∷ l) (handed_departures ds))

  all_on : (ds : List Departure) → Each (IsOn line) (map (report_on line) ds)
  unfolding IsOn
  all_on [] = done
  all_on (d ∷ ds) = also {a = report_on line d} refl (all_on ds)

  latest_of : (r : Report) (ds : List Departure) → IsOn line r → tick_of r ≡ last_from 0 (ds ++ handed_by line r)
  unfolding IsOn tick_of
  latest_of (wait time) ds on = absurd on
  latest_of (frame time at number len) ds on = rw (handed_here line time at number len on) (sym (last_is 0 ds _))

  latest_is : (log : List Entry) → Each (IsOn line) (reported log) → latest log ≡ last_from 0 (handed_on line log)
  unfolding latest reported handed_on last_from
  latest_is [] on = refl
  latest_is (e ∷ log) on = latest_of e.report (handed_on line log) (each_end (reported log) e.report on)

  later_than : (r : Report) (ds : List Departure) → IsOn line r → Spaced 0 (ds ++ handed_by line r) → last_from 0 ds ≤ tick_of r
  unfolding IsOn tick_of
  later_than (wait time) ds on sp = absurd on
  later_than (frame time at number len) ds on sp =
      omega (arith, spaced_last 0 ds (record { number = number; length = len; freed = time }) (rw (handed_here line time at number len on) at sp))

  in_order : (log : List Entry) → Each (IsOn line) (reported log) → Spaced 0 (handed_on line log) → InOrder log
  unfolding InOrder reported handed_on
  in_order [] on sp = tt
  in_order (e ∷ log) on sp =
      let before = each_front (reported log) (e.report ∷ []) on in (
        rw (latest_is log before) (later_than e.report (handed_on line log) (each_end (reported log) e.report on) sp),
        in_order log before (spaced_front 0 (handed_on line log) (handed_by line e.report) sp),
      )

  every : (u : Table) (log : List Entry) → Each (IsOn line) (reported log) → Always (λ e log. IsOn line e.report → Fares u e) log → Always (λ e log. Fares u e) log
  unfolding reported
  every u [] on start = start
  every u (e ∷ log) on (then x r) =
      then {e = e} {log = log} (x (each_end (reported log) e.report on)) (every u log (each_front (reported log) (e.report ∷ []) on) r)

pub two_ports : TwoPorts
two_ports t line lines e sizes z calls onward given =
    let b = next_bounds t line lines e in
    let u = next_table t line lines sizes in
    let log = (run u onward).log in
    let ds = all_departures (run t calls).log in
    let handed : handed_on line log ≡ ds = handed_reported line log ∙ ap (handed_in line) given ∙ handed_departures line ds in
    let on : Each (IsOn line) (reported log) = rw given (all_on line ds) in
    let sp : Spaced 0 (handed_on line log) = rw handed (handed_over t b line calls).spaced in
    every line u log on
    (two_ports_among_others t b line u (rows_among t line u.links refl) (next_passes t line lines sizes e z) calls onward (in_order line log on sp) handed)
