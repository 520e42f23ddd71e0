-- What a port hands over to the next: its departures are a length apart, of its links within their limits, and each link's keep BAG and the next jitter.
use mathlib.Core.Path.{◌≡◌, refl}
use mathlib.Core.List.{List, [], ◌∷◌, ◌++◌}
use Prim.Native.Nat.{ℕ, ◌+◌, ◌≤◌, ◌<◌}
use native.Mathlib.Nat.{le_refl, le_trans}
use native.Mathlib.Omega.{arith}
use lib.ListN.{length}
use Rattle.model.specs.Basics.{Each, done, also}
use Rattle.model.specs.Units.{last_tick}
use Rattle.model.specs.Link.{link_at}
use Rattle.model.specs.Table.{Table, table_refusal}
use Rattle.model.specs.Bounds.{bounds_refusal}
use Rattle.model.specs.Machine.{Frame, Sender, idle, sending, Departure}
use Rattle.model.specs.Report.{Call}
use Rattle.model.specs.Run.{run, KeepBagAndJitter}
use Rattle.model.specs.NextTable.{next_link}
use Rattle.model.specs.Promises.{Spaced, over, next, all_departures}
use Rattle.model.proofs.Holds.{has_bounds}
use Rattle.model.proofs.Passing.{Passing, is_passing}
use Rattle.model.proofs.BusyPeriod.{SendsInTime}
use Rattle.model.proofs.Departures.{FreeFrom}
use Rattle.model.proofs.Invariant.{Invariant, run_kept}
use Rattle.model.proofs.Later.{departures_in_time, departures_spaced, passed_keep, Sparse, run_sparse}
use Rattle.two_ports.proofs.Thinned.{keeping_front}
use Rattle.two_ports.proofs.Flow.{Lawful, freed_of, freed_append, run_lawful, departures_lawful, departures_keep}

-- ---- departures a length apart

-- the tick of the last; a if there is none
unfoldable pub last_from : ℕ → List Departure → ℕ
last_from a [] = a
last_from a (d ∷ ds) = last_from d.freed ds

pub last_is : (a : ℕ) (ds : List Departure) (d : Departure) → last_from a (ds ++ (d ∷ [])) ≡ d.freed
unfolding last_from
last_is a [] d = refl
last_is a (e ∷ ds) d = last_is e.freed ds d

pub spaced_last : (a : ℕ) (ds : List Departure) (d : Departure) → Spaced a (ds ++ (d ∷ [])) → last_from a ds + d.length ≤ d.freed
unfolding last_from
spaced_last a [] d (next x r) = x
spaced_last a (e ∷ ds) d (next x r) = spaced_last e.freed ds d r

spaced_grows : (a : ℕ) (ds : List Departure) → Spaced a ds → a ≤ last_from a ds
unfolding last_from
spaced_grows a [] over = le_refl a
spaced_grows a (d ∷ ds) (next x r) = omega (arith, spaced_grows d.freed ds r)

pub last_grows : (a : ℕ) (ds more : List Departure) → Spaced a (ds ++ more) → last_from a ds ≤ last_from a (ds ++ more)
unfolding last_from
last_grows a [] more x = spaced_grows a more x
last_grows a (d ∷ ds) more (next x r) = last_grows d.freed ds more r

pub spaced_front : (a : ℕ) (ds more : List Departure) → Spaced a (ds ++ more) → Spaced a ds
spaced_front a [] more x = over
spaced_front a (d ∷ ds) more (next x r) = next {last = a} {d = d} x (spaced_front d.freed ds more r)

spaced_from : (a : ℕ) (ds : List Departure) (d : Departure) → Spaced a (ds ++ (d ∷ [])) → a ≤ d.freed
spaced_from a [] d (next x r) = omega arith
spaced_from a (e ∷ ds) d (next x r) = omega (arith, spaced_from e.freed ds d r)

spaced_below : (a : ℕ) (ds : List Departure) (d : Departure) → Spaced a (ds ++ (d ∷ [])) → Each (λ e. e.freed ≤ d.freed) ds
spaced_below a [] d x = done
spaced_below a (e ∷ ds) d (next x r) = also {a = e} (spaced_from e.freed ds d r) (spaced_below e.freed ds d r)

-- ---- none after the clock
free_past : (last clock : ℕ) (queues : List (List Frame)) (z : Sender) → SendsInTime clock queues z → FreeFrom last clock z → last ≤ clock
unfolding SendsInTime FreeFrom
free_past last clock queues idle m f = f
free_past last clock queues (sending q s) m f = omega (arith, m.0)

run_freed : (t : Table) → Passing t → (calls : List Call) → Each (λ d. d.freed ≤ last_tick) (all_departures (run t calls).log)
run_freed t v calls = all (spaced_below 0 (all_departures (run t calls).log) end (k.spaced (end ∷ []) (next {last = k.last} {d = end} (omega arith) over)))
  where
    k : Sparse (all_departures (run t calls).log) (run t calls).port.scheduler
    k = run_sparse t v calls

    end : Departure
    end = record { number = 0; length = 0; freed = k.last }

    inv : Invariant t (run t calls).port (run t calls).log
    inv = run_kept t v calls

    soon : k.last ≤ last_tick
    soon =
        le_trans (free_past k.last (run t calls).port.scheduler.clock (run t calls).port.scheduler.queues (run t calls).port.scheduler.sender inv.ordered.sound.sends k.free)
        inv.ordered.early

    all : {ds : List Departure} → Each (λ d. d.freed ≤ end.freed) ds → Each (λ d. d.freed ≤ last_tick) ds
    all done = done
    all (also {a = d} x r) = also {a = d} (le_trans x soon) (all r)

-- ---- what the next port meets
pub record Sent (t : Table) (d : Departure) : Type 0 where
  pub lawful : Lawful t d.number d.length
  pub soon : d.freed ≤ last_tick

pub record Orderly (t : Table) (line : ℕ) (ds : List Departure) : Type 0 where
  pub spaced : Spaced 0 ds
  pub sent : Each (Sent t) ds
  pub keeps : (i : ℕ) → i < length t.links → KeepBagAndJitter (next_link t line (link_at t.links i)) (freed_of (link_at t.links i).number ds)

pub each_front : {A : Type 0} {P : A → Type 0} (a b : List A) → Each P (a ++ b) → Each P a
each_front [] b x = done
each_front (x ∷ a) b (also p r) = also p (each_front a b r)

pub each_end : {A : Type 0} {P : A → Type 0} (a : List A) (x : A) → Each P (a ++ (x ∷ [])) → P x
each_end [] x (also p r) = p
each_end (y ∷ a) x (also p r) = each_end a x r

pub orderly_front : {t : Table} {line : ℕ} (ds more : List Departure) → Orderly t line (ds ++ more) → Orderly t line ds
orderly_front {t = t} {line = line} ds more k =
    record {
      spaced = spaced_front 0 ds more k.spaced;
      sent = each_front ds more k.sent;
      keeps =
          λ i l.
          keeping_front (next_link t line (link_at t.links i)) (freed_of (link_at t.links i).number ds) (freed_of (link_at t.links i).number more)
          (rw (freed_append (link_at t.links i).number ds more) at (k.keeps i l));
    }

pub orderly_last : {t : Table} {line : ℕ} (ds : List Departure) (d : Departure) → Orderly t line (ds ++ (d ∷ [])) → Sent t d
orderly_last ds d k = each_end ds d k.sent

-- ---- of a table with bounds, every list of reports hands over so
both : {t : Table} {ds : List Departure} → Each (λ d. Lawful t d.number d.length) ds → Each (λ d. d.freed ≤ last_tick) ds → Each (Sent t) ds
both done done = done
both (also {a = d} x r) (also y q) = also {a = d} (record { lawful = x; soon = y }) (both r q)

pub handed_over : (t : Table) → bounds_refusal t ≡ 0 → (line : ℕ) (calls : List Call) → Orderly t line (all_departures (run t calls).log)
unfolding next_link
handed_over t e line calls =
    record {
      spaced = departures_spaced t passes calls;
      sent = both (departures_lawful t (run t calls).log (departures_in_time t e calls) (run_lawful t calls)) (run_freed t (is_passing t passes) calls);
      keeps =
          λ i l.
          departures_keep t (is_passing t passes) calls (departures_in_time t e calls) i l (passed_keep t passes calls i l) (next_link t line (link_at t.links i)) refl (omega arith);
    }
  where
    passes : table_refusal t ≡ 0
    passes = (has_bounds t e).table
