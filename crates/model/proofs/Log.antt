-- Entries of a log: what their answers and lists tell of departures and frames.
use mathlib.Core.Path.{◌≡◌, refl, ap}
use mathlib.Core.Bool.{Bool, false}
use mathlib.Core.Option.{Option, none, some}
use mathlib.Core.List.{List, [], ◌∷◌, ◌++◌, flat_map}
use Prim.Native.Nat.{ℕ, suc, ◌*◌}
use native.Mathlib.Omega.{arith}
use borrow.Author.Tests.{ne_eqb}
use lib.ListN.{length, drop}
use Rattle.model.specs.Link.{link_at, place_of}
use Rattle.model.specs.Table.{Table}
use Rattle.model.specs.Bounds.{or_zero}
use Rattle.model.specs.Machine.{Frame, Departure}
use Rattle.model.specs.Report.{Report, wait, frame, Stepped, three_numbers, listed, answered, refusal}
use Rattle.model.specs.Run.{Entry, accepted, frame_if, passed_by, departures_in, departures_by}
use Rattle.model.proofs.Passed.{Passed, passed_frame}

abbrev pub entry_of : Report → Stepped → Entry
entry_of r x = record { report = r; answer = x.answer; list = x.list }

-- an accepted report with its verdict and departures, lent a list
abbrev pub taken : Report → ℕ → List Departure → List ℕ → Entry
taken r verdict departures list = record { report = r; answer = answered verdict departures; list = listed departures list }

abbrev pub declined : Report → ℕ → List ℕ → Entry
declined r n list = record { report = r; answer = refusal (suc n); list = list }

departures_listed : (ds : List Departure) (rest : List ℕ) → departures_in (length ds) (flat_map three_numbers ds ++ rest) ≡ ds
unfolding departures_in flat_map
departures_listed [] rest = refl
departures_listed (d ∷ ds) rest = ap (λ (l : List Departure). d ∷ l) (departures_listed ds rest)

pub departures_taken : (r : Report) (verdict : ℕ) (ds : List Departure) (list : List ℕ) → departures_by (taken r verdict ds list) ≡ ds
unfolding departures_by accepted
departures_taken r verdict ds list = departures_listed ds (drop (3 * length ds) list)

pub not_accepted : (n : ℕ) → accepted (refusal (suc n)) ≡ false
unfolding accepted
not_accepted n = ne_eqb (suc n) 0 (λ x. omega arith)

pub departures_declined : (r : Report) (n : ℕ) (list : List ℕ) → departures_by (declined r n list) ≡ []
unfolding departures_by
departures_declined r n list = rw (not_accepted n)

pub frame_declined : (meant : ℕ → Bool) (r : Report) (n : ℕ) → frame_if meant r (refusal (suc n)) ≡ none
unfolding frame_if
frame_declined meant (wait time) n = refl
frame_declined meant (frame time line number len) n = rw (not_accepted n)

-- ---- the frames that passed the police check, newest first
unfoldable pub and_passed : Table → Option Frame → List Passed → List Passed
and_passed t none h = h
and_passed t (some f) h = passed_frame (link_at t.links (or_zero (place_of f.number t.links))) f.length f.arrival ∷ h

unfoldable pub passed_frames : Table → List Entry → List Passed
passed_frames t [] = []
passed_frames t (e ∷ log) = and_passed t (passed_by e) (passed_frames t log)
