-- The frames of a queue, tested one by one.
use mathlib.Core.Path.{◌≡◌, refl, ap, ◌∙◌}
use mathlib.Core.Bool.{Bool, true, false, ◌&&◌}
use mathlib.Core.Option.{none, some}
use mathlib.Core.List.{List, ◌∷◌}
use Prim.Native.Nat.{ℕ, suc, ◌+◌, ◌≤◌, ◌<◌}
use native.Mathlib.Numerals.{add-one}
use lib.Dec.{eqb, leb}
use lib.ListN.{length, get_or, drop, drop_of_length-le, get_or-map}
use lib.Seq.{drop-cons, get_or-take}
use Rattle.model.specs.Basics.{all_hold, entries}
use Rattle.model.specs.Link.{link_at, place_of}
use Rattle.model.specs.Table.{Table}
use Rattle.model.specs.Machine.{Frame, blank_frame}
use Rattle.model.specs.Fitness.{names_link, frames_fit}
use Rattle.port_scheduler.specs.declared.Queue.{Queue}
use Rattle.port_scheduler.specs.View.{view_frame, blank_entry, view_queue}
use Rattle.port_scheduler.proofs.Shown.{entries_take}
use Rattle.port_fitness.specs.Conditions.{frame_fits}

-- ---- a frame of a queue
pub frame_shown : (q : Queue) (i : ℕ) → i < q.count → q.count ≤ length q.frames → get_or (view_queue q) i blank_frame ≡ view_frame (get_or q.frames i blank_entry)
unfolding view_queue
frame_shown q i h k =
    get_or-map view_frame (entries blank_entry q.count q.frames) i blank_entry
    ∙ ap view_frame (rw (entries_take blank_entry q.count q.frames k) (get_or-take q.count q.frames i blank_entry h))

-- ---- one frame more
regroup : (a b c d e r : Bool) → ((a && (b && (c && true))) && (d && (e && (r && true)))) ≡ ((a && (b && (c && (d && (e && true))))) && r)
regroup false b c d e r = refl
regroup true false c d e r = refl
regroup true true false d e r = refl
regroup true true true false e r = refl
regroup true true true true false r = refl
regroup true true true true true false = refl
regroup true true true true true true = refl

module _ (t : Table) (p clock : ℕ) where
  module _ (low : ℕ) (frames : List Frame) (i : ℕ) (h : i < length frames) (f : Frame) (e : get_or frames i blank_frame ≡ f) where
    at_place : drop i frames ≡ f ∷ drop (suc i) frames
    at_place = rw (drop-cons frames i blank_frame h, e)

    pub names_none : place_of f.number t.links ≡ none → frames_fit t p clock low (drop i frames) ≡ false
    unfolding frames_fit names_link all_hold
    names_none x = rw (at_place, x)

    pub names_one : (k : ℕ) → place_of f.number t.links ≡ some k
        → frames_fit t p clock low (drop i frames) ≡ (frame_fits (link_at t.links k) p clock low f && frames_fit t p clock f.arrival (drop (i + 1) frames))
    unfolding frames_fit names_link all_hold
    names_one k x =
        let v = link_at t.links k in
        rw (add-one, at_place, x)
        (regroup (eqb v.priority p) (leb v.least f.length) (leb f.length v.greatest) (leb low f.arrival) (leb f.arrival clock)
        (frames_fit t p clock f.arrival (drop (suc i) frames)))

  pub frames_end : (low : ℕ) (frames : List Frame) (i : ℕ) → length frames ≤ i → frames_fit t p clock low (drop i frames) ≡ true
  unfolding frames_fit
  frames_end low frames i h = rw (drop_of_length-le frames {i = i} h)
