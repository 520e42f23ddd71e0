-- The two cases of the model's definition; the held bytes and the frames with one frame more.
use mathlib.Core.Path.{◌≡◌, refl, sym}
use mathlib.Core.Logic.{inl, inr}
use mathlib.Core.Bool.{true, false}
use mathlib.Core.List.{List, [], ◌∷◌, ◌++◌}
use Prim.Native.Nat.{ℕ, ◌+◌, ◌≤◌, ◌<◌, max}
use native.Mathlib.Decide.{ℕ_discrete}
use native.Mathlib.Omega.{arith}
use borrow.Author.Tests.{le-leb, lt-leb}
use lib.ListN.{length, get_or, set, length-set}
use lib.Seq.{get_or-set_same, get_or-set_other}
use Rattle.model.specs.Units.{occupied}
use Rattle.model.specs.Table.{Table, size_of}
use Rattle.model.specs.Machine.{Frame, queue_of, queued_last, held as heldBytes}
use Rattle.model.specs.Port.{Port}
use Rattle.model.specs.Report.{has_room, stored_if, store}
use Rattle.model.proofs.Queues.{bytes_snoc}
use Rattle.port_scheduler.proofs.Sums.{frames_last}
use Rattle.flat_queues.specs.declared.Rings.{Rings}
use Rattle.flat_queues.specs.View.{queues_in}
use Rattle.flat_scheduler.specs.Promised.{Holds}
use Rattle.flat_storing.specs.Storing.{Shown, Settles, Kept, KeptInPlace}

-- ---- the held bytes
last_bytes : (qs : List (List Frame)) (p : ℕ) (f : Frame) → p < length qs → heldBytes (queue_of (queued_last qs p f) p) ≡ heldBytes (queue_of qs p) + occupied f.length
last_bytes qs p f h = rw (get_or-set_same qs p (queue_of qs p ++ (f ∷ [])) [] h) (bytes_snoc occupied (queue_of qs p) f)

pub holds_more : {held : List ℕ} {qs : List (List Frame)} → Holds held qs → (p x : ℕ) (f : Frame) → p < 8 → x ≡ get_or held p 0 + occupied f.length → {qs' : List (List Frame)} →
    qs' ≡ queued_last qs p f → Holds (set held p x) qs'
holds_more {held} {qs} k p x f h e {qs'} q = rw q (record { queues_eight = rw length-set k.queues_eight; eight = rw length-set k.eight; bytes_are = λ r b. go r b (ℕ_discrete r p) })
  where
    go : (r : ℕ) → r < 8 → Dec (r ≡ p) → get_or (set held p x) r 0 ≡ heldBytes (queue_of (queued_last qs p f) r)
    go r b (yes d) =
        let u : p < length held = omega (arith, k.eight) in
        let v : p < length qs = omega (arith, k.queues_eight) in
        rw (d, get_or-set_same held p x 0 u, last_bytes qs p f v, e, k.bytes_are p h)
    go r b (no d) = rw (get_or-set_other held p r x 0 d, get_or-set_other qs p r (queue_of qs p ++ (f ∷ [])) [] d) (k.bytes_are r b)

-- ---- the verdict
module _ {held : List ℕ} {qs : List (List Frame)} {marks : List ℕ} (k : Holds held qs) (p size : ℕ) (f : Frame) (h : p < 8) (t : Table) (s : Port) (m : Shown t s p size qs marks) where
  bytes_here : heldBytes (queue_of s.scheduler.queues p) ≡ get_or held p 0
  bytes_here = rw m.queues_are (sym (k.bytes_are p h))

  no_room : size < get_or held p 0 + occupied f.length → has_room (size_of t p) (queue_of s.scheduler.queues p) f ≡ false
  unfolding has_room
  no_room l = lt-leb (heldBytes (queue_of s.scheduler.queues p) + occupied f.length) (size_of t p) (omega (arith, bytes_here, m.size_is))

  room : get_or held p 0 + occupied f.length ≤ size → has_room (size_of t p) (queue_of s.scheduler.queues p) f ≡ true
  unfolding has_room
  room l = le-leb (heldBytes (queue_of s.scheduler.queues p) + occupied f.length) (size_of t p) (omega (arith, bytes_here, m.size_is))

  pub drops : size < get_or held p 0 + occupied f.length → Settles t s p f 3 qs marks
  unfolding store stored_if
  drops l = record { verdict_is = rw (no_room l); port_is = rw (no_room l, ← m.queues_are, ← m.marks_are) }

  pub stores : get_or held p 0 + occupied f.length ≤ size → {qs' : List (List Frame)} → qs' ≡ queued_last qs p f → {x y : ℕ} → x ≡ get_or held p 0 + occupied f.length →
      y ≡ max (get_or marks p 0) x → Settles t s p f 0 qs' (set marks p y)
  unfolding store stored_if
  stores l {qs'} q {x} {y} ex ey =
      let v : p < length qs = omega (arith, k.queues_eight) in
      let b : heldBytes (queue_of (queued_last qs p f) p) ≡ x = rw (last_bytes qs p f v, ex, k.bytes_are p h) in
      record { verdict_is = rw (room l); port_is = rw (room l, m.queues_are, m.marks_are, q, b, ey) }

-- ---- what is touched
pub nothing : (r : Rings) → Kept r 3 r
nothing r = record { either = inr refl; stored = λ e. absurd (omega arith); dropped = λ e. refl }

pub one_frame : {r r' : Rings} (p : ℕ) (f : Frame) → p < length (queues_in r) → queues_in r' ≡ queued_last (queues_in r) p f → Kept r 0 r'
one_frame {r} p f h q = record { either = inl refl; stored = λ e. rw q (frames_last (queues_in r) p f h); dropped = λ e. absurd (omega arith) }

-- and the heads stay
pub nothing_in_place : (r : Rings) → KeptInPlace r 3 r
nothing_in_place r = record { kept = nothing r; heads = refl }

pub one_frame_in_place : {r r' : Rings} (p : ℕ) (f : Frame) → p < length (queues_in r) → queues_in r' ≡ queued_last (queues_in r) p f → r'.heads ≡ r.heads → KeptInPlace r 0 r'
one_frame_in_place p f h q e = record { kept = one_frame p f h q; heads = e }
