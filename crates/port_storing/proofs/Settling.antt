-- A frame that passed the police check is dropped, or stored in its queue.
use mathlib.Core.Path.{◌≡◌, refl, sym, ap, ◌∙◌}
use mathlib.Core.Bool.{Bool, true, false}
use Prim.Native.Nat.{ℕ, ◌+◌, ◌≤◌, ◌<◌}
use lib.Dec.{leb}
use borrow.Author.Tests.{leb-true}
use Rattle.model.specs.Units.{occupied, most_frames}
use Rattle.model.specs.Machine.{held}
use Rattle.port_scheduler.specs.declared.Frame.{Frame as FrameRecord}
use Rattle.port_scheduler.specs.declared.Queue.{Queue}
use Rattle.port_scheduler.specs.View.{view_queue}
use Rattle.port_refusals.specs.declared.Verdict.TheVariants.{Dropped, Stored as AsStored}
use Rattle.port_storing.specs.Storing.{verdict_if, Stored, Roomy, Settles}

module _ (q : Queue) (size : ℕ) (f : FrameRecord) {h more s : ℕ} (holds : h ≡ held (view_queue q)) (needs : more ≡ occupied f.length) (sized : s ≡ size)
    {room : Bool} (tested : room ≡ leb (h + more) s) where
  is_tested : room ≡ leb (held (view_queue q) + occupied f.length) size
  is_tested = tested ∙ rw (holds, needs, sized)

  pub settles_not : room ≡ false → Settles q size f (record { verdict = Dropped; queue = q })
  unfolding verdict_if
  settles_not z = record { verdict = ap verdict_if (sym z ∙ is_tested); queue = refl }

  module _ (z : room ≡ true) where
    pub has_room : h + more ≤ s
    has_room = leb-true (h + more) s (sym tested ∙ z)

    pub has_place : Roomy q size f → q.count < most_frames
    has_place r = r.room (leb-true (held (view_queue q) + occupied f.length) size (sym is_tested ∙ z))

    pub settles : {r : Queue} → Stored q f (h + more) r → Settles q size f (record { verdict = AsStored; queue = r })
    unfolding verdict_if
    settles {r} x = record { verdict = ap verdict_if (sym z ∙ is_tested); queue = rw (← holds, ← needs) x }
