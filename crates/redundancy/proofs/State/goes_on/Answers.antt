-- Sound on its network, and new.
use mathlib.Core.Path.{◌≡◌, refl, ap, ◌∙◌}
use Rattle.model.specs.Redundancy.{sound, is_new, received_on}
use Rattle.redundancy.specs.View.{view_received, view_handed_on, view_network, view_state}
use Rattle.redundancy.proofs.Rules.{left_fails, left_holds}
use Rattle.redundancy.proofs.State.goes_on.Goals as goal
use Rattle.redundancy.proofs.State.goes_on.Goals.{in-A, in-B}

pub returns-then-is_sound : goal.returns-then-is_sound
unfolding received_on
returns-then-is_sound c =
    let previous : view_received c.match-network.previous ≡ received_on (view_network c.args.network) (view_state c.args.self)
    = elim c.match-network.branch [ in-A w ↦ rw (w.in-A.is, w.previous-is) refl | in-B w ↦ rw (w.in-B.is, w.previous-is) refl ] in
    left_holds (c.is_sound.ensures ∙ ap (λ r. sound r c.args.frame.number) previous) c.if-is_sound.true c.is_new.ensures

pub returns-else-is_sound : goal.returns-else-is_sound
unfolding received_on
returns-else-is_sound c =
    let previous : view_received c.match-network.previous ≡ received_on (view_network c.args.network) (view_state c.args.self)
    = elim c.match-network.branch [ in-A w ↦ rw (w.in-A.is, w.previous-is) refl | in-B w ↦ rw (w.in-B.is, w.previous-is) refl ] in
    rw c.if-is_sound.false
    (left_fails (is_new c.args.self.skew (view_handed_on c.args.self.last) c.args.frame.number c.args.frame.tick)
    (c.is_sound.ensures ∙ ap (λ r. sound r c.args.frame.number) previous) c.if-is_sound.false)
