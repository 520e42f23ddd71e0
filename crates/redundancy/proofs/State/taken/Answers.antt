-- A frame taken from a network, handed on or not.
use mathlib.Core.Path.{◌≡◌, refl}
use Rattle.std.specs.Prelude.{Some}
use Rattle.model.specs.Redundancy.{next_on_a, next_on_b, last_after}
use Rattle.redundancy.specs.View.{view_received, view_network, view_state}
use Rattle.redundancy.proofs.Rules.{decided}
use Rattle.redundancy.proofs.State.taken.Goals as goal
use Rattle.redundancy.proofs.State.taken.Goals.{in-A, in-B}

pub returns-then-handed_on : goal.returns-then-handed_on
unfolding next_on_a next_on_b last_after
returns-then-handed_on c =
    let on_a : view_received c.match-network.on_a.0 ≡ next_on_a (view_network c.args.network) c.args.frame.number (view_state c.args.self)
    = elim c.match-network.branch [ in-A w ↦ rw (w.in-A.is, w.on_a-is) refl | in-B w ↦ rw (w.in-B.is, w.on_a-is) refl ] in
    let on_b : view_received c.match-network.on_a.1 ≡ next_on_b (view_network c.args.network) c.args.frame.number (view_state c.args.self)
    = elim c.match-network.branch [ in-A w ↦ rw (w.in-A.is, w.on_a-is) refl | in-B w ↦ rw (w.in-B.is, w.on_a-is) refl ] in
    decided c.args.self c.args.network c.args.frame c.goes_on-handed_on.result c.match-network.on_a.0 c.match-network.on_a.1 (Some c.args.frame)
    c.goes_on-handed_on.ensures on_a on_b (rw c.if-handed_on.true refl)

pub returns-else-handed_on : goal.returns-else-handed_on
unfolding next_on_a next_on_b last_after
returns-else-handed_on c =
    let on_a : view_received c.match-network.on_a.0 ≡ next_on_a (view_network c.args.network) c.args.frame.number (view_state c.args.self)
    = elim c.match-network.branch [ in-A w ↦ rw (w.in-A.is, w.on_a-is) refl | in-B w ↦ rw (w.in-B.is, w.on_a-is) refl ] in
    let on_b : view_received c.match-network.on_a.1 ≡ next_on_b (view_network c.args.network) c.args.frame.number (view_state c.args.self)
    = elim c.match-network.branch [ in-A w ↦ rw (w.in-A.is, w.on_a-is) refl | in-B w ↦ rw (w.in-B.is, w.on_a-is) refl ] in
    decided c.args.self c.args.network c.args.frame c.goes_on-handed_on.result c.match-network.on_a.0 c.match-network.on_a.1 c.kept-last.result
    c.goes_on-handed_on.ensures on_a on_b (rw (c.if-handed_on.false, c.kept-last.ensures) refl)
