use Rattle.std.proofs.Common.{◌≡◌, ◌∙◌, take, length-take, rules, tests, arith}
use Rattle.std.specs.List.{sum_by}
use Rattle.std.proofs.lemmas.Iterator.{YieldsList-from_slice}
use Rattle.std.proofs.lemmas.Iterator.Adapters.{fits_from_length, at_most_from_yields_List}
use Rattle.model.specs.Units.{occupied}
use Rattle.port_scheduler.specs.declared.Frame.{Frame}
use Rattle.port_scheduler.proofs.Shape.{queue_whole}
use Rattle.port_scheduler.proofs.Sums.{bytes_shown}
use Rattle.port_scheduler.proofs.held.Goals as goal

pub sum-requires-clause-fits : goal.sum-requires-clause-fits
sum-requires-clause-fits c =
    let w = queue_whole c.args.q _ c.well_formed.0 in
    fits_from_length _ _ 256 _ (at_most_from_yields_List (YieldsList-from_slice (take c.from.result c.args.q.frames) cc) (simp length-take (omega arith))) c.map.ensures.closure
    (omega arith) (λ x r q k. search (rules, tests))

pub returns : goal.returns
returns c =
    let w = queue_whole c.args.q _ c.well_formed.0 in
    let e : c.sum.result ≡ sum_by (λ (f : Frame). occupied f.length) (take c.from.result c.args.q.frames) = search rules in
    e ∙ rw c.from.ensures (bytes_shown c.args.q (omega arith))
