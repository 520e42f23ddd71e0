use Rattle.std.proofs.Common.{◌∙◌, rules, tests, arith}
use Rattle.std.proofs.lemmas.Iterator.{YieldsList-from_slice}
use Rattle.std.proofs.lemmas.Iterator.Adapters.{fits_from_length, at_most_from_yields_List}
use Rattle.port_scheduler.proofs.Shape.{queues_eight}
use Rattle.port_scheduler.proofs.Sums.{frames_shown}
use Rattle.port_scheduler.proofs.frames_held.Goals as goal

pub sum-requires-clause-fits : goal.sum-requires-clause-fits
sum-requires-clause-fits c =
    fits_from_length _ _ 8 _ (at_most_from_yields_List (YieldsList-from_slice c.args.queues cc) (omega (arith, queues_eight c.args.queues _ c.well_formed.0))) c.map.ensures.closure
    (omega arith) (λ x r q k. search (rules, tests))

pub returns : goal.returns
returns c = search rules ∙ frames_shown c.args.queues
