use Rattle.std.proofs.Common.{◌≡◌, ◌≤◌, ◌<◌, length, take, rules, tests, arith}
use Rattle.std.proofs.lemmas.Iterator.{YieldsList-from_slice, cases_from_all}
use Rattle.port_fitness.proofs.Entries.{lines_decide}
use Rattle.port_fitness.proofs.lines_fit.Goals as goal

pub returns : goal.returns
returns c =
    let w : length c.args.ticks ≡ 24 = c.well_formed.0.1.0.1 in
    rw (← c.from.ensures)
    (lines_decide c.args.ticks c.from.result c.args.clock (omega arith) c.all.result
    (cases_from_all _ _ _ (λ x. x ≤ c.args.clock) (λ x. c.args.clock < x) c.all.ensures.ran (YieldsList-from_slice (take c.from.result c.args.ticks) cc) (λ x q k. search (rules, tests))
    (λ x q k. search (rules, tests))))
