use Rattle.std.proofs.Common.{rules, tests, ◌≤◌, ◌<◌}
use Rattle.std.proofs.lemmas.Iterator.{cases_from_all, YieldsList-from_slice}
use Rattle.counters.proofs.Counted.{every_below}
use Rattle.counters.proofs.all_below.Goals as goal

pub returns-then-all : goal.returns-then-all
returns-then-all c =
    let a = c.args in
    let r = cases_from_all _ _ _ (λ x. x < a.limit) (λ x. a.limit ≤ x) c.all.ensures.ran (YieldsList-from_slice _ cc) (λ x q k. search (rules, tests)) (λ x q k. search (rules, tests)) in
    rw c.if-all.true at (every_below a.counts.now a.unknown a.n a.limit c.requires _ r)

pub returns-else-all : goal.returns-else-all
returns-else-all c =
    let a = c.args in
    let r = cases_from_all _ _ _ (λ x. x < a.limit) (λ x. a.limit ≤ x) c.all.ensures.ran (YieldsList-from_slice _ cc) (λ x q k. search (rules, tests)) (λ x q k. search (rules, tests)) in
    rw c.if-all.false (rw c.if-all.false at (every_below a.counts.now a.unknown a.n a.limit c.requires _ r))
