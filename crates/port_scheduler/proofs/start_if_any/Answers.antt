use Rattle.std.proofs.Common.{◌≡◌, ◌<◌, length, ap, ◌∙◌, rules, tests}
use Rattle.std.specs.Option.{MatchOption}
use Rattle.std.specs.List.{AllWithin, HoldsAt}
use Rattle.std.proofs.lemmas.Iterator.{YieldsList-from_slice, IsFirst-from_position}
use Rattle.port_scheduler.specs.declared.Queue.{Queue}
use Rattle.port_scheduler.specs.View.{view_sender}
use Rattle.port_scheduler.proofs.Starts.{starts_here, starts_none}
use Rattle.port_scheduler.proofs.start_if_any.Goals as goal
use Rattle.port_scheduler.proofs.start_if_any.Goals.{After-position}

-- the first queue that counts a frame, if any does
first : (c : After-position) →
    MatchOption
    c.position.result
    (AllWithin (λ (q : Queue). q.count ≡ 0) c.args.queues 0 (length c.args.queues))
    (λ i. (i < length c.args.queues) × HoldsAt (λ (q : Queue). 0 < q.count) c.args.queues i × AllWithin (λ (q : Queue). q.count ≡ 0) c.args.queues 0 i)
first c =
    IsFirst-from_position _ _ _ (λ q. 0 < q.count) (λ q. q.count ≡ 0) c.position.ensures.ran (YieldsList-from_slice c.args.queues cc) (λ x q k. search (rules, tests))
    (λ x q k. search (rules, tests))

pub returns : goal.returns
returns c = starts_here c.args.queues c.args.tick c.in_ok-highest.highest (rw c.in_ok-highest.was at (first (goal.at.returns c).After-position))

pub returns-in_err-highest : goal.returns-in_err-highest
returns-in_err-highest c = ap view_sender c.from_residual.ensures ∙ starts_none c.args.queues c.args.tick (rw c.in_err-highest.was at (first (goal.at.returns-in_err-highest c).After-position))
