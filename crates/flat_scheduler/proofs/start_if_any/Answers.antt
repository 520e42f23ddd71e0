use Rattle.std.proofs.Common.{◌≡◌, ◌<◌, ℕ, length, ap, ◌∙◌, rules, tests}
use Rattle.std.specs.Option.{MatchOption}
use Rattle.std.specs.List.{AllWithin, HoldsAt}
use Rattle.std.proofs.lemmas.Iterator.{YieldsList-from_slice, IsFirst-from_position}
use native.Mathlib.Omega.{arith}
use Rattle.port_scheduler.specs.View.{view_sender}
use Rattle.flat_queues.proofs.Rounds.{length_rings}
use Rattle.flat_scheduler.proofs.Rings.{starts_here, starts_none}
use Rattle.flat_scheduler.proofs.start_if_any.Goals as goal
use Rattle.flat_scheduler.proofs.start_if_any.Goals.{After-position}

-- the first ring that counts a frame, if any does
first : (c : After-position) →
    MatchOption
    c.position.result
    (AllWithin (λ (n : ℕ). n ≡ 0) c.args.rings.now.counts 0 (length c.args.rings.now.counts))
    (λ i. (i < length c.args.rings.now.counts) × HoldsAt (λ (n : ℕ). 0 < n) c.args.rings.now.counts i × AllWithin (λ (n : ℕ). n ≡ 0) c.args.rings.now.counts 0 i)
first c =
    IsFirst-from_position _ _ _ (λ n. 0 < n) (λ n. n ≡ 0) c.position.ensures.ran (YieldsList-from_slice c.args.rings.now.counts cc) (λ x q k. search (rules, tests))
    (λ x q k. search (rules, tests))

pub returns : goal.returns
returns c =
    let r = c.args.rings.now in
    (starts_here r.frames r.heads r.counts c.args.tick c.in_ok-highest.highest (rw c.in_ok-highest.was at (first (goal.at.returns c).After-position)), record { queues = rw length_rings (omega arith); marks = omega arith })

pub returns-in_err-highest : goal.returns-in_err-highest
returns-in_err-highest c =
    let r = c.args.rings.now in
    (ap view_sender c.from_residual.ensures ∙ starts_none r.frames r.heads r.counts c.args.tick (rw c.in_err-highest.was at (first (goal.at.returns-in_err-highest c).After-position)), record { queues = rw length_rings (omega arith); marks = omega arith })
