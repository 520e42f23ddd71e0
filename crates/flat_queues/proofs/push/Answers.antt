use Rattle.flat_queues.proofs.Rounds.{pushed}
use Rattle.flat_queues.proofs.push.Goals as goal

pub returns : goal.returns
returns c =
    let a = c.args in
    rw c.slot-at.ensures
    (pushed a.frames.now a.heads.now a.counts.now a.p a.number a.bytes a.arrival c.requires)
