use mathlib.Core.Path.{refl}
use native.Mathlib.Omega.{arith}
use Rattle.port_fitness.proofs.Sending.{no_head, not_arrived, not_started, ends_later}
use Rattle.port_fitness.proofs.head_fits.Goals as goal

pub returns-then-q-eq0 : goal.returns-then-q-eq0
returns-then-q-eq0 c =
    let a = c.args in
    λ queues p h e. no_head a.clock queues p a.start refl (rw (← e) (omega arith))

pub returns-then-start-f : goal.returns-then-start-f
returns-then-start-f c =
    let a = c.args in
    λ queues p h e. not_arrived a.clock queues p a.start refl (rw (← e) (omega arith)) (rw (← e) (omega arith))

pub returns-then-clock-start : goal.returns-then-clock-start
returns-then-clock-start c =
    let a = c.args in
    λ queues p h e. not_started a.clock queues p a.start refl (omega arith)

pub returns : goal.returns
returns c =
    let a = c.args in
    λ queues p h e. ends_later a.clock queues p a.start refl (rw (← e) (omega arith)) h (omega arith) (rw (← e) (omega arith)) c.from.result (rw (← e) c.from.ensures)
