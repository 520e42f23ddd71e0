use Rattle.counters.proofs.Counted.{more, no_more}
use Rattle.counters.proofs.risen.Goals as goal

pub returns-then-count-lt-FULL_COUNT : goal.returns-then-count-lt-FULL_COUNT
returns-then-count-lt-FULL_COUNT c = more c.args.count c.if-count-lt-FULL_COUNT.true

pub returns-else-count-lt-FULL_COUNT : goal.returns-else-count-lt-FULL_COUNT
returns-else-count-lt-FULL_COUNT c = no_more c.args.count c.if-count-lt-FULL_COUNT.false
