-- The two outcomes of the police check.
use native.Mathlib.Omega.{arith}
use Rattle.port_policing.proofs.Bucket.{is_policed, passes}
use Rattle.port_policing.proofs.police.Goals as goal

pub returns-then-gone-short : goal.returns-then-gone-short
returns-then-gone-short c = is_policed c.args.bag c.args.jitter c.args.a c.args.time c.saturating_sub-gone.ensures c.saturating_sub-short.ensures c.if-gone-short.true

pub returns : goal.returns
returns c = passes c.args.bag c.args.jitter c.args.a c.args.time c.saturating_sub-gone.ensures c.saturating_sub-short.ensures {rest = c.saturating_sub-rest.result} c.saturating_sub-rest.ensures (omega arith) c.if-gone-short.false
