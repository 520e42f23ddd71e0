-- `redundancy_bench::bench_redundancy`: the sum of the calls that are left, from here, is the whole sum.
use Rattle.redundancy.specs.View.{view_state}
use Rattle.redundancy_bench.proofs.Summing.{recordings, Going}
use Rattle.redundancy_bench.proofs.bench_redundancy.Given as goal

abbrev pub invariant-loop-k : goal.invariant-loop-k
invariant-loop-k l = Going (recordings l.a l.ticks_a l.b l.ticks_b) l.skew l.calls (view_state l.state) l.i l.j l.total l._k
