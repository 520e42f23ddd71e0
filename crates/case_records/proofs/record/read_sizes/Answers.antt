use Rattle.std.proofs.Common.{rules}
use Rattle.case_records.proofs.Sizes.{one_more}
use Rattle.case_records.proofs.Taken.{one_taken}
use Rattle.case_records.proofs.record.read_sizes.Goals as goal

pub loop-size-preserved : goal.loop-size-preserved
loop-size-preserved c = (
  one_taken 4 c.loop-size.size-index _ c.loop-size.r.rest.now _ c.loop-size.invariant.0 c.number.ensures.rest,
  one_more c.loop-size.size-items c.loop-size.size-index _ c.loop-size.r.rest.now _ c.loop-size.invariant.0 c.loop-size.invariant.1 c.number.ensures.value (search rules),
)
