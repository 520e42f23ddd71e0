use Rattle.std.proofs.Common.{rules}
use Rattle.case_records.proofs.Taken.{one_taken, all_taken}
use Rattle.case_records.proofs.reader.Reader.array.Goals as goal

pub loop-x-preserved : goal.loop-x-preserved
loop-x-preserved g c =
    λ w takes. one_taken w c.loop-x.x-index _ _ _ (c.loop-x.invariant w takes) (takes _ _ _ c.entry.ensures)

pub returns : goal.returns
returns g c =
    λ w takes. all_taken w c.loop-x.x-index g.row.N _ _ _ _ (takes _ _ _ c.entry-last.ensures) c.number-given.ensures.rest (c.loop-x.invariant w takes) (search rules)
