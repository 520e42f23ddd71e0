use Rattle.table_record_reader.proofs.Cases.{refusal_here}
use Rattle.table_file.proofs.walk.refused.Goals as goal

pub returns : goal.returns
returns c k = rw c.unwrap_or.ensures (refusal_here c.refusal_of.result c.args.next _ c.refusal_of.ensures k)
