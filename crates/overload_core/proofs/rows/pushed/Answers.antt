use Rattle.overload_core.proofs.Filling.{one_more}
use Rattle.overload_core.proofs.rows.pushed.Goals as goal

pub returns : goal.returns
returns c = rw c.from-k.ensures (one_more c.args.kept c.requires.0 c.requires.1 c.args.number c.args.link)
