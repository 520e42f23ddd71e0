use Rattle.overload_core.proofs.Filling.{bare}
use Rattle.overload_core.proofs.rows.linkless.Goals as goal

pub returns : goal.returns
returns c = bare c.args.t c.blank-r.result c.blank-r.ensures
