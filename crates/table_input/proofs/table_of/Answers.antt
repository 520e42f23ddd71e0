use Rattle.table_input.proofs.Reading.{read_taken}
use Rattle.table_input.proofs.table_of.Goals as goal

pub returns-in-Ok : goal.returns-in-Ok
returns-in-Ok c = read_taken _ _ c.in-Ok.ensures
