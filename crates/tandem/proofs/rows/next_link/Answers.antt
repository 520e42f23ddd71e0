use Rattle.tandem.proofs.rows.next_link.Goals as goal

pub returns : goal.returns
returns c = rw c.next_jitter.ensures
