use Rattle.refusal.proofs.Numbers.{passed_on}
use Rattle.bench_calls.proofs.Adding.{margin_refused, margin_is}
use Rattle.bench_calls.proofs.jitter.Goals as goal

pub returns-in_err-t : goal.returns-in_err-t
returns-in_err-t c = rw (passed_on _ _ c.from_residual.ensures.1) (margin_refused c.args.file.now _ c.args.number c.in_err-t.ensures)

pub returns : goal.returns
returns c = margin_is c.args.file.now _ c.args.number _ c.in_ok-t.ensures c.jitter_left.ensures
