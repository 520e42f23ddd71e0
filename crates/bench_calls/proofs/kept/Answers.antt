use Rattle.refusal.proofs.Numbers.{passed_on}
use Rattle.bench_calls.proofs.Adding.{core_refused, core_is, none_is}
use Rattle.bench_calls.proofs.kept.Goals as goal

pub returns-in_err-t : goal.returns-in_err-t
returns-in_err-t c = rw (passed_on _ _ c.from_residual.ensures.1) (core_refused c.args.file.now _ c.in_err-t.ensures)

pub returns-in_err-c : goal.returns-in_err-c
returns-in_err-c c = rw (passed_on _ _ c.from_residual-in_err-c.ensures.1) (none_is c.args.file.now _ c.in_ok-t.ensures _ c.in_err-c.ensures)

pub returns : goal.returns
returns c = core_is c.args.file.now _ c.in_ok-t.ensures _ c.in_ok-c.ensures
