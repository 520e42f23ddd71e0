use Rattle.std.proofs.Common.{◌∙◌}
use native.Mathlib.Omega.{arith}
use Rattle.refusal.proofs.Numbers.{passed_on}
use Rattle.bench_calls.proofs.Adding.{file_refused, bounds_refused, sizing_is}
use Rattle.bench_calls.proofs.sizing.Goals as goal

pub returns-in_err-t : goal.returns-in_err-t
returns-in_err-t c = rw (passed_on _ _ c.from_residual.ensures.1) (file_refused c.args.file.now _ c.in_err-t.ensures)

pub returns-in_err-s : goal.returns-in_err-s
returns-in_err-s c = rw (passed_on _ _ c.from_residual-in_err-s.ensures.1) (bounds_refused c.args.file.now _ c.in_ok-t.ensures _ c.in_err-s.ensures)

pub returns : goal.returns
returns c = rw (c.sum_of.ensures.0, c.sum_of-2.ensures.0, c.sum_of-3.ensures.0) (sizing_is c.args.file.now _ c.in_ok-t.ensures _ c.in_ok-s.ensures)
