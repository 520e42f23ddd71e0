use mathlib.Core.Path.{refl}
use native.Mathlib.Omega.{arith}
use Rattle.refusal.proofs.Numbers.{number_not_0, passed_on}
use Rattle.table_record_reader.proofs.Due.{sizes_header, sizes_out, bytes_left, sizes_in}
use Rattle.table_record_reader.proofs.sizes_at.Goals as goal

pub returns-in_err-check_header : goal.returns-in_err-check_header
returns-in_err-check_header c = rw (passed_on _ _ c.from_residual.ensures.1) (sizes_header c.args.rest.now _ c.in_err-check_header.ensures (number_not_0 _))

pub returns-in_err-check_sizes : goal.returns-in_err-check_sizes
returns-in_err-check_sizes c = rw (passed_on _ _ c.from_residual-in_err-check_sizes.ensures.1) (sizes_out c.args.rest.now _ c.in_ok-check_header.ensures refl _ c.sizes_read-sizes.ensures _ c.in_err-check_sizes.ensures (number_not_0 _))

pub returns-then-rest-gt36 : goal.returns-then-rest-gt36
returns-then-rest-gt36 c = bytes_left c.args.rest.now _ c.in_ok-check_header.ensures refl _ c.sizes_read-sizes.ensures _ c.in_ok-check_sizes.ensures refl (omega arith)

pub returns : goal.returns
returns c = sizes_in c.args.rest.now _ c.in_ok-check_header.ensures refl _ c.sizes_read-sizes.ensures _ c.in_ok-check_sizes.ensures refl (omega arith)
