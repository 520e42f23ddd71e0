use mathlib.Core.Path.{refl}
use native.Mathlib.Omega.{arith}
use Rattle.refusal.proofs.Numbers.{number_not_0, passed_on}
use Rattle.table.specs.Checks.{previous_of}
use Rattle.table_record_reader.proofs.Due.{link_header, byte_set, link_out, link_in}
use Rattle.table_record_reader.proofs.link_at.Goals as goal

pub returns-in_err-check_header : goal.returns-in_err-check_header
returns-in_err-check_header c = rw (passed_on _ _ c.from_residual.ensures.1) (link_header c.args.lines (previous_of c.args.before c.args.previous) c.args.rest.now _ c.in_err-check_header.ensures (number_not_0 _))

pub returns-then-read-ne0 : goal.returns-then-read-ne0
returns-then-read-ne0 c = byte_set c.args.lines (previous_of c.args.before c.args.previous) c.args.rest.now _ c.in_ok-check_header.ensures refl (omega arith)

pub returns-in_err-check_link : goal.returns-in_err-check_link
returns-in_err-check_link c = rw (passed_on _ _ c.from_residual-in_err-check_link.ensures.1) (link_out c.args.lines (previous_of c.args.before c.args.previous) c.args.rest.now _ c.in_ok-check_header.ensures refl (omega arith) c.read-number.result c.link_fields-link.result c.read-number.ensures c.link_fields-link.ensures _ c.in_err-check_link.ensures (number_not_0 _))

pub returns : goal.returns
returns c = link_in c.args.lines (previous_of c.args.before c.args.previous) c.args.rest.now _ c.in_ok-check_header.ensures refl (omega arith) c.read-number.result c.link_fields-link.result c.read-number.ensures c.link_fields-link.ensures _ c.in_ok-check_link.ensures refl
