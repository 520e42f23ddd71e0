use mathlib.Core.Path.{◌∙◌}
use native.Mathlib.Omega.{arith}
use Rattle.table.specs.View.{view_links}
use Rattle.table.proofs.PassingRecord.{counts_pass}
use Rattle.bounds_arrivals.specs.Loads.{between, less}
use Rattle.bounds_arrivals.proofs.Loading.{tops_few, flow_is}
use Rattle.bounds_arrivals.proofs.arrivals.Goals as goal

pub total-requires : goal.total-requires
total-requires c =
    let few = (counts_pass c.args.t.table c.args.t.passes).lines_most in
    (omega arith, c.requires, tops_few c.args.t.table c.args.t.passes (between c.args.of.low c.args.of.high) _ c.args.w c.requires c.loads_of-l.result c.loads_of-l.ensures)

pub returns : goal.returns
returns c =
    let few = (counts_pass c.args.t.table c.args.t.passes).lines_most in
    let e = rw c.from.ensures at c.total.ensures.0 in (
      e ∙ flow_is (less 0) (between c.args.of.low c.args.of.high) (view_links c.args.t.table) c.args.w c.loads_of-l.result c.args.t.table.lines few c.loads_of-l.ensures,
      omega arith,
    )
