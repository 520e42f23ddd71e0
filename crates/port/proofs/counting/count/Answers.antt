use mathlib.Core.Path.{ap}
use Prim.Native.Nat.{ℕ, ◌+◌, ◌*◌}
use native.Mathlib.Omega.{arith}
use Rattle.port_refusals.specs.Verdicts.{verdict_of}
use Rattle.port_refusals.proofs.Verdicts.{verdict_below_4}
use Rattle.table_lookup.proofs.Tables.{searchable}
use Rattle.port.proofs.Counted.{is_unknown, in_array, is_known}
use Rattle.port.proofs.counting.count.Goals as goal

pub place_of-requires : goal.place_of-requires
place_of-requires c = searchable c.args.p.now.table c.requires.1 c.requires.0.numbers

pub returns-in_default : goal.returns-in_default
returns-in_default c = is_unknown c.args.p.now (omega arith) c.args.number (verdict_of c.args.verdict) c.requires.1 c.place_of.ensures c.in_default.is c.risen-p.ensures

pub overflow_mul-at : goal.overflow_mul-at
overflow_mul-at c = let w = in_array c.args.p.now (omega arith) c.args.number (verdict_of c.args.verdict) c.requires.1 c.place_of.ensures c.in-Some.i c.in-Some.is in omega arith

pub overflow_add-at : goal.overflow_add-at
overflow_add-at c = let w = in_array c.args.p.now (omega arith) c.args.number (verdict_of c.args.verdict) c.requires.1 c.place_of.ensures c.in-Some.i c.in-Some.is in omega arith

pub offset_bounds-p-at : goal.offset_bounds-p-at
offset_bounds-p-at c = let w = in_array c.args.p.now (omega arith) c.args.number (verdict_of c.args.verdict) c.requires.1 c.place_of.ensures c.in-Some.i c.in-Some.is in omega arith

pub bounds-p-at : goal.bounds-p-at
bounds-p-at c = let w = in_array c.args.p.now (omega arith) c.args.number (verdict_of c.args.verdict) c.requires.1 c.place_of.ensures c.in-Some.i c.in-Some.is in omega arith

pub bounds-p-at-2 : goal.bounds-p-at-2
bounds-p-at-2 c = let w = in_array c.args.p.now (omega arith) c.args.number (verdict_of c.args.verdict) c.requires.1 c.place_of.ensures c.in-Some.i c.in-Some.is in omega arith

pub returns : goal.returns
returns c =
    let i = c.in-Some.i in
    is_known c.args.p.now (omega arith) c.args.number (verdict_of c.args.verdict) c.requires.1 c.place_of.ensures i c.in-Some.is (verdict_below_4 c.args.verdict) (ap (λ (v : ℕ). 4 * i + v) c.number.ensures.0) c.risen.ensures
