use mathlib.Core.Path.{ap}
use native.Mathlib.Omega.{arith}
use Prim.Native.Nat.{ℕ, ◌+◌, ◌*◌}
use Rattle.port_refusals.specs.Verdicts.{verdict_of}
use Rattle.port_refusals.proofs.Verdicts.{verdict_below_4}
use Rattle.counters.proofs.Counted.{unknown_more, known_more}
use Rattle.counters.proofs.tally.Goals as goal

pub returns-in_default : goal.returns-in_default
returns-in_default c = rw c.in_default.is (unknown_more (verdict_of c.args.verdict) c.args.tallies.now c.requires.0 c.risen.ensures)

pub overflow_mul-at : goal.overflow_mul-at
overflow_mul-at c = let w = c.requires.1 c.in-Some.i c.in-Some.is in omega arith

pub overflow_add-at : goal.overflow_add-at
overflow_add-at c = let w = c.requires.1 c.in-Some.i c.in-Some.is in omega arith

pub offset_bounds-tallies-at : goal.offset_bounds-tallies-at
offset_bounds-tallies-at c = let w = c.requires.1 c.in-Some.i c.in-Some.is in omega arith

pub bounds-tallies-at : goal.bounds-tallies-at
bounds-tallies-at c = let w = c.requires.1 c.in-Some.i c.in-Some.is in omega arith

pub returns : goal.returns
returns c =
    let i = c.in-Some.i in
    rw c.in-Some.is
    (known_more i (verdict_of c.args.verdict) c.args.tallies.now c.requires.0 (verdict_below_4 c.args.verdict) (c.requires.1 i c.in-Some.is) (ap (λ (v : ℕ). 5 * i + v) c.number.ensures.0) c.risen-2.ensures)
