use Prim.Native.Nat.{◌+◌, ◌/◌}
use native.Mathlib.Omega.{arith}
use Rattle.bounds_backlog.specs.Stretches.{backlog_in}
use Rattle.bounds_backlog.proofs.Bending.{bracket_all, bracket_left, bracket_right, bracket_one}
use Rattle.bounds_backlog.proofs.crest.Goals as goal

pub loop-low-init : goal.loop-low-init
loop-low-init c = bracket_all (backlog_in c.args.s) c.args.s.start c.args.s.last c.requires.order

pub overflow_add-mid : goal.overflow_add-mid
overflow_add-mid c = omega arith

pub overflow_add-next : goal.overflow_add-next
overflow_add-next c = omega arith

pub backlog_by-here-requires : goal.backlog_by-here-requires
backlog_by-here-requires c = (c.requires.sized, omega (arith, c.requires.last_most))

pub backlog_by-there-requires : goal.backlog_by-there-requires
backlog_by-there-requires c = (c.requires.sized, omega (arith, c.requires.last_most))

pub loop-low-smaller-then-here-there : goal.loop-low-smaller-then-here-there
loop-low-smaller-then-here-there c = omega arith

pub loop-low-preserved-then-here-there : goal.loop-low-preserved-then-here-there
loop-low-preserved-then-here-there c =
    bracket_right (backlog_in c.args.s) c.args.s.start c.args.s.last c.requires.bends c.loop-low.low c.loop-low.high ((c.loop-low.low + c.loop-low.high) / 2) (omega arith) (omega arith) c.loop-low.invariant
    (omega (arith, c.backlog_by-here.ensures, c.backlog_by-there.ensures))

pub loop-low-smaller : goal.loop-low-smaller
loop-low-smaller c = omega arith

pub loop-low-preserved : goal.loop-low-preserved
loop-low-preserved c =
    bracket_left (backlog_in c.args.s) c.args.s.start c.args.s.last c.requires.bends c.loop-low.low c.loop-low.high ((c.loop-low.low + c.loop-low.high) / 2) (omega arith) (omega arith) c.loop-low.invariant
    (omega (arith, c.backlog_by-here.ensures, c.backlog_by-there.ensures))

pub returns : goal.returns
returns c =
    let s = c.args.s in
    bracket_one (backlog_in s) s.start s.last c.loop-low.low c.loop-low.high (omega arith) c.loop-low.invariant
