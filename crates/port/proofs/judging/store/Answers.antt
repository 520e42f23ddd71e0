use native.Mathlib.Omega.{arith}
use Rattle.port.proofs.Policed.{in_array, priority_in, roomy, is_stored}
use Rattle.port.proofs.judging.store.Goals as goal

pub bounds-p-i : goal.bounds-p-i
bounds-p-i c = in_array c.args.p.now c.requires.0 c.args.i c.args.«length» c.requires.1

pub bounds-p-i-2 : goal.bounds-p-i-2
bounds-p-i-2 c = in_array c.args.p.now c.requires.0 c.args.i c.args.«length» c.requires.1

pub offset_bounds-p-i : goal.offset_bounds-p-i
offset_bounds-p-i c = omega (arith, in_array c.args.p.now c.requires.0 c.args.i c.args.«length» c.requires.1)

pub bounds-p-k : goal.bounds-p-k
bounds-p-k c = rw c.from-k.ensures (priority_in c.args.p.now c.requires.0 c.args.i c.args.«length» c.requires.1)

pub bounds-p-k-2 : goal.bounds-p-k-2
bounds-p-k-2 c = rw c.from-k.ensures (priority_in c.args.p.now c.requires.0 c.args.i c.args.«length» c.requires.1)

pub bounds-p-k-3 : goal.bounds-p-k-3
bounds-p-k-3 c = rw c.from-k.ensures (priority_in c.args.p.now c.requires.0 c.args.i c.args.«length» c.requires.1)

pub offset_bounds-p-k : goal.offset_bounds-p-k
offset_bounds-p-k c = omega (arith, c.from-k.ensures, priority_in c.args.p.now c.requires.0 c.args.i c.args.«length» c.requires.1)

pub offset_bounds-p-k-2 : goal.offset_bounds-p-k-2
offset_bounds-p-k-2 c = omega (arith, c.from-k.ensures, priority_in c.args.p.now c.requires.0 c.args.i c.args.«length» c.requires.1)

pub offset_bounds-p-k-3 : goal.offset_bounds-p-k-3
offset_bounds-p-k-3 c = omega (arith, c.from-k.ensures, priority_in c.args.p.now c.requires.0 c.args.i c.args.«length» c.requires.1)

pub settle-s-requires : goal.settle-s-requires
settle-s-requires c = rw (c.arrived-f.ensures, c.from-k.ensures) (roomy c.args.p.now c.requires.0 c.args.i c.args.«length» c.requires.1)

pub returns : goal.returns
returns c = rw c.from-k.ensures (is_stored c.args.p.now c.requires.0 c.args.i c.args.«length» c.requires.1 (rw (c.arrived-f.ensures, c.from-k.ensures) at c.settle-s.ensures))
