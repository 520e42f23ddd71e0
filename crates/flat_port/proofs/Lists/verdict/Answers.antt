use mathlib.Core.Path.{refl}
use native.Mathlib.Omega.{arith}
use Rattle.flat_port.proofs.Judged.{Sized, line_few, is_filtered_in_place, charges, is_policed_in_place, priority_few, roomy, is_settled_in_place}
use Rattle.flat_port.proofs.Verdicts.{place_few, unknown, below, filtered, passes, priority_is, charged, size_shown}
use Rattle.flat_port.proofs.Lists.verdict.Goals as goal

pub offset_bounds-self-line : goal.offset_bounds-self-line
offset_bounds-self-line c =
    let z : Sized c.args.self.now = record { ticks = omega arith; accounts = omega arith } in
    omega (arith, line_few z c.requires.0 c.args.number c.args.time)

pub bounds-self-line : goal.bounds-self-line
bounds-self-line c =
    let z : Sized c.args.self.now = record { ticks = omega arith; accounts = omega arith } in
    line_few z c.requires.0 c.args.number c.args.time

pub returns-in_default : goal.returns-in_default
returns-in_default c =
    let z : Sized c.args.self.now = record { ticks = omega arith; accounts = omega arith } in
    (is_filtered_in_place z c.requires.0 c.args.number c.args.time (unknown c.args.table.now c.requires.0 c.args.number c.requires.1 c.in_default.is), refl)

pub offset_bounds-table-i : goal.offset_bounds-table-i
offset_bounds-table-i c = omega (arith, place_few c.args.table.now c.requires.0 c.args.number c.requires.1 c.in-Some.i c.in-Some.is)

pub bounds-table-i : goal.bounds-table-i
bounds-table-i c = place_few c.args.table.now c.requires.0 c.args.number c.requires.1 c.in-Some.i c.in-Some.is

pub returns-then-not-admits : goal.returns-then-not-admits
returns-then-not-admits c =
    let z : Sized c.args.self.now = record { ticks = omega arith; accounts = omega arith } in
    let out = filtered c.args.table.now c.requires.0 c.args.number c.requires.1 c.in-Some.i c.in-Some.is c.admits.result c.admits.ensures c.if-not-admits.true in
    (is_filtered_in_place z c.requires.0 c.args.number c.args.time out, refl)

pub bounds-self-i : goal.bounds-self-i
bounds-self-i c = place_few c.args.table.now c.requires.0 c.args.number c.requires.1 c.in-Some.i c.in-Some.is

pub returns-then-not-charge : goal.returns-then-not-charge
returns-then-not-charge c =
    let t = c.args.table.now in
    let k = c.requires.0 in
    let found = c.requires.1 in
    let z : Sized c.args.self.now = record { ticks = omega arith; accounts = omega arith } in
    let i = c.in-Some.i in
    let q = c.in-Some.is in
    let through = passes t k c.args.number found i q c.admits.result c.admits.ensures c.if-not-admits.false in
    let paid = charged t k c.args.number found i q c.bag-bag.ensures c.from.ensures (charges _ _ c.args.self.now.accounts i c.args.time c.charge.ensures) in
    (is_policed_in_place z k c.args.number c.args.time i through (below t k c.args.number found i q) paid c.if-not-charge.true, refl)

pub offset_bounds-table-p : goal.offset_bounds-table-p
offset_bounds-table-p c =
    let t = c.args.table.now in
    let k = c.requires.0 in
    let found = c.requires.1 in
    let z : Sized c.args.self.now = record { ticks = omega arith; accounts = omega arith } in
    let i = c.in-Some.i in
    let q = c.in-Some.is in
    let through = passes t k c.args.number found i q c.admits.result c.admits.ensures c.if-not-admits.false in
    let few = priority_few z k c.args.number c.args.time i through (below t k c.args.number found i q) (priority_is t k c.args.number found i q c.from-p.ensures) in
    omega arith

pub bounds-table-p : goal.bounds-table-p
bounds-table-p c =
    let t = c.args.table.now in
    let k = c.requires.0 in
    let found = c.requires.1 in
    let z : Sized c.args.self.now = record { ticks = omega arith; accounts = omega arith } in
    let i = c.in-Some.i in
    let q = c.in-Some.is in
    let through = passes t k c.args.number found i q c.admits.result c.admits.ensures c.if-not-admits.false in
    priority_few z k c.args.number c.args.time i through (below t k c.args.number found i q) (priority_is t k c.args.number found i q c.from-p.ensures)

pub settle-requires : goal.settle-requires
settle-requires c =
    let t = c.args.table.now in
    let k = c.requires.0 in
    let found = c.requires.1 in
    let z : Sized c.args.self.now = record { ticks = omega arith; accounts = omega arith } in
    let i = c.in-Some.i in
    let q = c.in-Some.is in
    let through = passes t k c.args.number found i q c.admits.result c.admits.ensures c.if-not-admits.false in
    let paid = charged t k c.args.number found i q c.bag-bag.ensures c.from.ensures (charges _ _ c.args.self.now.accounts i c.args.time c.charge.ensures) in
    roomy z k c.args.number c.args.time i through (below t k c.args.number found i q) paid c.if-not-charge.false (priority_is t k c.args.number found i q c.from-p.ensures) (size_shown t _ c.from-size.ensures)

pub returns : goal.returns
returns c =
    let t = c.args.table.now in
    let k = c.requires.0 in
    let found = c.requires.1 in
    let z : Sized c.args.self.now = record { ticks = omega arith; accounts = omega arith } in
    let i = c.in-Some.i in
    let q = c.in-Some.is in
    let through = passes t k c.args.number found i q c.admits.result c.admits.ensures c.if-not-admits.false in
    let paid = charged t k c.args.number found i q c.bag-bag.ensures c.from.ensures (charges _ _ c.args.self.now.accounts i c.args.time c.charge.ensures) in
    let s = c.settle.ensures in (
      is_settled_in_place z k c.args.number c.args.time i through (below t k c.args.number found i q) paid c.if-not-charge.false (priority_is t k c.args.number found i q c.from-p.ensures) (size_shown t _ c.from-size.ensures) s.0 s.1 s.2,
      refl,
    )
