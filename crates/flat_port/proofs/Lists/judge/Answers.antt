use native.Mathlib.Omega.{arith}
use Rattle.table_lookup.proofs.Tables.{searchable}
use Rattle.flat_port.proofs.Judged.{Sized, is_counted_in_place}
use Rattle.flat_port.proofs.Verdicts.{place_shown, within, place_few}
use Rattle.flat_port.proofs.Lists.judge.Goals as goal

pub place_of-place-requires : goal.place_of-place-requires
place_of-place-requires c = searchable c.args.table.now c.requires.table (omega arith)

pub verdict-verdict-requires : goal.verdict-verdict-requires
verdict-verdict-requires c = (c.requires, c.place_of-place.ensures)

pub tally-requires : goal.tally-requires
tally-requires c = (omega arith, place_few c.args.table.now c.requires c.args.number c.place_of-place.ensures)

pub returns : goal.returns
returns c =
    let t = c.args.table.now in
    let found = c.place_of-place.ensures in
    let z : Sized c.args.self.now = record { ticks = omega arith; accounts = omega arith } in
    let v = c.verdict-verdict.ensures in
    is_counted_in_place z c.requires c.args.number c.args.time v.0 v.1 (place_shown t c.requires c.args.number found) (within t c.requires c.args.number found) (rw v.1 at c.tally.ensures)
