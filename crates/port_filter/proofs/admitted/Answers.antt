use lib.ListN.{get_or}
use Rattle.table.proofs.Shape.{sized}
use Rattle.table_lookup.proofs.Tables.{searchable}
use Rattle.port_filter.proofs.Filtering.{nowhere, in_array, if_admits}
use Rattle.port_filter.proofs.admitted.Goals as goal

pub place_of-requires : goal.place_of-requires
place_of-requires c = searchable c.args.t c.requires (sized c.args.t _ c.well_formed.0).numbers

pub returns-in_err-i : goal.returns-in_err-i
returns-in_err-i c = rw c.from_residual.ensures (nowhere c.args.t c.requires c.args.line c.args.number c.args.«length» c.place_of.ensures c.in_err-i.was)

pub bounds-t-i : goal.bounds-t-i
bounds-t-i c = in_array c.args.t c.requires c.args.line c.args.number c.args.«length» c.place_of.ensures c.in_ok-i.i c.in_ok-i.was

pub returns : goal.returns
returns c =
    let i = c.in_ok-i.i in
    rw c.then_some.ensures (if_admits c.args.t c.requires c.args.line c.args.number c.args.«length» c.place_of.ensures i c.in_ok-i.was c.admits.result (c.admits.ensures (get_or c.args.t.numbers i 0)))
