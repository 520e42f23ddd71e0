use mathlib.Core.Path.{refl}
use Rattle.refusal.proofs.Numbers.{number_not_0, passed_on}
use Rattle.table.proofs.Shape.{sized}
use Rattle.table_lookup.proofs.Tables.{searchable}
use Rattle.jitter_margin.proofs.Answering.{table_refused, unknown, known}
use Rattle.jitter_margin.proofs.jitter_left.Goals as goal

pub returns-in_err-passing : goal.returns-in_err-passing
returns-in_err-passing c = rw (passed_on _ _ c.from_residual.ensures.1) (table_refused _ _ _ c.in_err-passing.ensures.refusal (number_not_0 _) _ refl)

pub place_of-requires : goal.place_of-requires
place_of-requires c =
    let passing = c.in_ok-passing.passing in
    searchable passing.table passing.passes (rw (← c.in_ok-passing.ensures.same) at (sized c.args.t _ c.well_formed.0)).numbers

pub returns-in_default : goal.returns-in_default
returns-in_default c =
    let passing = c.in_ok-passing.passing in
    rw (← c.in_ok-passing.ensures.same) (unknown _ _ passing.passes c.place_of.ensures c.in_default.is _ refl)

pub at_place-requires : goal.at_place-requires
at_place-requires c = c.place_of.ensures.below _ c.in-Some.is

pub returns : goal.returns
returns c =
    let passing = c.in_ok-passing.passing in
    rw (← c.in_ok-passing.ensures.same) (known _ _ passing.passes c.place_of.ensures _ c.in-Some.is _ c.at_place.ensures)
