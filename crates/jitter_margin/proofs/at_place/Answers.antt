use mathlib.Core.Path.{refl}
use Rattle.table.proofs.Shape.{sized}
use Rattle.jitter_margin.proofs.Answering.{by_count}
use Rattle.jitter_margin.proofs.at_place.Goals as goal

pub returns-then-many-eq0 : goal.returns-then-many-eq0
returns-then-many-eq0 c =
    let t = c.args.t in
    by_count t.table (sized t.table _ c.well_formed.0.1.1.0) t.passes c.args.i c.requires c.how_many-many.result c.how_many-many.ensures _
    (λ z. refl) (λ z. absurd (z c.if-many-eq0.true))

pub returns : goal.returns
returns c =
    let t = c.args.t in
    by_count t.table (sized t.table _ c.well_formed.0.1.1.0) t.passes c.args.i c.requires c.how_many-many.result c.how_many-many.ensures _
    (λ z. absurd (c.if-many-eq0.false z)) (λ z. refl)
