use mathlib.Core.Path.{refl}
use Prim.Native.Nat.{◌-◌}
use lib.ListN.{length}
use Rattle.std.proofs.lemmas.Option.{unwrap_or-slice_get}
use Rattle.redundancy_measure.specs.Measure.{measure_of}
use Rattle.redundancy_measure.proofs.measure_of.Goals as goal

pub returns : goal.returns
unfolding measure_of
returns c =
    let part = c.args.part.now in
    rw (c.unwrap_or-first.ensures, c.copied.ensures, c.first.ensures.value, unwrap_or-slice_get part 0 0)
    (rw (c.unwrap_or-last.ensures, c.copied-2.ensures, c.last.ensures.value, unwrap_or-slice_get part (length part - 1) 0) refl)
