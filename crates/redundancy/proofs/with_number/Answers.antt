-- The last byte, and 0 where there is none.
use mathlib.Core.Path.{refl}
use Prim.Native.Nat.{◌-◌}
use lib.ListN.{length}
use Rattle.std.proofs.lemmas.Option.{unwrap_or-slice_get}
use Rattle.model.specs.Redundancy.{sequence_number}
use Rattle.redundancy.proofs.with_number.Goals as goal

pub returns : goal.returns
unfolding sequence_number
returns c =
    (rw (c.unwrap_or.ensures, c.copied.ensures, c.last.ensures.value) (unwrap_or-slice_get c.args.w.frame.now (length c.args.w.frame.now - 1) 0), refl)
