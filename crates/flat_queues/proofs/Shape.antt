-- The arrays of rings have their lengths.
use mathlib.Core.Path.{◌≡◌}
use lib.ListN.{length}
use mir.Val.{Val}
use mathlib.Core.List.{List}
use denote.Laws.{Is}
use denote.Struct.Declared.{row}
use Rattle.flat_queues.specs.declared.Rings.{Rings}
use Rattle.flat_queues.specs.contracts.Rings.{the_type}

pub record Sized (r : Rings) : Type 0 where
  pub frames : length r.frames ≡ 6144
  pub heads : length r.heads ≡ 8
  pub counts : length r.counts ≡ 8
  pub held : length r.held ≡ 8
  pub marks : length r.marks ≡ 8

pub sized : (r : Rings) (vs : List Val) → Is (row the_type) r vs → Sized r
sized r vs p =
    record {
      frames = p.1.1.0.1.0.1;
      heads = p.1.1.1.0.1.0.1;
      counts = p.1.1.1.1.0.1.0.1;
      held = p.1.1.1.1.1.0.1.0.1;
      marks = p.1.1.1.1.1.1.0.1.0.1;
    }
