-- A frame counted, in the record and in the model.
use mathlib.Core.Path.{◌≡◌, refl, ◌∙◌}
use mathlib.Core.Option.{none, some}
use mathlib.Core.List.{List}
use Prim.Native.Nat.{ℕ, ◌+◌, ◌*◌, ◌<◌}
use native.Mathlib.Omega.{arith}
use lib.ListN.{length, get_or, set}
use lib.Seq.{drop-set-lt}
use Rattle.model.specs.Link.{place_of}
use Rattle.model.specs.Table.{table_refusal}
use Rattle.model.specs.Counters.{risen, counted}
use Rattle.table.specs.View.{view_links}
use Rattle.table.proofs.PassingRecord.{counts_pass}
use Rattle.std.specs.Prelude.{Option, Some, None}
use Rattle.table_lookup.specs.Places.{Found}
use Rattle.table_lookup.proofs.Tables.{links_named}
use Rattle.counters.proofs.Rows.{count_at_lem, count_set}
use Rattle.port.specs.declared.Port.{Port as PortRecord}
use Rattle.port.specs.View.{view_port_table, view_port}
use Rattle.port.specs.Counting.{Counts}

-- the port with those counts, and all else as it is
abbrev pub with_counts : PortRecord → List ℕ → ℕ → PortRecord
with_counts p counts unknown = record { table = p.table; clock = p.clock; queues = p.queues; sender = p.sender; gate = p.gate; counts = counts; unknown = unknown }

module _ (p : PortRecord) (many : length p.counts ≡ 1024) (number verdict : ℕ) (e : table_refusal (view_port_table p) ≡ 0) {x : Option ℕ} (found : Found p.table.numbers p.table.count number x) where
  pub is_unknown : x ≡ None → {n : ℕ} → n ≡ risen p.unknown → Counts p number verdict (with_counts p p.counts n)
  unfolding counted view_port
  is_unknown q r =
      let none_is : place_of number (view_links p.table) ≡ none = found.place (view_links p.table) (links_named p.table e) ∙ rw q in
      record { port = rw (none_is, r); table = refl; gate = refl; behind = refl }

  module _ (i : ℕ) (q : x ≡ Some i) where
    place_is : place_of number (view_links p.table) ≡ some i
    place_is = found.place (view_links p.table) (links_named p.table e) ∙ rw q

    pub in_array : i < 256
    in_array = omega (arith, found.below i q, (counts_pass p.table e).links_most)

    pub is_known : verdict < 4 → {k n : ℕ} → k ≡ 4 * i + verdict → n ≡ risen (get_or p.counts k 0) → Counts p number verdict (with_counts p (set p.counts k n) p.unknown)
    unfolding counted view_port
    is_known v {k} {n} at r =
        let here = count_at_lem 4 p.table.count p.counts i verdict at (found.below i q) v in
        let rows = count_set 4 p.table.count p.counts i verdict at (found.below i q) v n (omega arith) (omega (arith, in_array, many)) in
        record {
          port = rw (place_is, rows, here, r);
          table = refl;
          gate = refl;
          behind = drop-set-lt (4 * p.table.count) p.counts k n (omega (arith, found.below i q));
        }
