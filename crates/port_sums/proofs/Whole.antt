-- The sums of a whole record, by the parts that the code asks.
use mathlib.Core.Path.{◌≡◌, refl, subst}
use mathlib.Core.Bool.{Bool, true, false}
use Prim.Native.Nat.{ℕ}
use native.Mathlib.Omega.{arith}
use lib.Dec.{leb}
use lib.ListN.{length, replicate}
use Rattle.model.specs.Units.{full_count}
use Rattle.model.specs.Counters.{every_count}
use Rattle.model.specs.Fitness.{fit}
use Rattle.model.specs.Sums.{sums_if, sums}
use Rattle.model.proofs.Entries.{entries_blank}
use Rattle.model.proofs.Fitness.{fit_is}
use Rattle.model.proofs.Counting.{counts_fit}
use Rattle.table.specs.View.{view_table}
use Rattle.table.proofs.Shape.{count_shown}
use Rattle.counters.specs.View.{view_counts}
use Rattle.std.specs.Prelude.{Option, Some, None, is_some}
use Rattle.std.specs.Bool.{then_some}
use Rattle.port.specs.declared.Port.{Port as PortRecord}
use Rattle.port.specs.View.{view_port_table, view_port}
use Rattle.port.specs.Whole.{Whole}
use Rattle.counter_sums.specs.View.{padded}
use Rattle.counter_sums.specs.Adding.{Few}

-- ---- a told test
unfit : (b : Bool) (n : ℕ) {o : Option ℕ} → o ≡ then_some b n → is_some o ≡ false → b ≡ false
unfit true n e z = absurd (let y : is_some (Some n) ≡ false = rw e at z in cc)
unfit false n e z = refl

is_fit : (b : Bool) (n : ℕ) {o : Option ℕ} → o ≡ then_some b n → is_some o ≡ true → b ≡ true
is_fit true n e z = refl
is_fit false n e z = absurd (let y : is_some {T = ℕ} None ≡ true = rw e at z in cc)

-- ---- of a record
module _ (p : PortRecord) (n : ℕ) {o : Option ℕ} (tested : o ≡ then_some (fit (view_port_table p) (view_port p)) n) where
  pub of_unfit : is_some o ≡ false → record { refused = 10; sums = replicate 256 0; has_total = false; total = 0 } ≡ padded (sums (view_port_table p) (view_port p))
  unfolding sums sums_if
  of_unfit z = rw (unfit (fit (view_port_table p) (view_port p)) n tested z, entries_blank {A = ℕ} 0 256)

  module _ (z : is_some o ≡ true) where
    e : fit (view_port_table p) (view_port p) ≡ true
    e = is_fit (fit (view_port_table p) (view_port p)) n tested z

    pub of_fit : padded (sums_if true p.table.count (view_counts p.table.count p.counts p.unknown)) ≡ padded (sums (view_port_table p) (view_port p))
    unfolding sums view_table view_port
    of_fit = rw (e, count_shown p.table)

    pub few : Whole p → Few p.counts p.unknown p.table.count
    unfolding view_table view_port
    few w =
        let good = fit_is (view_port_table p) (view_port p) e in
        record { sized = w.counts; links = omega (arith, good.table.counts.links_most, count_shown p.table); each = subst (λ n. every_count (λ count. leb count full_count) n (view_port p).counters ≡ true) (count_shown p.table) (counts_fit (length (view_table p.table).links) (view_port p).counters good.counts) }
