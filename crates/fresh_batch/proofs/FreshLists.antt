-- Lists of zeros and the accounts at rest are the fresh port, which is fit.
use Rattle.std.specs.Prelude.{None}
use mathlib.Core.Path.{◌≡◌, refl}
use mathlib.Core.Bool.{true}
use mathlib.Core.List.{List, []}
use Prim.Native.Nat.{ℕ, ◌≤◌}
use native.Mathlib.Omega.{arith}
use lib.ListN.{length, replicate, length-replicate, get_or-replicate}
use Rattle.model.specs.Table.{table_refusal}
use Rattle.model.specs.Machine.{Frame, bytes, frames_held}
use Rattle.model.specs.Counters.{none_counted}
use Rattle.model.specs.Port.{fresh}
use Rattle.model.specs.Fitness.{fit}
use Rattle.model.specs.Report.{Report}
use Rattle.model.specs.Run.{run}
use Rattle.model.specs.Batch.{batch}
use Rattle.model.proofs.Fitness.{never_unfit}
use Rattle.table.specs.declared.Table.{Table as TableRecord}
use Rattle.table.specs.View.{view_table}
use Rattle.table.proofs.Shape.{count_shown}
use Rattle.table.proofs.PassingRecord.{counts_pass}
use Rattle.port_policing.specs.Full.{full_accounts}
use Rattle.port_policing.proofs.Full.{lines_at_rest, accounts_at_rest}
use Rattle.counters.specs.View.{view_tallies}
use Rattle.counters.proofs.Rows.{rows_none}
use Rattle.flat_queues.specs.View.{ring, rings_from, no_frames}
use Rattle.flat_port.specs.declared.FlatPort.{FlatPort}
use Rattle.flat_port.specs.Lists.{view_flat, Stands}
use Rattle.flat_batch.specs.Promised.{batch_of}
use Rattle.batch_bytes.specs.Promised.{BytesAnswers}

abbrev zeros : ℕ → List ℕ
zeros n = replicate n 0

abbrev pub resting : TableRecord → FlatPort
resting t =
    record {
      lists = record { rings = no_frames; ticks = zeros 24; accounts = full_accounts t; tallies = zeros 1281 };
      state = record { clock = 0; sender = None; frames = 0 };
    }

resting_queues : (frames heads : List ℕ) → rings_from frames heads 0 (zeros 8) ≡ replicate 8 []
unfolding rings_from ring
resting_queues frames heads = refl

none_counted_lem : (n : ℕ) → view_tallies n (zeros 1281) ≡ none_counted n
none_counted_lem n = rw (rows_none 5 0 n 1281, get_or-replicate {A = ℕ} 1281 1280 0 0 (omega arith))

module _ (t : TableRecord) (passes : table_refusal (view_table t) ≡ 0) where
  pub fresh_shown : view_flat (view_table t) (resting t) ≡ fresh (view_table t)
  unfolding fresh view_table
  fresh_shown =
      let few : t.count ≤ 256 = (counts_pass t passes).links_most in
      rw (resting_queues (zeros 6144) (zeros 8), none_counted_lem (length (view_table t).links), lines_at_rest t.lines, count_shown t, accounts_at_rest t few)

  fresh_fit : fit (view_table t) (fresh (view_table t)) ≡ true
  unfolding run
  fresh_fit = (never_unfit (view_table t) passes []).0

  pub fresh_stands : Stands (view_table t) (resting t)
  unfolding frames_held bytes
  fresh_stands =
      let none = resting_queues (zeros 6144) (zeros 8) in
      record {
        holds =
            record {
              queues_eight = rw none;
              eight = length-replicate {A = ℕ} 8 0;
              bytes_are = λ p h. rw (none, get_or-replicate {A = ℕ} 8 p 0 0 h, get_or-replicate {A = List Frame} 8 p [] [] h);
            };
        frames = rw none;
        fits = rw fresh_shown fresh_fit;
      }

  pub from_fresh : (reports : List Report) (numbers : List ℕ) {answers answers' list list' : List ℕ} → BytesAnswers (batch_of (view_table t) (resting t) reports numbers) answers answers' list list' →
      BytesAnswers (batch (view_table t) (fresh (view_table t)) reports numbers) answers answers' list list'
  from_fresh reports numbers k = rw fresh_shown at k
