-- What a bench's call gives.
use mathlib.Core.Path.{◌≡◌, refl, sym, ap, ◌∙◌}
use mathlib.Core.List.{List}
use Prim.Native.Nat.{ℕ, zero, suc, ◌+◌}
use native.Mathlib.Omega.{arith}
use lib.ListN.{length}
use Rattle.std.proofs.Common.{rules, replicate}
use Rattle.std.specs.Prelude.{Result, Ok, Err, sum}
use Rattle.std.specs.Result.{result_unwrap_or}
use Rattle.model.specs.Basics.{first_refusal, first_met, all_hold}
use Rattle.model.specs.JitterMargin.{Margin, margin, margin_or, margin_refusal}
use Rattle.model.specs.OverloadCore.{core, core_or, core_refusal}
use Rattle.model.specs.Table.{Table, blank_table, table_refusal, table_checks, counts_in_range}
use Rattle.model.specs.Bounds.{Sizing, sizing, sized_or, bounds_refusal}
use Rattle.model.specs.TableFile.{read_table}
use Rattle.refusal.specs.declared.Refusal.{Refusal}
use Rattle.table.specs.declared.Table.{Table as TableRecord}
use Rattle.table.specs.View.{view_table, record_table}
use Rattle.table.proofs.Shown.{blank_shown}
use Rattle.table_file.specs.Answers.{Reading, reading_of, record_reading}
use Rattle.table_file.proofs.Back.{read_shown}
use Rattle.bounds.specs.declared.Bounds.{Bounds}
use Rattle.bounds.specs.Answer.{sizing_of}
use Rattle.jitter_margin.specs.Answer.{margin_of}
use Rattle.overload_core.specs.Answer.{Core as CoreRecord, core_of, record_core}
use Rattle.bench_calls.specs.Sums.{sizing_sum}

-- the table of a file, also where it is refused
abbrev table_of : Result TableRecord Refusal → Table
table_of r = view_table (reading_of r).table

pub table_is : (file : List ℕ) (r : Result TableRecord Refusal) → reading_of r ≡ record_reading (read_table file) → table_of r ≡ (read_table file).table
table_is file r e = ap (λ (x : Reading). view_table x.table) e ∙ read_shown file

blank_refused : bounds_refusal blank_table ≡ 3
unfolding bounds_refusal first_met table_checks counts_in_range all_hold
blank_refused = refl

blank_fails : table_refusal blank_table ≡ 3
unfolding table_refusal first_met table_checks counts_in_range all_hold
blank_fails = refl

-- of a refused file it is the blank one
pub blank_is : (file : List ℕ) (r : Refusal) → reading_of (Err r) ≡ record_reading (read_table file) → (read_table file).table ≡ blank_table
blank_is file r e = sym (table_is file (Err r) e) ∙ blank_shown

-- ---- the bounds, holds and windows of a file
blank_sum : 0 ≡ sizing_sum blank_table
unfolding sizing_sum sizing sized_or
blank_sum = rw blank_refused (search rules)

refused_sum : (t : Table) (r : Refusal) → sizing_of (Err r) ≡ sizing t → 0 ≡ sizing_sum t
unfolding sizing_sum
refused_sum t r f = let none : 0 ≡ sum (replicate {A = ℕ} 8 0) + sum (replicate {A = ℕ} 8 0) + sum (replicate {A = ℕ} 8 0) = search rules in none ∙ ap (λ (x : Sizing). sum x.bounds + sum x.holds + sum x.windows) f

pub file_refused : (file : List ℕ) (r : Refusal) → reading_of (Err r) ≡ record_reading (read_table file) → 0 ≡ sizing_sum (read_table file).table
file_refused file r e = blank_sum ∙ ap sizing_sum (sym (blank_is file r e))

pub bounds_refused : (file : List ℕ) (t : TableRecord) → reading_of (Ok t) ≡ record_reading (read_table file) → (r : Refusal) → sizing_of (Err r) ≡ sizing (view_table t) → 0 ≡ sizing_sum (read_table file).table
bounds_refused file t e r f = refused_sum (read_table file).table r (f ∙ ap sizing (table_is file (Ok t) e))

pub sizing_is : (file : List ℕ) (t : TableRecord) → reading_of (Ok t) ≡ record_reading (read_table file) → (s : Bounds) → sizing_of (Ok s) ≡ sizing (view_table t)
    → sum s.bounds + sum s.holds + sum s.windows ≡ sizing_sum (read_table file).table
unfolding sizing_sum
sizing_is file t e s f = ap (λ (x : Sizing). sum x.bounds + sum x.holds + sum x.windows) (f ∙ ap sizing (table_is file (Ok t) e))

-- ---- the jitter that is left in the table of a file
blank_margin : (number : ℕ) → 0 ≡ (margin blank_table number).jitter
unfolding margin margin_or margin_refusal first_refusal
blank_margin number = rw blank_fails

pub margin_refused : (file : List ℕ) (r : Refusal) (number : ℕ) → reading_of (Err r) ≡ record_reading (read_table file) → 0 ≡ (margin (read_table file).table number).jitter
margin_refused file r number e = blank_margin number ∙ ap (λ (t : Table). (margin t number).jitter) (sym (blank_is file r e))

left_or_0 : (m : Result ℕ Refusal) → result_unwrap_or m 0 ≡ (margin_of m).jitter
left_or_0 (Ok j) = refl
left_or_0 (Err r) = refl

pub margin_is : (file : List ℕ) (t : TableRecord) (number : ℕ) (m : Result ℕ Refusal) → reading_of (Ok t) ≡ record_reading (read_table file) → margin_of m ≡ margin (view_table t) number
    → result_unwrap_or m 0 ≡ (margin (read_table file).table number).jitter
margin_is file t number m e f = left_or_0 m ∙ ap (λ (x : Margin). x.jitter) f ∙ ap (λ (u : Table). (margin u number).jitter) (table_is file (Ok t) e)

-- ---- how many links of the table of a file remain
blank_core : 0 ≡ length (core blank_table).table.links
unfolding core core_or core_refusal first_refusal
blank_core = rw blank_fails

pub core_refused : (file : List ℕ) (r : Refusal) → reading_of (Err r) ≡ record_reading (read_table file) → 0 ≡ length (core (read_table file).table).table.links
core_refused file r e = blank_core ∙ ap (λ (t : Table). length (core t).table.links) (sym (blank_is file r e))

module _ (file : List ℕ) (t : TableRecord) (e : reading_of (Ok t) ≡ record_reading (read_table file)) where
  count_is : (c : Result TableRecord Refusal) → core_of c ≡ record_core (core (view_table t)) → (core_of c).table.count ≡ length (core (read_table file).table).table.links
  unfolding record_table
  count_is c f = ap (λ (x : CoreRecord). x.table.count) f ∙ ap (λ (u : Table). length (core u).table.links) (table_is file (Ok t) e)

  pub core_is : (c : TableRecord) → core_of (Ok c) ≡ record_core (core (view_table t)) → c.count ≡ length (core (read_table file).table).table.links
  core_is c f = count_is (Ok c) f

  pub none_is : (r : Refusal) → core_of (Err r) ≡ record_core (core (view_table t)) → 0 ≡ length (core (read_table file).table).table.links
  unfolding record_table
  none_is r f = count_is (Err r) f
