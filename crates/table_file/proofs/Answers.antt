-- The answers' numbers, and the answer of the writer.
use mathlib.Core.Path.{◌≡◌, refl, sym, ◌∙◌}
use mathlib.Core.List.{List, [], ◌∷◌, ◌++◌, flat_map}
use Prim.Native.Nat.{ℕ, zero, suc, ◌+◌, ◌*◌, ◌≤◌, ◌<◌}
use native.Mathlib.Omega.{arith}
use lib.Dec.{ltb}
use borrow.Author.Tests.{lt-ltb, le-ltb, ltb-false}
use lib.ListN.{length, drop, length-append}
use Rattle.model.specs.Basics.{Check, check, first_met}
use Rattle.model.specs.Table.{Table, table_checks, table_refusal}
use Rattle.model.specs.TableFile.{record_bytes, counts_body, sizes_body, table_bytes, file_length, wrote_or, write_table}
use Rattle.model.proofs.Checks.{numbered_append, NoneMet, none_met, none_front, none_back, first_none}
use Rattle.model.proofs.Lists.{length-flat_map}
use Rattle.model.proofs.TableFacts.{table_numbered}
use Rattle.model.proofs.FileWrite.{length_record, length-counts_body, length-sizes_body, length-table_bytes}
use Rattle.table.specs.declared.Table.{Table as TableRecord}
use Rattle.table.specs.View.{view_links, view_table}
use Rattle.little_endian.specs.Output.{laid}
use Rattle.table_record_writer.specs.Records.{link_record}
use Rattle.refusal.specs.declared.Refusal.{Refusal}
use Rattle.refusal.specs.Numbers.{number_or_0}
use Rattle.table_file.specs.Answers.{reading_of, writing_of, Wrote}
use Rattle.std.specs.Prelude.{Result, Ok, Err}
use Rattle.table.proofs.Shape.{count_shown}
use Rattle.table.proofs.PassingRecord.{counts_pass}
use Rattle.table.proofs.Refusals.{stops_in_front, goes_on_behind}
use Rattle.little_endian.proofs.Laid.{then_laid}
use Rattle.table_record_writer.proofs.Written.{length-link_record}

-- ---- the number of an answer's refusal, 0 if none
pub told_read : (r : Result TableRecord Refusal) → (reading_of r).refused ≡ number_or_0 r
told_read (Ok t) = refl
told_read (Err e) = refl

pub told_written : (r : Result ℕ Refusal) → (writing_of r).refused ≡ number_or_0 r
told_written (Ok n) = refl
told_written (Err e) = refl

-- ---- refusals
stopped : (n r : ℕ) (t : Table) (output : List ℕ) → r ≡ n → (r ≡ 0 → ⊥) → wrote_or n t output ≡ record { refused = r; written = 0; output = output }
unfolding wrote_or
stopped zero r t output e z = absurd (z e)
stopped (suc n) r t output e z = rw e

wrote_none : (t : Table) (output : List ℕ) (r : ℕ) → write_table t output ≡ record { refused = r; written = 0; output = output } → Wrote t output output (record { refused = r; written = 0 })
wrote_none t output r e = record { refused = rw e; written = rw e; output = rw e }

module _ (t : Table) (output : List ℕ) (r : ℕ) (e : r ≡ table_refusal t) where
  room : List Check
  room = check 9 (ltb (length output) (file_length t)) ∷ []

  pub table_refused : (r ≡ 0 → ⊥) → Wrote t output output (record { refused = r; written = 0 })
  unfolding write_table table_refusal room
  table_refused z =
      wrote_none t output r (stopped (first_met (table_checks t ++ room)) r t output (stops_in_front (table_checks t) room (table_numbered t) r e z) z)

  module _ (z : r ≡ 0) where
    passed : first_met (table_checks t ++ room) ≡ first_met room
    unfolding table_refusal
    passed = goes_on_behind (table_checks t) room (table_numbered t) r e z

    short : length output < file_length t → 9 ≡ first_met room
    unfolding room first_met
    short h = rw (lt-ltb (length output) (file_length t) h)

    pub no_room : length output < file_length t → Wrote t output output (record { refused = 9; written = 0 })
    unfolding write_table room
    no_room h = wrote_none t output 9 (stopped (first_met (table_checks t ++ room)) 9 t output (short h ∙ sym passed) (λ q. omega arith))

    enough : file_length t ≤ length output → 0 ≡ first_met (table_checks t ++ room)
    unfolding room first_met
    enough h = sym (passed ∙ rw (le-ltb (length output) (file_length t) h))

    all_written : file_length t ≤ length output → write_table t output ≡ record { refused = 0; written = file_length t; output = table_bytes t ++ drop (file_length t) output }
    unfolding write_table wrote_or room
    all_written h = rw (← enough h)

    pub wrote_all : (w : ℕ) (after : List ℕ) → file_length t ≤ length output → w ≡ file_length t → after ≡ table_bytes t ++ drop (file_length t) output → Wrote t output after (record { refused = 0; written = w })
    wrote_all w after h k q = record { refused = rw (all_written h); written = rw (all_written h) k; output = rw (all_written h) q }

pub accepted : (t : Table) (output : List ℕ) → table_refusal t ≡ 0 → file_length t ≤ length output →
    write_table t output ≡ record { refused = 0; written = file_length t; output = table_bytes t ++ drop (file_length t) output }
accepted t output e h = all_written t output (table_refusal t) refl e h

-- what an answer with no refusal tells
not_refused : (n : ℕ) (t : Table) (output : List ℕ) → (wrote_or n t output).refused ≡ 0 → n ≡ 0
unfolding wrote_or
not_refused zero t output e = refl
not_refused (suc n) t output e = e

module _ (t : Table) (output : List ℕ) (e : (write_table t output).refused ≡ 0) where
  none_refused : NoneMet (table_checks t ++ (check 9 (ltb (length output) (file_length t)) ∷ []))
  unfolding write_table
  none_refused =
      let last = check 9 (ltb (length output) (file_length t)) ∷ [] in
      none_met (table_checks t ++ last) (numbered_append (table_checks t) last (table_numbered t) (omega arith)) (not_refused (first_met (table_checks t ++ last)) t output e)

  pub not_refused_passes : table_refusal t ≡ 0
  unfolding table_refusal
  not_refused_passes = first_none (table_checks t) (none_front (table_checks t) (check 9 (ltb (length output) (file_length t)) ∷ []) none_refused)

  pub not_refused_room : file_length t ≤ length output
  not_refused_room = ltb-false (length output) (file_length t) (none_back (table_checks t) (check 9 (ltb (length output) (file_length t)) ∷ []) none_refused).0

-- ---- the record's file
pub count_few : (t : TableRecord) (r : ℕ) → r ≡ table_refusal (view_table t) → r ≡ 0 → t.count ≤ 256
count_few t r e z = (counts_pass t (sym e ∙ z)).links_most

pub length_shown : (t : TableRecord) → file_length (view_table t) ≡ 44 + 18 * t.count
unfolding view_table
length_shown t = rw count_shown

module _ (t : TableRecord) (output a b c : List ℕ) (eight : length t.sizes ≡ 8) (h : 44 + 18 * t.count ≤ length output) where
  whole_laid : a ≡ laid 0 (record_bytes 1 (counts_body t.lines t.count)) output → b ≡ laid 8 (flat_map link_record (view_links t)) a →
      c ≡ laid (8 + 18 * t.count) (record_bytes 3 (sizes_body t.sizes)) b → c ≡ laid 0 (table_bytes (view_table t)) output
  unfolding view_table table_bytes
  whole_laid pa pb pc =
      let first = record_bytes 1 (counts_body t.lines t.count) in
      let links = flat_map link_record (view_links t) in
      let last = record_bytes 3 (sizes_body t.sizes) in
      let n1 : length first ≡ 8 = length_record 1 (counts_body t.lines t.count) ∙ rw length-counts_body in
      let n2 : length links ≡ 18 * t.count = length-flat_map link_record 18 length-link_record (view_links t) ∙ rw count_shown in
      let n3 : length last ≡ 36 = length_record 3 (sizes_body t.sizes) ∙ rw (length-sizes_body, eight) in
      let n12 : length (first ++ links) ≡ 8 + 18 * t.count = length-append first links ∙ omega arith in
      let qb = then_laid 0 8 first links output a b (omega arith) (omega arith) pa pb in
      rw count_shown (then_laid 0 (8 + 18 * t.count) (first ++ links) last output b c (omega arith) (omega arith) qb pc)

  pub file_laid : a ≡ laid 0 (record_bytes 1 (counts_body t.lines t.count)) output → b ≡ laid 8 (flat_map link_record (view_links t)) a →
      c ≡ laid (8 + 18 * t.count) (record_bytes 3 (sizes_body t.sizes)) b → c ≡ table_bytes (view_table t) ++ drop (file_length (view_table t)) output
  unfolding laid view_table
  file_laid pa pb pc =
      let n : 0 + length (table_bytes (view_table t)) ≡ file_length (view_table t) = omega (arith, length-table_bytes (view_table t) eight) in
      whole_laid pa pb pc ∙ rw n
