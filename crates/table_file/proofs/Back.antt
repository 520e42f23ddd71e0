-- What reader and writer, one after the other, give.
use mathlib.Core.Path.{◌≡◌, sym, ap, ◌∙◌}
use mathlib.Core.List.{List, ◌++◌}
use Prim.Native.Nat.{ℕ, ◌≤◌}
use native.Mathlib.Decide.{ℕ_discrete}
use native.Mathlib.Omega.{arith}
use lib.ListN.{length, take, drop}
use lib.Seq.{take_at}
use Rattle.model.specs.TableFile.{table_bytes, file_length, Writing as ModelWriting, read_table, write_table}
use Rattle.model.proofs.Passing.{is_passing}
use Rattle.model.proofs.FileRead.{refused_blank, read_passes}
use Rattle.model.proofs.Bytes.{AllBytes}
use Rattle.model.proofs.FileWrite.{written_length, written_read}
use Rattle.model.proofs.ReadBack.{read_written}
use Rattle.table.specs.declared.Table.{Table as TableRecord}
use Rattle.table.specs.View.{view_table, record_table}
use Rattle.table.proofs.Shown.{record_shown}
use Rattle.table_file.specs.Answers.{Reading as ReadingRecord, Writing, record_reading, Wrote}
use Rattle.table_file.proofs.Answers.{accepted, not_refused_passes, not_refused_room}

pub links_few : (file : List ℕ) → length (read_table file).table.links ≤ 256
links_few file = go (ℕ_discrete (read_table file).refused 0)
  where
    go : Dec ((read_table file).refused ≡ 0) → length (read_table file).table.links ≤ 256
    go (yes e) = (is_passing (read_table file).table (read_passes file e)).counts.links_most
    go (no z) = rw (refused_blank file (omega arith)) (omega arith)

-- the record that is read shows the table that the model reads
pub read_shown : (file : List ℕ) → view_table (record_table (read_table file).table) ≡ (read_table file).table
read_shown file = record_shown (read_table file).table (links_few file)

-- ---- there and back

-- a table that is written is read back, entries behind the count being blank
pub written_back : (t : TableRecord) (before after : List ℕ) (w : Writing) (r : ReadingRecord) → Wrote (view_table t) before after w → w.refused ≡ 0 →
    r ≡ record_reading (read_table (take w.written after)) → (r.refused ≡ 0) × (r.table ≡ record_table (view_table t)) × (view_table r.table ≡ view_table t)
written_back t before after w r wrote z q =
    let pass = not_refused_passes (view_table t) before (sym wrote.refused ∙ z) in
    let all = accepted (view_table t) before pass (not_refused_room (view_table t) before (sym wrote.refused ∙ z)) in
    let n : w.written ≡ file_length (view_table t) = wrote.written ∙ ap (λ (a : ModelWriting). a.written) all in
    let o : after ≡ table_bytes (view_table t) ++ drop (file_length (view_table t)) before = wrote.output ∙ ap (λ (a : ModelWriting). a.output) all in
    let file : take w.written after ≡ table_bytes (view_table t) =
    rw (n, o) (take_at (table_bytes (view_table t)) (drop (file_length (view_table t)) before) (file_length (view_table t)) (written_length (view_table t) pass)) in
    let back : read_table (take w.written after) ≡ record { refused = 0; table = view_table t } = ap read_table file ∙ read_written (view_table t) pass in
    let same : r ≡ record { refused = 0; table = record_table (view_table t) } = q ∙ ap record_reading back in
    let few : length (view_table t).links ≤ 256 = (is_passing (view_table t) pass).counts.links_most in
    let table : r.table ≡ record_table (view_table t) = ap (λ (a : ReadingRecord). a.table) same in
    (ap (λ (a : ReadingRecord). a.refused) same, table, ap view_table table ∙ record_shown (view_table t) few)

-- a file that is read is written back, byte for byte, where the output has room for it
pub file_back : (file before after : List ℕ) (r : ReadingRecord) (w : Writing) → AllBytes file → r ≡ record_reading (read_table file) → r.refused ≡ 0 → length file ≤ length before →
    Wrote (view_table r.table) before after w → (w.refused ≡ 0) × (w.written ≡ length file) × (after ≡ file ++ drop (length file) before)
file_back file before after r w bytes q z room wrote =
    let t = (read_table file).table in
    let e : (read_table file).refused ≡ 0 = sym (ap (λ (a : ReadingRecord). a.refused) q) ∙ z in
    let shown : view_table r.table ≡ t = ap (λ (a : ReadingRecord). view_table a.table) q ∙ read_shown file in
    let pass = read_passes file e in
    let same : table_bytes t ≡ file = written_read file bytes e in
    let long : file_length t ≡ length file = sym (written_length t pass) ∙ ap length same in
    let all : write_table (view_table r.table) before ≡ record { refused = 0; written = file_length t; output = table_bytes t ++ drop (file_length t) before } =
    rw shown (accepted t before pass (omega arith)) in (
      wrote.refused ∙ ap (λ (a : ModelWriting). a.refused) all,
      wrote.written ∙ ap (λ (a : ModelWriting). a.written) all ∙ long,
      wrote.output ∙ ap (λ (a : ModelWriting). a.output) all ∙ rw (same, long),
    )
