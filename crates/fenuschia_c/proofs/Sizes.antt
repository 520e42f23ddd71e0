-- The sizing of a file: the reader's refusal, then that of the bounds, then 9; then 32 numbers.
use mathlib.Core.Path.{◌≡◌, refl, sym, ap, ◌∙◌}
use mathlib.Core.List.{List, [], ◌∷◌, ◌++◌}
use Prim.Native.Nat.{ℕ, zero, suc, ◌+◌, ◌≤◌, ◌<◌}
use native.Mathlib.Omega.{arith}
use lib.Dec.{ltb}
use lib.ListN.{length, length-append}
use borrow.Author.Tests.{lt-ltb, le-ltb}
use Rattle.model.specs.Basics.{check, first_met, first_refusal}
use Rattle.model.specs.Table.{Table}
use Rattle.model.specs.TableFile.{read_table}
use Rattle.model.specs.Bounds.{Sizing, bounds_refusal, sized_or, sizing}
use Rattle.model.specs.Batch.{bytes_of, over}
use Rattle.model.proofs.Checks.{first_here}
use Rattle.model.proofs.FileRead.{read_passes}
use Rattle.model.proofs.Passing.{is_passing}
use Rattle.little_endian.specs.Output.{laid}
use Rattle.little_endian.proofs.Laid.{then_laid}
use Rattle.table.specs.View.{view_table}
use Rattle.table_file.specs.Answers.{Reading as ReadingRecord, record_reading}
use Rattle.table_file.proofs.Back.{read_shown}
use Rattle.flat_port.proofs.Standing.{refused_first, refused_last}
use Rattle.report_bytes.proofs.NumberBytes.{bytes_long, bytes_joined}
use Rattle.fenuschia_c.specs.Sized.{sizing_numbers, sizing_or, sizing_file, Sized}

-- ---- what is written
record Eights (s : Sizing) : Type 0 where
  bounds : length s.bounds ≡ 8
  holds : length s.holds ≡ 8
  windows : length s.windows ≡ 8

eights : (t : Table) → Eights (sizing t)
unfolding sizing sized_or
eights t = go (bounds_refusal t)
  where
    go : (n : ℕ) → Eights (sized_or n t)
    go zero = record { bounds = refl; holds = refl; windows = refl }
    go (suc n) = record { bounds = refl; holds = refl; windows = refl }

at_first : (bytes output : List ℕ) → laid 0 bytes output ≡ over bytes output
unfolding laid
at_first bytes output = let e : 0 + length bytes ≡ length bytes = omega arith in rw e

four_laid : (a b c d output : List ℕ) {w x y z : List ℕ} → length a ≡ 8 → length b ≡ 8 → length c ≡ 8 → length d ≡ 8 → 256 ≤ length output → w ≡ laid 0 (bytes_of a) output → x ≡ laid 64 (bytes_of b) w →
    y ≡ laid 128 (bytes_of c) x → z ≡ laid 192 (bytes_of d) y → z ≡ over (bytes_of (a ++ b ++ c ++ d)) output
four_laid a b c d output {w} {x} {y} {z} ea eb ec ed h p q r s =
    let A = bytes_of a in
    let B = bytes_of b in
    let C = bytes_of c in
    let two = then_laid 0 64 A B output w x (omega (arith, bytes_long a)) (omega (arith, bytes_long b)) p q in
    let three = then_laid 0 128 (A ++ B) C output x y (rw length-append (omega (arith, bytes_long a, bytes_long b))) (omega (arith, bytes_long c)) two r in
    let four = then_laid 0 192 (A ++ B ++ C) (bytes_of d) output y z (rw (length-append, length-append) (omega (arith, bytes_long a, bytes_long b, bytes_long c))) (omega (arith, bytes_long d)) three s in
    rw (bytes_joined (a ++ b ++ c) d, bytes_joined (a ++ b) c, bytes_joined a b, ← at_first (A ++ B ++ C ++ bytes_of d) output) four

-- ---- what is answered
untouched : (n : ℕ) (t : Table) (output : List ℕ) → (n ≡ 0 → ⊥) → Sized (sizing_or n t output) n output
unfolding sizing_or
untouched zero t output h = absurd (h refl)
untouched (suc n) t output h = record { answer = refl; output_is = refl }

given : (n : ℕ) (t : Table) (output : List ℕ) {output' : List ℕ} → n ≡ 0 → output' ≡ over (bytes_of (sizing_numbers t (sizing t))) output → Sized (sizing_or n t output) 0 output'
unfolding sizing_or
given n t output e q = rw e (record { answer = refl; output_is = q })

module _ (file output : List ℕ) (r : ReadingRecord) (e : r ≡ record_reading (read_table file)) where
  abbrev table : Table
  table = (read_table file).table

  abbrev short : ℕ
  short = first_met (check 9 (ltb (length output) 256) ∷ [])

  refusal_is : r.refused ≡ (read_table file).refused
  refusal_is = ap (λ (x : ReadingRecord). x.refused) e

  pub file_refused : (r.refused ≡ 0 → ⊥) → Sized (sizing_file file output) r.refused output
  unfolding sizing_file
  file_refused h = rw (← refused_first (read_table file).refused (first_refusal (sizing table).refused short) h refusal_is) (untouched r.refused table output h)

  module _ (z : r.refused ≡ 0) (b : Sizing) (q : b ≡ sizing (view_table r.table)) where
    shown : view_table r.table ≡ table
    shown = ap (λ (x : ReadingRecord). view_table x.table) e ∙ read_shown file

    bounds_are : b ≡ sizing table
    bounds_are = rw shown at q

    refused_is : b.refused ≡ (sizing table).refused
    refused_is = ap (λ (x : Sizing). x.refused) bounds_are

    later : {n : ℕ} → n ≡ first_refusal (sizing table).refused short → n ≡ first_refusal (read_table file).refused (first_refusal (sizing table).refused short)
    later k = refused_last (read_table file).refused (first_refusal (sizing table).refused short) (sym z ∙ refusal_is) k

    pub bounds_refused : (b.refused ≡ 0 → ⊥) → Sized (sizing_file file output) b.refused output
    unfolding sizing_file
    bounds_refused h = rw (← later (refused_first (sizing table).refused short h refused_is)) (untouched b.refused table output h)

    module _ (none : b.refused ≡ 0) where
      last : {n : ℕ} → n ≡ short → n ≡ first_refusal (read_table file).refused (first_refusal (sizing table).refused short)
      last k = later (refused_last (sizing table).refused short (sym none ∙ refused_is) k)

      pub short_refused : length output < 256 → Sized (sizing_file file output) 9 output
      unfolding sizing_file
      short_refused h =
          let nine : 9 ≡ short = sym (first_here (check 9 (ltb (length output) 256)) [] (lt-ltb (length output) 256 h)) in
          rw (← last nine) (untouched 9 table output (λ x. omega arith))

      pub sized_given : 256 ≤ length output → {w x y o : List ℕ} → w ≡ laid 0 (bytes_of b.bounds) output → x ≡ laid 64 (bytes_of b.holds) w → y ≡ laid 128 (bytes_of b.windows) x →
          o ≡ laid 192 (bytes_of r.table.sizes) y → Sized (sizing_file file output) 0 o
      unfolding sizing_file first_met view_table
      sized_given h p1 p2 p3 p4 =
          let fits : 0 ≡ short = rw (le-ltb (length output) 256 h) in
          let s = sizing table in
          let n = eights table in
          let sizes : r.table.sizes ≡ table.sizes = ap (λ (t : Table). t.sizes) shown in
          let count : length table.sizes ≡ 8 = (is_passing table (read_passes file (sym refusal_is ∙ z))).sizes.count in
          given (first_refusal (read_table file).refused (first_refusal (sizing table).refused short)) table output (sym (last fits))
          (four_laid s.bounds s.holds s.windows table.sizes output n.bounds n.holds n.windows count h (rw bounds_are at p1) (rw bounds_are at p2) (rw bounds_are at p3) (rw sizes at p4))
