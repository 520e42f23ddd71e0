-- The bytes of a table: how many there are, and that a file that is read has those of its table.
use mathlib.Core.Path.{◌≡◌, refl, ◌∙◌}
use mathlib.Core.Bool.{◌&&◌, not, and-eq-true_iff}
use mathlib.Core.Option.{Option, none, some}
use mathlib.Core.List.{List, [], ◌∷◌, ◌++◌, flat_map, append_assoc, append-nil}
use Prim.Native.Nat.{ℕ, zero, suc, ◌+◌, ◌*◌, ◌≤◌, ◌<◌}
use native.Mathlib.Omega.{arith}
use lib.Dec.{eqb, ltb}
use borrow.Author.Tests.{ltb-false, eqb-true, not-false, le-ltb, eq-eqb}
use lib.ListN.{length, drop, length-append, drop_of_length-le}
use Rattle.model.specs.Basics.{check}
use Rattle.model.specs.Link.{VirtualLink}
use Rattle.model.specs.Table.{Table, count_checks, link_checks, size_checks, table_refusal}
use Rattle.model.specs.Digits.{digits_of}
use Rattle.model.specs.TableFile.{to_bytes, number_at, record_bytes, counts_body, link_body, sizes_body, table_bytes, file_length, header_checks, link_read, sizes_read, read_table, count_record_checks, link_record_checks, sizes_record_checks}
use Rattle.model.proofs.Lists.{length-flat_map}
use Rattle.model.proofs.Bytes.{AllBytes, length-to_bytes, from_to_bytes, all_drop, number_bytes, numbers_bytes}
use Rattle.model.proofs.Checks.{NoneMet, none_front, none_back}
use Rattle.model.proofs.Passing.{is_passing}
use Rattle.model.proofs.FileRead.{links_in, behind_links, table_in, link_records_checks, file_passes, length_links_in, read_none_met, none_met_read}

-- ---- lengths

pub length_record : (kind : ℕ) (body : List ℕ) → length (record_bytes kind body) ≡ 4 + length body
unfolding record_bytes digits_of
length_record kind body = omega arith

pub length-counts_body : (lines n : ℕ) → length (counts_body lines n) ≡ 4
unfolding counts_body digits_of
length-counts_body lines n = refl

pub length-link_body : (v : VirtualLink) → length (link_body v) ≡ 14
unfolding link_body digits_of
length-link_body v = refl

pub length-sizes_body : (sizes : List ℕ) → length (sizes_body sizes) ≡ 4 * length sizes
unfolding sizes_body
length-sizes_body sizes = length-flat_map (to_bytes 4) 4 (length-to_bytes 4) sizes

pub length-table_bytes : (t : Table) → length t.sizes ≡ 8 → length (table_bytes t) ≡ file_length t
unfolding table_bytes
length-table_bytes t e =
    simp (length-append, length_record, length-counts_body, length-sizes_body)
    (omega (arith, length-flat_map (λ v. record_bytes 2 (link_body v)) 18 (λ v. simp (length_record, length-link_body)) t.links))

-- "A file has 44 + 18 × n bytes"
pub written_length : (t : Table) → table_refusal t ≡ 0 → length (table_bytes t) ≡ file_length t
written_length t e = length-table_bytes t (is_passing t e).sizes.count

-- ---- the header of a record

pub record HeaderFits (kind len : ℕ) (rest : List ℕ) : Type 0 where
  pub header : 4 ≤ length rest
  pub length_due : number_at 0 2 rest ≡ len
  pub kind_due : number_at 2 2 rest ≡ kind
  pub body : 2 + len ≤ length rest

pub header_fits : (kind len : ℕ) (rest : List ℕ) → NoneMet (header_checks kind len rest) → HeaderFits kind len rest
unfolding header_checks
header_fits kind len rest pass =
    let due = (and-eq-true_iff (eqb (number_at 0 2 rest) len) (eqb (number_at 2 2 rest) kind)).0 (not-false (eqb (number_at 0 2 rest) len && eqb (number_at 2 2 rest) kind) pass.1.0) in
    record {
      header = ltb-false (length rest) 4 pass.0;
      length_due = eqb-true (number_at 0 2 rest) len due.0;
      kind_due = eqb-true (number_at 2 2 rest) kind due.1;
      body = ltb-false (length rest) (2 + len) pass.1.1.0;
    }

pub fits_header : (kind len : ℕ) (rest : List ℕ) → HeaderFits kind len rest → NoneMet (header_checks kind len rest)
unfolding header_checks
fits_header kind len rest fits = (
  le-ltb (length rest) 4 fits.header,
  (rw (eq-eqb (number_at 0 2 rest) len fits.length_due, eq-eqb (number_at 2 2 rest) kind fits.kind_due), (le-ltb (length rest) (2 + len) fits.body, tt)),
)

-- a record that is written has the header that is due
pub record_header : (kind len : ℕ) (body rest : List ℕ) → 2 + length body ≡ len → kind < 65_536 → len < 65_536 → HeaderFits kind len (record_bytes kind body ++ rest)
unfolding record_bytes digits_of
record_header kind len body rest e k l =
    record { header = omega arith; length_due = from_to_bytes 2 (2 + length body) (omega arith) ∙ e; kind_due = from_to_bytes 2 kind k; body = rw length-append (omega arith) }

-- a record that is read, written from its body
pub record_read : (kind len : ℕ) (body tail rest : List ℕ) → 2 + length body ≡ len → AllBytes rest → HeaderFits kind len rest → body ++ tail ≡ drop 4 rest → record_bytes kind body ++ tail ≡ rest
unfolding record_bytes
record_read kind len body tail rest same all fits e =
    let room : 4 ≤ length rest = fits.header in
    let k : to_bytes 2 kind ++ drop 4 rest ≡ drop 2 rest = rw fits.kind_due at (number_bytes 2 2 rest all room) in
    let l : to_bytes 2 len ++ drop 2 rest ≡ rest = rw fits.length_due at (number_bytes 0 2 rest all (omega arith)) in
    simp append_assoc (rw (e, same, k) l)

-- ---- a file that is read, written

counts_read : (file : List ℕ) → AllBytes file → NoneMet (count_record_checks file) → record_bytes 1 (counts_body (number_at 4 2 file) (number_at 6 2 file)) ++ drop 8 file ≡ file
unfolding count_record_checks counts_body
counts_read file all pass =
    let lines = number_at 4 2 file in
    let n = number_at 6 2 file in
    let fits = header_fits 1 6 file (none_front (header_checks 1 6 file) (count_checks lines n) pass) in
    let room : 8 ≤ length file = fits.body in
    record_read 1 6 (counts_body lines n) (drop 8 file) file (rw (length-counts_body lines n)) all fits
    (simp append_assoc (rw (number_bytes 6 2 file all room) (number_bytes 4 2 file all (omega arith))))

link_read_lem : (lines : ℕ) (previous : Option ℕ) (rest : List ℕ) → AllBytes rest → NoneMet (link_record_checks lines previous rest) → record_bytes 2 (link_body (link_read rest)) ++ drop 18 rest ≡ rest
unfolding link_record_checks link_body link_read
link_read_lem lines previous rest all pass =
    let v = link_read rest in
    let zeroByte = check 4 (not (eqb (number_at 9 1 rest) 0)) ∷ link_checks lines previous v in
    let fits = header_fits 2 16 rest (none_front (header_checks 2 16 rest) zeroByte pass) in
    let clear = eqb-true (number_at 9 1 rest) 0 (not-false (eqb (number_at 9 1 rest) 0) (none_back (header_checks 2 16 rest) zeroByte pass).0) in
    let room : 18 ≤ length rest = fits.body in
    let z : to_bytes 1 0 ++ drop 10 rest ≡ drop 9 rest = rw clear at (number_bytes 9 1 rest all (omega arith)) in
    record_read 2 16 (link_body v) (drop 18 rest) rest (rw (length-link_body v)) all fits
    (simp append_assoc (
    rw (
      number_bytes 14 4 rest all room,
      number_bytes 12 2 rest all (omega arith),
      number_bytes 10 2 rest all (omega arith),
      z,
      number_bytes 8 1 rest all (omega arith),
      number_bytes 7 1 rest all (omega arith),
      number_bytes 6 1 rest all (omega arith),
    )
    (number_bytes 4 2 rest all (omega arith))
    ))

sizes_read_lem : (rest : List ℕ) → AllBytes rest → NoneMet (sizes_record_checks rest) → record_bytes 3 (sizes_body (sizes_read rest)) ≡ rest
unfolding sizes_record_checks sizes_body sizes_read
sizes_read_lem rest all pass =
    let sizes = sizes_read rest in
    let front = none_front (header_checks 3 34 rest ++ size_checks sizes) (check 7 (ltb 36 (length rest)) ∷ []) pass in
    let fits = header_fits 3 34 rest (none_front (header_checks 3 34 rest) (size_checks sizes) front) in
    let over = ltb-false 36 (length rest) (none_back (header_checks 3 34 rest ++ size_checks sizes) (check 7 (ltb 36 (length rest)) ∷ []) pass).0 in
    let room : 36 ≤ length rest = fits.body in
    let end : drop 36 rest ≡ [] = drop_of_length-le rest over in
    let whole = record_read 3 34 (sizes_body sizes) (drop 36 rest) rest (rw length-sizes_body) all fits (numbers_bytes 4 rest all 8 (λ p. 4 + 4 * p) (λ p. omega arith) (λ p h. omega arith)) in
    rw (end, append-nil) at whole

all_behind : (n : ℕ) (rest : List ℕ) → AllBytes rest → AllBytes (behind_links n rest)
unfolding behind_links
all_behind zero rest all i h = all i h
all_behind (suc n) rest all i h = all_behind n (drop 18 rest) (all_drop 18 rest all) i h

links_read : (lines n : ℕ) (previous : Option ℕ) (rest : List ℕ) → AllBytes rest → NoneMet (link_records_checks lines n previous rest)
    → flat_map (λ v. record_bytes 2 (link_body v)) (links_in n rest) ++ behind_links n rest ≡ rest
unfolding link_records_checks links_in behind_links flat_map
links_read lines zero previous rest all pass = refl
links_read lines (suc n) previous rest all pass =
    let first = link_record_checks lines previous rest in
    let next = some (link_read rest).number in
    let later = link_records_checks lines n next (drop 18 rest) in
    rw (append_assoc, links_read lines n next (drop 18 rest) (all_drop 18 rest all) (none_back first later pass)) (link_read_lem lines previous rest all (none_front first later pass))

-- a file that is read has the bytes of its table
pub written_read : (file : List ℕ) → AllBytes file → (read_table file).refused ≡ 0 → table_bytes (read_table file).table ≡ file
unfolding table_bytes table_in
written_read file all e =
    let pass = read_none_met file e in
    let parts = file_passes file pass in
    let n = number_at 6 2 file in
    let rest = drop 8 file in
    let All-rest = all_drop 8 file all in
    rw (none_met_read file pass, length_links_in n rest, append_assoc, sizes_read_lem (behind_links n rest) (all_behind n rest All-rest) parts.sizes, links_read (number_at 4 2 file) n none rest All-rest parts.links)
    (counts_read file all parts.counts)
