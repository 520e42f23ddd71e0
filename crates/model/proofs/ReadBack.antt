-- A table that was written is read as it was.
use mathlib.Core.Path.{◌≡◌, refl, sym, ap, ◌∙◌}
use mathlib.Core.Bool.{not}
use mathlib.Core.Option.{Option, none, some}
use mathlib.Core.List.{List, [], ◌∷◌, ◌++◌, flat_map, append_assoc, append-nil}
use Prim.Native.Nat.{ℕ, ◌+◌, ◌*◌, ◌≤◌, ◌<◌}
use native.Mathlib.Omega.{arith}
use lib.Dec.{eqb, ltb}
use borrow.Author.Tests.{not-false, le-ltb}
use lib.ListN.{length, get_or, drop}
use lib.Seq.{ext_get_or, drop-drop}
use Rattle.model.specs.Basics.{check}
use Rattle.model.specs.Link.{VirtualLink}
use Rattle.model.specs.Table.{Table, count_checks, fields_in_range, link_checks, links_checks, size_checks, table_refusal}
use Rattle.model.specs.Digits.{digits_of}
use Rattle.model.specs.TableFile.{number_at, record_bytes, counts_body, link_body, sizes_body, table_bytes, header_checks, link_read, sizes_read, read_table, count_record_checks, link_record_checks, sizes_record_checks}
use Rattle.model.proofs.Lists.{get_d_eight}
use Rattle.model.proofs.Bytes.{from_to_bytes, number_among}
use Rattle.model.proofs.Checks.{NoneMet, none_append, none_front, none_back}
use Rattle.model.proofs.TableFacts.{FieldsFit, fields_fit, SizesFit, sizes_fit, counts_unmet, links_unmet, lines_unmet, sizes_unmet}
use Rattle.model.proofs.Passing.{is_passing}
use Rattle.model.proofs.FileRead.{links_in, behind_links, table_in, link_records_checks, FilePasses, passes_file, none_met_read}
use Rattle.model.proofs.FileWrite.{length_record, length-counts_body, length-link_body, length-sizes_body, HeaderFits, fits_header, record_header}

-- ---- counts

module _ (lines n : ℕ) (rest : List ℕ) where
  lines_back : lines < 65_536 → number_at 4 2 (record_bytes 1 (counts_body lines n) ++ rest) ≡ lines
  unfolding record_bytes counts_body digits_of
  lines_back h = from_to_bytes 2 lines h

  count_back : n < 65_536 → number_at 6 2 (record_bytes 1 (counts_body lines n) ++ rest) ≡ n
  unfolding record_bytes counts_body digits_of
  count_back h = from_to_bytes 2 n h

  behind_counts : drop 8 (record_bytes 1 (counts_body lines n) ++ rest) ≡ rest
  unfolding record_bytes counts_body digits_of
  behind_counts = refl

  counts_back : lines < 65_536 → n < 65_536 → NoneMet (count_checks lines n) → NoneMet (count_record_checks (record_bytes 1 (counts_body lines n) ++ rest))
  unfolding count_record_checks
  counts_back l h pass =
      let bytes = record_bytes 1 (counts_body lines n) ++ rest in
      none_append (header_checks 1 6 bytes) (count_checks (number_at 4 2 bytes) (number_at 6 2 bytes))
      (fits_header 1 6 bytes (record_header 1 6 (counts_body lines n) rest (rw (length-counts_body lines n)) (omega arith) (omega arith)))
      (rw (lines_back l, count_back h) pass)

-- ---- links

module _ (v : VirtualLink) (rest : List ℕ) where
  link_back : (lines : ℕ) → lines ≤ 256 → FieldsFit lines v → link_read (record_bytes 2 (link_body v) ++ rest) ≡ v
  unfolding link_read record_bytes link_body digits_of
  link_back lines h fit = λ i.
      record {
        number = from_to_bytes 2 v.number (omega arith) i;
        line = from_to_bytes 1 v.line (omega arith) i;
        priority = from_to_bytes 1 v.priority (omega arith) i;
        code = from_to_bytes 1 v.code (omega arith) i;
        least = from_to_bytes 2 v.least (omega arith) i;
        greatest = from_to_bytes 2 v.greatest (omega arith) i;
        jitter = from_to_bytes 4 v.jitter (omega arith) i;
      }

  zero_back : number_at 9 1 (record_bytes 2 (link_body v) ++ rest) ≡ 0
  unfolding record_bytes link_body digits_of
  zero_back = from_to_bytes 1 0 (omega arith)

  behind_link : drop 18 (record_bytes 2 (link_body v) ++ rest) ≡ rest
  unfolding record_bytes link_body digits_of
  behind_link = refl

  link_record_back : (lines : ℕ) (previous : Option ℕ) → lines ≤ 256 → NoneMet (link_checks lines previous v) → NoneMet (link_record_checks lines previous (record_bytes 2 (link_body v) ++ rest))
  unfolding link_record_checks
  link_record_back lines previous h pass =
      let bytes = record_bytes 2 (link_body v) ++ rest in
      let fit = fields_fit lines v (not-false (fields_in_range lines v) pass.0) in
      none_append (header_checks 2 16 bytes) (check 4 (not (eqb (number_at 9 1 bytes) 0)) ∷ link_checks lines previous (link_read bytes))
      (fits_header 2 16 bytes (record_header 2 16 (link_body v) rest (rw (length-link_body v)) (omega arith) (omega arith)))
      (rw zero_back, rw (link_back lines h fit) pass)

-- what the reader makes of bytes: these links, then rest
record LinksBack (lines : ℕ) (previous : Option ℕ) (links : List VirtualLink) (bytes rest : List ℕ) : Type 0 where
  links_are : links_in (length links) bytes ≡ links
  behind_is : behind_links (length links) bytes ≡ rest
  pass : NoneMet (link_records_checks lines (length links) previous bytes)

links_back : (lines : ℕ) (previous : Option ℕ) (links : List VirtualLink) (rest : List ℕ) → lines ≤ 256 → NoneMet (links_checks lines previous links)
    → LinksBack lines previous links (flat_map (λ v. record_bytes 2 (link_body v)) links ++ rest) rest
unfolding flat_map links_in behind_links links_checks link_records_checks
links_back lines previous [] rest h pass = record { links_are = refl; behind_is = refl; pass = tt }
links_back lines previous (v ∷ links) rest h pass =
    let later = flat_map (λ v. record_bytes 2 (link_body v)) links ++ rest in
    let bytes = record_bytes 2 (link_body v) ++ later in
    let front = none_front (link_checks lines previous v) (links_checks lines (some v.number) links) pass in
    let fit = fields_fit lines v (not-false (fields_in_range lines v) front.0) in
    let ih = links_back lines (some v.number) links rest h (none_back (link_checks lines previous v) (links_checks lines (some v.number) links) pass) in
    record {
      links_are = rw (append_assoc, link_back v later lines h fit, behind_link v later, ih.links_are);
      behind_is = rw append_assoc (ap (behind_links (length links)) (behind_link v later) ∙ ih.behind_is);
      pass = rw append_assoc (
          none_append (link_record_checks lines previous bytes) (link_records_checks lines (length links) (some (link_read bytes).number) (drop 18 bytes))
          (link_record_back v later lines previous h front)
          (rw (link_back v later lines h fit, behind_link v later) ih.pass)
          );
    }

-- ---- sizes

behind_header : (kind : ℕ) (body : List ℕ) → drop 4 (record_bytes kind body) ≡ body
unfolding record_bytes digits_of
behind_header kind body = refl

size_back : (sizes : List ℕ) (p : ℕ) → p < length sizes → get_or sizes p 0 ≤ 16_384 → number_at (4 + 4 * p) 4 (record_bytes 3 (sizes_body sizes)) ≡ get_or sizes p 0
unfolding sizes_body
size_back sizes p h most = rw (← drop-drop, behind_header) (rw append-nil at (number_among 4 sizes [] p h (omega arith)))

sizes_back : (sizes : List ℕ) → SizesFit sizes → sizes_read (record_bytes 3 (sizes_body sizes)) ≡ sizes
unfolding sizes_read
sizes_back sizes fit =
    let bytes = record_bytes 3 (sizes_body sizes) in
    ext_get_or 0 (sizes_read bytes) sizes (sym fit.count) (λ p h. get_d_eight (λ q. number_at (4 + 4 * q) 4 bytes) p 0 h ∙ size_back sizes p (omega arith) (fit.most p))

sizes_record_back : (sizes : List ℕ) → NoneMet (size_checks sizes) → NoneMet (sizes_record_checks (record_bytes 3 (sizes_body sizes)))
unfolding sizes_record_checks
sizes_record_back sizes pass =
    let bytes = record_bytes 3 (sizes_body sizes) in
    let fit = sizes_fit sizes pass in
    let long : length (sizes_body sizes) ≡ 32 = omega (arith, length-sizes_body sizes) in
    let fits : HeaderFits 3 34 bytes = rw append-nil at (record_header 3 34 (sizes_body sizes) [] (omega arith) (omega arith) (omega arith)) in
    none_append (header_checks 3 34 bytes ++ size_checks (sizes_read bytes)) (check 7 (ltb 36 (length bytes)) ∷ [])
    (none_append (header_checks 3 34 bytes) (size_checks (sizes_read bytes)) (fits_header 3 34 bytes fits) (rw (sizes_back sizes fit) pass))
    (le-ltb 36 (length bytes) (omega (arith, length_record 3 (sizes_body sizes))), tt)

-- ---- the whole

pub read_written : (t : Table) → table_refusal t ≡ 0 → read_table (table_bytes t) ≡ record { refused = 0; table = t }
unfolding table_bytes table_in
read_written t e =
    let p = is_passing t e in
    let fit = p.counts in
    let lines = t.lines in
    let n = length t.links in
    let last = record_bytes 3 (sizes_body t.sizes) in
    let rest = flat_map (λ v. record_bytes 2 (link_body v)) t.links ++ last in
    let file = record_bytes 1 (counts_body lines n) ++ rest in
    let l : number_at 4 2 file ≡ lines = lines_back lines n rest (omega arith) in
    let c : number_at 6 2 file ≡ n = count_back lines n rest (omega arith) in
    let b : drop 8 file ≡ rest = behind_counts lines n rest in
    let links = links_back lines none t.links last (omega arith) (links_unmet t e) in
    let parts : FilePasses file =
    record {
      counts = counts_back lines n rest (omega arith) (omega arith) (counts_unmet t e);
      links = rw (l, c, b) links.pass;
      lines = rw (l, c, b, links.links_are) (lines_unmet t e);
      sizes = rw (c, b, links.behind_is) (sizes_record_back t.sizes (sizes_unmet t e));
    } in
    rw append_assoc (none_met_read file (passes_file file parts) ∙ rw (l, c, b, links.links_are, links.behind_is, sizes_back t.sizes p.sizes))
