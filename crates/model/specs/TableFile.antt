-- The table file: its bytes, reading, writing.
use Rattle.std.specs.Prelude.{◌&&◌, not, ℕ, zero, suc, ◌+◌, ◌*◌, eqb, ltb, length, take, drop}
use Rattle.std.proofs.Math.Option.{Option, none, some}
use mathlib.Core.List.{List, [], ◌∷◌, ◌++◌, flat_map}
use Rattle.model.specs.Basics.{eight, Check, check, first_met}
use Rattle.model.specs.Digits.{digits_of, from_digits}
use Rattle.model.specs.Link.{VirtualLink}
use Rattle.model.specs.Table.{Table, blank_table, count_checks, link_checks, line_checks, size_checks, table_checks}

-- "little-endian": a number in k bytes, the lowest first; and the number that bytes are
abbrev pub to_bytes : ℕ → ℕ → List ℕ
to_bytes k n = digits_of 256 k n

abbrev pub from_bytes : List ℕ → ℕ
from_bytes bytes = from_digits 256 bytes

-- the number in the k bytes from place i on
abbrev pub number_at : ℕ → ℕ → List ℕ → ℕ
number_at i k bytes = from_bytes (take k (drop i bytes))

-- ---- the bytes of a table

-- "a 2-byte length of all that follows in the record, a 2-byte kind, a body"
unfoldable pub record_bytes : ℕ → List ℕ → List ℕ
record_bytes kind body = to_bytes 2 (2 + length body) ++ to_bytes 2 kind ++ body

-- "Kind 1": line count, virtual link count
unfoldable pub counts_body : ℕ → ℕ → List ℕ
counts_body lines n = to_bytes 2 lines ++ to_bytes 2 n

-- "Kind 2": "number (2), line (1, ..), priority (1, ..), BAG code (1), zero (1), least length (2), greatest length (2), jitter (4, ..)"
unfoldable pub link_body : VirtualLink → List ℕ
link_body v =
    to_bytes 2 v.number
    ++ to_bytes 1 v.line
    ++ to_bytes 1 v.priority
    ++ to_bytes 1 v.code
    ++ to_bytes 1 0
    ++ to_bytes 2 v.least
    ++ to_bytes 2 v.greatest
    ++ to_bytes 4 v.jitter

-- "Kind 3": "eight buffer sizes, 4 bytes each, .. priority 0 first"
unfoldable pub sizes_body : List ℕ → List ℕ
sizes_body sizes = flat_map (to_bytes 4) sizes

unfoldable pub table_bytes : Table → List ℕ
table_bytes t =
    record_bytes 1 (counts_body t.lines (length t.links))
    ++ flat_map (λ v. record_bytes 2 (link_body v)) t.links
    ++ record_bytes 3 (sizes_body t.sizes)

-- ---- reading

-- 1: "each record: fewer than 4 bytes remain"; 2: "then kind or length not the one due"; 1: "then body past the end of the file"
unfoldable pub header_checks : ℕ → ℕ → List ℕ → List Check
header_checks kind len rest =
    check 1 (ltb (length rest) 4)
    ∷ check 2 (not (eqb (number_at 0 2 rest) len && eqb (number_at 2 2 rest) kind))
    ∷ check 1 (ltb (length rest) (2 + len))
    ∷ []

unfoldable pub link_read : List ℕ → VirtualLink
link_read rest =
    record {
      number = number_at 4 2 rest;
      line = number_at 6 1 rest;
      priority = number_at 7 1 rest;
      code = number_at 8 1 rest;
      least = number_at 10 2 rest;
      greatest = number_at 12 2 rest;
      jitter = number_at 14 4 rest;
    }

unfoldable pub sizes_read : List ℕ → List ℕ
sizes_read rest = eight (λ p. number_at (4 + 4 * p) 4 rest)

-- the checks of each record, in the order of the paper's table; rest: "the bytes not yet read"
unfoldable pub count_record_checks : List ℕ → List Check
count_record_checks file = header_checks 1 6 file ++ count_checks (number_at 4 2 file) (number_at 6 2 file)

unfoldable pub link_record_checks : ℕ → Option ℕ → List ℕ → List Check
link_record_checks lines previous rest = header_checks 2 16 rest ++ (check 4 (not (eqb (number_at 9 1 rest) 0)) ∷ link_checks lines previous (link_read rest))

unfoldable pub sizes_record_checks : List ℕ → List Check
sizes_record_checks rest = header_checks 3 34 rest ++ size_checks (sizes_read rest) ++ (check 7 (ltb 36 (length rest)) ∷ [])

pub record Reading : Type 0 where
  -- 0, or the number of the refusal
  pub refused : ℕ
  pub table : Table

-- "or else the reader stops there with the refusal", and with no table
unfoldable pub stop_or : ℕ → Reading → Reading
stop_or zero next = next
stop_or (suc n) next = record { refused = suc n; table = blank_table }

unfoldable pub read_sizes : ℕ → List VirtualLink → List ℕ → Reading
read_sizes lines links rest =
    stop_or (first_met (sizes_record_checks rest))
    (record { refused = 0; table = record { lines = lines; links = links; sizes = sizes_read rest } })

-- n records of kind 2 are left; links: those read. 23 stands behind the last of them
unfoldable pub read_links : ℕ → ℕ → Option ℕ → List VirtualLink → List ℕ → Reading
read_links lines zero previous links rest = stop_or (first_met (line_checks lines links)) (read_sizes lines links rest)
read_links lines (suc n) previous links rest =
    let v = link_read rest in
    let next = read_links lines n (some v.number) (links ++ (v ∷ [])) (drop 18 rest) in
    stop_or (first_met (link_record_checks lines previous rest)) next

unfoldable pub read_table : List ℕ → Reading
read_table file =
    let lines = number_at 4 2 file in
    let n = number_at 6 2 file in
    let next = read_links lines n none [] (drop 8 file) in
    stop_or (first_met (count_record_checks file)) next

-- ---- writing

-- "A file has 44 + 18 × n bytes"
abbrev pub file_length : Table → ℕ
file_length t = 44 + 18 * length t.links

pub record Writing : Type 0 where
  pub refused : ℕ
  -- "The writer's answer is the bytes written, 44 + 18 × n"
  pub written : ℕ
  -- the lent output afterwards
  pub output : List ℕ

unfoldable pub wrote_or : ℕ → Table → List ℕ → Writing
wrote_or zero t output = record { refused = 0; written = file_length t; output = table_bytes t ++ drop (file_length t) output }
wrote_or (suc n) t output = record { refused = suc n; written = 0; output = output }

-- 9: "writer: 3 to 6, then output below 44 + 18 × n", 23 among them; "bytes after them stay"; "A refusal .. writes to no lent buffer"
unfoldable pub write_table : Table → List ℕ → Writing
write_table t output = wrote_or (first_met (table_checks t ++ (check 9 (ltb (length output) (file_length t)) ∷ []))) t output
