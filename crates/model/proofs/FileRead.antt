-- Reading a table file: all its checks as one list, and the table that stands in it.
use mathlib.Core.Path.{◌≡◌, refl, ap, ◌∙◌}
use mathlib.Core.Option.{Option, none, some}
use mathlib.Core.List.{List, [], ◌∷◌, ◌++◌, append_assoc, append-nil}
use Prim.Native.Nat.{ℕ, zero, suc, ◌<◌}
use native.Mathlib.Omega.{arith}
use lib.ListN.{length, drop}
use lib.Seq.{append_snoc}
use Rattle.model.specs.Basics.{Check, first_met, first_refusal}
use Rattle.model.specs.Link.{VirtualLink}
use Rattle.model.specs.Table.{Table, blank_table, link_checks, links_checks, line_checks, table_refusal}
use Rattle.model.specs.TableFile.{number_at, header_checks, link_read, sizes_read, count_record_checks, link_record_checks, sizes_record_checks, Reading, stop_or, read_sizes, read_links, read_table}
use Rattle.model.proofs.Checks.{Numbered, numbered_append, first_append, NoneMet, none_append, none_front, none_back, none_met, first_none}
use Rattle.model.proofs.TableFacts.{parts_unmet}

-- ---- what stands in the bytes

-- the links of n records of kind 2, and the bytes behind those records
unfoldable pub links_in : ℕ → List ℕ → List VirtualLink
links_in zero rest = []
links_in (suc n) rest = link_read rest ∷ links_in n (drop 18 rest)

unfoldable pub behind_links : ℕ → List ℕ → List ℕ
behind_links zero rest = rest
behind_links (suc n) rest = behind_links n (drop 18 rest)

-- the table of a file
unfoldable pub table_in : List ℕ → Table
table_in file =
    let n = number_at 6 2 file in
    record { lines = number_at 4 2 file; links = links_in n (drop 8 file); sizes = sizes_read (behind_links n (drop 8 file)) }

-- ---- the checks of all records

unfoldable pub link_records_checks : ℕ → ℕ → Option ℕ → List ℕ → List Check
link_records_checks lines zero previous rest = []
link_records_checks lines (suc n) previous rest = link_record_checks lines previous rest ++ link_records_checks lines n (some (link_read rest).number) (drop 18 rest)

-- those behind the last link: of the lines, then of the size record
abbrev pub last_checks : ℕ → List VirtualLink → List ℕ → List Check
last_checks lines links rest = line_checks lines links ++ sizes_record_checks rest

unfoldable pub file_checks : List ℕ → List Check
file_checks file =
    let lines = number_at 4 2 file in
    let n = number_at 6 2 file in
    let rest = drop 8 file in
    count_record_checks file ++ (link_records_checks lines n none rest ++ last_checks lines (links_in n rest) (behind_links n rest))

-- ---- none has number 0

count_record_numbered : (file : List ℕ) → Numbered (count_record_checks file)
unfolding count_record_checks header_checks
count_record_numbered file = omega arith

link_record_numbered : (lines : ℕ) (previous : Option ℕ) (rest : List ℕ) → Numbered (link_record_checks lines previous rest)
unfolding link_record_checks header_checks
link_record_numbered lines previous rest = omega arith

sizes_record_numbered : (rest : List ℕ) → Numbered (sizes_record_checks rest)
unfolding sizes_record_checks header_checks
sizes_record_numbered rest = omega arith

link_records_numbered : (lines n : ℕ) (previous : Option ℕ) (rest : List ℕ) → Numbered (link_records_checks lines n previous rest)
unfolding link_records_checks
link_records_numbered lines zero previous rest = tt
link_records_numbered lines (suc n) previous rest =
    let later = some (link_read rest).number in
    numbered_append (link_record_checks lines previous rest) (link_records_checks lines n later (drop 18 rest)) (link_record_numbered lines previous rest) (link_records_numbered lines n later (drop 18 rest))

pub file_numbered : (file : List ℕ) → Numbered (file_checks file)
unfolding file_checks
file_numbered file =
    let lines = number_at 4 2 file in
    let n = number_at 6 2 file in
    let rest = drop 8 file in
    let links = link_records_checks lines n none rest in
    let last = last_checks lines (links_in n rest) (behind_links n rest) in
    numbered_append (count_record_checks file) (links ++ last) (count_record_numbered file)
    (numbered_append links last (link_records_numbered lines n none rest) (omega arith, sizes_record_numbered (behind_links n rest)))

-- ---- the reader is these checks and this table

abbrev read : Table → Reading
read t = record { refused = 0; table = t }

stop_first : (n m : ℕ) (next : Reading) → stop_or n (stop_or m next) ≡ stop_or (first_refusal n m) next
unfolding stop_or first_refusal
stop_first zero m next = refl
stop_first (suc n) m next = refl

stop_append : (a b : List Check) (next : Reading) → Numbered a → stop_or (first_met a) (stop_or (first_met b) next) ≡ stop_or (first_met (a ++ b)) next
stop_append a b next each = rw (first_append a b each) (stop_first (first_met a) (first_met b) next)

links_reading : (lines n : ℕ) (previous : Option ℕ) (links : List VirtualLink) (rest : List ℕ)
    → read_links lines n previous links rest
    ≡ stop_or (first_met (link_records_checks lines n previous rest ++ last_checks lines (links ++ links_in n rest) (behind_links n rest)))
    (read (record { lines = lines; links = links ++ links_in n rest; sizes = sizes_read (behind_links n rest) }))
unfolding read_links read_sizes links_in behind_links link_records_checks link_record_checks sizes_record_checks
links_reading lines zero previous links rest = rw append-nil (stop_append (line_checks lines links) (sizes_record_checks rest) _ (omega arith))
links_reading lines (suc n) previous links rest =
    let v = link_read rest in
    let first = link_record_checks lines previous rest in
    let later = link_records_checks lines n (some v.number) (drop 18 rest) in
    let last = last_checks lines (links ++ (v ∷ links_in n (drop 18 rest))) (behind_links n (drop 18 rest)) in
    rw (links_reading lines n (some v.number) (links ++ (v ∷ [])) (drop 18 rest), append_snoc links v (links_in n (drop 18 rest)), append_assoc first later last)
    (stop_append first (later ++ last) _ (link_record_numbered lines previous rest))

pub reading : (file : List ℕ) → read_table file ≡ stop_or (first_met (file_checks file)) (read (table_in file))
unfolding read_table file_checks table_in count_record_checks
reading file =
    let lines = number_at 4 2 file in
    let n = number_at 6 2 file in
    let rest = drop 8 file in
    rw (links_reading lines n none [] rest)
    (stop_append (count_record_checks file) (link_records_checks lines n none rest ++ last_checks lines (links_in n rest) (behind_links n rest)) _ (count_record_numbered file))

-- ---- what follows for every file

stop_blank : (n : ℕ) (t : Table) → 0 < (stop_or n (read t)).refused → (stop_or n (read t)).table ≡ blank_table
unfolding stop_or
stop_blank zero t h = absurd (omega arith)
stop_blank (suc n) t h = refl

stop_none : (n : ℕ) (t : Table) → (stop_or n (read t)).refused ≡ 0 → n ≡ 0
unfolding stop_or
stop_none zero t e = refl
stop_none (suc n) t e = e

stop_past : (n : ℕ) (next : Reading) → n ≡ 0 → stop_or n next ≡ next
unfolding stop_or
stop_past zero next e = refl
stop_past (suc n) next e = absurd (omega arith)

-- with a refusal there is no table
pub refused_blank : (file : List ℕ) → 0 < (read_table file).refused → (read_table file).table ≡ blank_table
refused_blank file h = rw reading (stop_blank (first_met (file_checks file)) (table_in file) (rw reading at h))

pub read_none_met : (file : List ℕ) → (read_table file).refused ≡ 0 → NoneMet (file_checks file)
read_none_met file e = none_met (file_checks file) (file_numbered file) (stop_none (first_met (file_checks file)) (table_in file) (rw reading at e))

pub none_met_read : (file : List ℕ) → NoneMet (file_checks file) → read_table file ≡ read (table_in file)
none_met_read file pass = reading file ∙ stop_past (first_met (file_checks file)) (read (table_in file)) (first_none (file_checks file) pass)

-- ---- what the checks of a file tell

-- the checks of each record are not met, nor that of the lines
pub record FilePasses (file : List ℕ) : Type 0 where
  pub counts : NoneMet (count_record_checks file)
  pub links : NoneMet (link_records_checks (number_at 4 2 file) (number_at 6 2 file) none (drop 8 file))
  pub lines : NoneMet (line_checks (number_at 4 2 file) (links_in (number_at 6 2 file) (drop 8 file)))
  pub sizes : NoneMet (sizes_record_checks (behind_links (number_at 6 2 file) (drop 8 file)))

pub file_passes : (file : List ℕ) → NoneMet (file_checks file) → FilePasses file
unfolding file_checks
file_passes file pass =
    let n = number_at 6 2 file in
    let counts = count_record_checks file in
    let links = link_records_checks (number_at 4 2 file) n none (drop 8 file) in
    let lines = line_checks (number_at 4 2 file) (links_in n (drop 8 file)) in
    let sizes = sizes_record_checks (behind_links n (drop 8 file)) in
    let back = none_back counts (links ++ (lines ++ sizes)) pass in
    let last = none_back links (lines ++ sizes) back in
    record {
      counts = none_front counts (links ++ (lines ++ sizes)) pass;
      links = none_front links (lines ++ sizes) back;
      lines = none_front lines sizes last;
      sizes = none_back lines sizes last;
    }

pub passes_file : (file : List ℕ) → FilePasses file → NoneMet (file_checks file)
unfolding file_checks
passes_file file p =
    let n = number_at 6 2 file in
    let counts = count_record_checks file in
    let links = link_records_checks (number_at 4 2 file) n none (drop 8 file) in
    let lines = line_checks (number_at 4 2 file) (links_in n (drop 8 file)) in
    let sizes = sizes_record_checks (behind_links n (drop 8 file)) in
    none_append counts (links ++ (lines ++ sizes)) p.counts (none_append links (lines ++ sizes) p.links (none_append lines sizes p.lines p.sizes))

pub length_links_in : (n : ℕ) (rest : List ℕ) → length (links_in n rest) ≡ n
unfolding links_in
length_links_in zero rest = refl
length_links_in (suc n) rest = ap suc (length_links_in n (drop 18 rest))

links_pass : (lines n : ℕ) (previous : Option ℕ) (rest : List ℕ) → NoneMet (link_records_checks lines n previous rest) → NoneMet (links_checks lines previous (links_in n rest))
unfolding link_records_checks link_record_checks header_checks links_checks links_in
links_pass lines zero previous rest pass = tt
links_pass lines (suc n) previous rest pass =
    let v = link_read rest in
    let front = none_front (link_record_checks lines previous rest) (link_records_checks lines n (some v.number) (drop 18 rest)) pass in
    let back = none_back (link_record_checks lines previous rest) (link_records_checks lines n (some v.number) (drop 18 rest)) pass in
    none_append (link_checks lines previous v) (links_checks lines (some v.number) (links_in n (drop 18 rest))) front.1.1.1.1 (links_pass lines n (some v.number) (drop 18 rest) back)

table_passes : (file : List ℕ) → FilePasses file → table_refusal (table_in file) ≡ 0
unfolding table_in count_record_checks sizes_record_checks header_checks
table_passes file p =
    parts_unmet (table_in file) (rw length_links_in p.counts.1.1.1) (links_pass (number_at 4 2 file) (number_at 6 2 file) none (drop 8 file) p.links)
    p.lines (p.sizes.1.1.1.0, tt)

-- a table that is read passes the checks of tables
pub read_passes : (file : List ℕ) → (read_table file).refused ≡ 0 → table_refusal (read_table file).table ≡ 0
read_passes file e =
    let pass = read_none_met file e in
    rw (none_met_read file pass) (table_passes file (file_passes file pass))
