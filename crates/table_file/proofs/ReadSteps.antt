-- Reading a file record by record.
use mathlib.Core.Path.{◌≡◌, refl, sym, ap, ◌∙◌}
use mathlib.Core.Option.{Option, none, some}
use mathlib.Core.List.{List, [], ◌∷◌, ◌++◌, map, map-append}
use Prim.Native.Nat.{ℕ, zero, suc, ◌+◌, ◌-◌, ◌≤◌, ◌<◌}
use native.Mathlib.Omega.{arith}
use borrow.Author.Tests.{not-false}
use lib.ListN.{length, get_or, set, drop, replicate, length-append, length-map}
use Rattle.model.specs.Basics.{entries, first_met}
use Rattle.model.specs.Link.{VirtualLink}
use Rattle.model.specs.Table.{Table, blank_table, counts_in_range, count_checks, line_checks}
use Rattle.model.specs.TableFile.{number_at, header_checks, link_read, sizes_read, Reading, stop_or, read_sizes, read_links, read_table, count_record_checks, link_record_checks, sizes_record_checks}
use Rattle.model.proofs.Entries.{entries_blank, entries_next}
use Rattle.model.proofs.Checks.{NoneMet, none_met, none_back}
use Rattle.model.proofs.TableFacts.{counts_fit}
use Rattle.std.specs.Prelude.{Err}
use Rattle.refusal.specs.declared.Refusal.{Refusal}
use Rattle.refusal.specs.Numbers.{number_of}
use Rattle.table.specs.declared.VirtualLink.{VirtualLink as LinkFields}
use Rattle.table_record_reader.specs.declared.Record.{Record}
use Rattle.table_record_reader.specs.declared.Record.TheVariants.{Counts, Link, Sizes, Refused}
use Rattle.table.specs.Checks.{previous_of}
use Rattle.table.specs.View.{view_link, record_link, blank_fields, view_links, view_table, record_table}
use Rattle.table_record_reader.specs.Records.{Said, saying, link_values, said, said_or, counts_due, link_due, sizes_due, due_at}
use Rattle.table_file.specs.Answers.{Reading as ReadingRecord, reading_of, record_reading}
use Rattle.refusal.proofs.Numbers.{number_not_0}
use Rattle.table.proofs.Refusals.{previous_more}
use Rattle.table.proofs.Shown.{record_shown}
use Rattle.table_record_reader.proofs.Due.{due_counts, due_link, due_sizes}

-- ---- what an answer says of the checks
said_goes : (s next : Said) (n : ℕ) → s ≡ said_or n next → (s.kind ≡ 0 → ⊥) → (n ≡ 0) × (s ≡ next)
unfolding said_or
said_goes s next zero e z = (refl, e)
said_goes s next (suc n) e z = absurd (z (ap (λ (u : Said). u.kind) e))

said_stops : (s next : Said) (n : ℕ) → s ≡ said_or n next → (s.kind ≡ next.kind → ⊥) → (n ≡ 0 → ⊥) × (s.refused ≡ n)
unfolding said_or
said_stops s next zero e z = absurd (z (ap (λ (u : Said). u.kind) e))
said_stops s next (suc n) e z = (λ q. omega arith, ap (λ (u : Said). u.refused) e)

said_kind : (s next : Said) (n : ℕ) → s ≡ said_or n next → (s.kind ≡ 0 → ⊥) → s.kind ≡ next.kind
said_kind s next n e z = ap (λ (u : Said). u.kind) (said_goes s next n e z).1

-- a record that is not of the kind due is of none
kind_none : (k due : ℕ) → ((k ≡ 0 → ⊥) → k ≡ due) → (k ≡ due → ⊥) → k ≡ 0
kind_none zero due f o = refl
kind_none (suc k) due f o = absurd (o (f (λ q. omega arith)))

not_counts : (x : Record) → ((lines n : ℕ) → x ≡ Counts lines n → ⊥) → (said x).kind ≡ 1 → ⊥
unfolding said
not_counts (Counts lines n) o k = o lines n refl
not_counts (Link number v) o k = omega arith
not_counts (Sizes sizes) o k = omega arith
not_counts (Refused r) o k = omega arith

not_link : (x : Record) → ((number : ℕ) (v : LinkFields) → x ≡ Link number v → ⊥) → (said x).kind ≡ 2 → ⊥
unfolding said
not_link (Counts lines n) o k = omega arith
not_link (Link number v) o k = o number v refl
not_link (Sizes sizes) o k = omega arith
not_link (Refused r) o k = omega arith

not_sizes : (x : Record) → ((sizes : List ℕ) → x ≡ Sizes sizes → ⊥) → (said x).kind ≡ 3 → ⊥
unfolding said
not_sizes (Counts lines n) o k = omega arith
not_sizes (Link number v) o k = omega arith
not_sizes (Sizes sizes) o k = o sizes refl
not_sizes (Refused r) o k = omega arith

-- ---- where the reader stops
stop_is : (n : ℕ) (next : Reading) → (n ≡ 0 → ⊥) → stop_or n next ≡ record { refused = n; table = blank_table }
unfolding stop_or
stop_is zero next z = absurd (z refl)
stop_is (suc n) next z = refl

go_is : (n : ℕ) (next : Reading) → n ≡ 0 → stop_or n next ≡ next
unfolding stop_or
go_is zero next e = refl
go_is (suc n) next e = absurd (omega arith)

-- the answer of a record that is not the one due is the reader's
stopped : (r : Reading) (n m : ℕ) (next : Reading) (s due : Said) (a : ReadingRecord) → r ≡ stop_or n next → s ≡ said_or n due → (s.kind ≡ due.kind → ⊥) → m ≡ s.refused →
    a ≡ record { refused = m; table = record_table blank_table } → a ≡ record_reading r
stopped r n m next s due a e q z p f =
    let parts = said_stops s due n q z in
    let k : m ≡ n = p ∙ parts.1 in
    f ∙ rw k (ap record_reading (sym (e ∙ stop_is n next parts.0)))

-- ---- entries that are filled one by one
entries_more : {A B : Type 0} (b : B) (f : A → B) (n : ℕ) (l : List A) (v : A) → length l < n → set (entries b n (map f l)) (length l) (f v) ≡ entries b n (map f (l ++ (v ∷ [])))
entries_more b f n l v h =
    let next = entries_next b n (map f l) (f v) (omega (arith, length-map l f)) in
    (rw (length-map l f) at next) ∙ rw (map-append f l (v ∷ []))

-- ---- the reader on its way
pub record SoFar (file : List ℕ) (lines count : ℕ) (numbers : List ℕ) (links : List LinkFields) (previous : ℕ) (rest : List ℕ) (read : ℕ) : Type 0 where
  pub few : count ≤ 256
  -- the links that were read
  pub found : List VirtualLink
  pub before : length found + 1 ≡ read
  pub within : read ≤ count + 1
  pub numbered : numbers ≡ entries 0 256 (map (λ (v : VirtualLink). v.number) found)
  pub filled : links ≡ entries blank_fields 256 (map record_link found)
  pub left : read_table file ≡ read_links lines (count - length found) (previous_of (read - 1) previous) found rest

-- ---- counts
module _ (file : List ℕ) where
  counts_met : ℕ
  counts_met = first_met (count_record_checks file)

  after_counts : Reading
  after_counts = read_links (number_at 4 2 file) (number_at 6 2 file) none [] (drop 8 file)

  counts_step_lem : read_table file ≡ stop_or counts_met after_counts
  unfolding read_table counts_met after_counts count_record_checks
  counts_step_lem = refl

  counts_said : due_at file 0 0 0 0 ≡ said_or counts_met (saying 1 (number_at 4 2 file ∷ number_at 6 2 file ∷ []))
  unfolding counts_due counts_met count_record_checks
  counts_said = due_counts file 0 0 0 0 refl

  counts_stop : (x : Record) (m : ℕ) (a : ReadingRecord) → said x ≡ due_at file 0 0 0 0 → ((said x).kind ≡ 1 → ⊥) → m ≡ (said x).refused →
      a ≡ record { refused = m; table = record_table blank_table } → a ≡ record_reading (read_table file)
  counts_stop x m a e o p f =
      stopped (read_table file) counts_met m after_counts (said x) (saying 1 (number_at 4 2 file ∷ number_at 6 2 file ∷ [])) a counts_step_lem (e ∙ counts_said) o p f

  counts_kind : (x : Record) → said x ≡ due_at file 0 0 0 0 → ((said x).kind ≡ 0 → ⊥) → (said x).kind ≡ 1
  counts_kind x e z = said_kind (said x) (saying 1 (number_at 4 2 file ∷ number_at 6 2 file ∷ [])) counts_met (e ∙ counts_said) z

  pub counts_refused : (x : Record) (r : Refusal) → said x ≡ due_at file 0 0 0 0 → ((lines n : ℕ) → x ≡ Counts lines n → ⊥) → ((said x).kind ≡ 0 → number_of r ≡ (said x).refused) →
      reading_of (Err r) ≡ record_reading (read_table file)
  counts_refused x r e o q = let z = not_counts x o in counts_stop x (number_of r) (reading_of (Err r)) e z (q (kind_none (said x).kind 1 (counts_kind x e) z)) refl

  counts_pass : counts_met ≡ 0 → NoneMet (header_checks 1 6 file ++ count_checks (number_at 4 2 file) (number_at 6 2 file))
  unfolding counts_met count_record_checks header_checks
  counts_pass z = none_met (count_record_checks file) (omega arith) z

  module _ (x : Record) (lines n : ℕ) (e : said x ≡ due_at file 0 0 0 0) (q : x ≡ Counts lines n) where
    kind_one : (said x).kind ≡ 0 → ⊥
    unfolding said
    kind_one k = let z : ◌≡◌ {A = ℕ} 1 0 = sym (ap (λ (y : Record). (said y).kind) q) ∙ k in omega arith

    counts_parts : (counts_met ≡ 0) × (said x ≡ saying 1 (number_at 4 2 file ∷ number_at 6 2 file ∷ []))
    counts_parts = said_goes (said x) (saying 1 (number_at 4 2 file ∷ number_at 6 2 file ∷ [])) counts_met (e ∙ counts_said) kind_one

    counts_same : lines ∷ n ∷ [] ≡ number_at 4 2 file ∷ number_at 6 2 file ∷ []
    unfolding said
    counts_same = ap (λ (u : Said). u.values) (sym (ap said q) ∙ counts_parts.1)

    lines_are : lines ≡ number_at 4 2 file
    lines_are = ap (λ (l : List ℕ). get_or l 0 0) counts_same

    count_is : n ≡ number_at 6 2 file
    count_is = ap (λ (l : List ℕ). get_or l 1 0) counts_same

    count_few : n ≤ 256
    count_few =
        let met = (none_back (header_checks 1 6 file) (count_checks (number_at 4 2 file) (number_at 6 2 file)) (counts_pass counts_parts.0)).0 in
        rw count_is (counts_fit (number_at 4 2 file) (number_at 6 2 file) (not-false (counts_in_range (number_at 4 2 file) (number_at 6 2 file)) met)).links_most

    start_left : read_table file ≡ read_links lines (n - 0) (previous_of 0 0) [] (drop 8 file)
    unfolding after_counts previous_of
    start_left =
        let k : n - 0 ≡ n = omega arith in
        rw (k, lines_are, count_is) (counts_step_lem ∙ go_is counts_met after_counts counts_parts.0)

    pub counts_go : (blank : LinkFields) → blank ≡ blank_fields → SoFar file lines n (replicate 256 0) (replicate 256 blank) 0 (drop 8 file) 1
    counts_go blank f =
        record {
          few = count_few;
          found = [];
          before = refl;
          within = omega arith;
          numbered = sym (entries_blank 0 256);
          filled = ap (replicate 256) f ∙ sym (entries_blank blank_fields 256);
          left = start_left;
        }

-- ---- a link
abbrev fields_among : List ℕ → LinkFields
fields_among l = record { line = get_or l 1 0; priority = get_or l 2 0; code = get_or l 3 0; least = get_or l 4 0; greatest = get_or l 5 0; jitter = get_or l 6 0 }

module _ (lines : ℕ) (previous : Option ℕ) (rest : List ℕ) where
  link_met : ℕ
  link_met = first_met (link_record_checks lines previous rest)

  link_step_lem : (n : ℕ) (found : List VirtualLink) → read_links lines (suc n) previous found rest
      ≡ stop_or link_met (read_links lines n (some (link_read rest).number) (found ++ (link_read rest ∷ [])) (drop 18 rest))
  unfolding read_links link_met link_record_checks
  link_step_lem n found = refl

  link_said : link_due lines previous rest ≡ said_or link_met (saying 2 (link_values (link_read rest)))
  unfolding link_due link_met link_record_checks
  link_said = refl

  module _ (x : Record) (number : ℕ) (v : LinkFields) (e : said x ≡ link_due lines previous rest) (q : x ≡ Link number v) where
    kind_two : (said x).kind ≡ 0 → ⊥
    unfolding said
    kind_two k = let z : ◌≡◌ {A = ℕ} 2 0 = sym (ap (λ (y : Record). (said y).kind) q) ∙ k in omega arith

    link_parts : (link_met ≡ 0) × (said x ≡ saying 2 (link_values (link_read rest)))
    link_parts = said_goes (said x) (saying 2 (link_values (link_read rest))) link_met (e ∙ link_said) kind_two

    link_same : link_values (view_link number v) ≡ link_values (link_read rest)
    unfolding said
    link_same = ap (λ (u : Said). u.values) (sym (ap said q) ∙ link_parts.1)

    number_is : number ≡ (link_read rest).number
    number_is = ap (λ (l : List ℕ). get_or l 0 0) link_same

    fields_are : v ≡ record_link (link_read rest)
    fields_are = ap fields_among link_same

module _ {file : List ℕ} {lines count : ℕ} {numbers : List ℕ} {links : List LinkFields} {previous : ℕ} {rest : List ℕ} {read : ℕ}
    (s : SoFar file lines count numbers links previous rest read) where
  not_first : read ≡ 0 → ⊥
  not_first q = omega (arith, s.before)

  index : length s.found ≡ read - 1
  index = omega (arith, s.before)

  module _ (x : Record) (e : said x ≡ due_at rest read count lines previous) (h : read ≤ count) where
    said_link : said x ≡ link_due lines (previous_of (read - 1) previous) rest
    said_link = e ∙ due_link rest read count lines previous not_first h

    next_link_lem : read_table file
        ≡ stop_or (link_met lines (previous_of (read - 1) previous) rest)
        (read_links lines (count - read) (some (link_read rest).number) (s.found ++ (link_read rest ∷ [])) (drop 18 rest))
    next_link_lem =
        let k : count - length s.found ≡ suc (count - read) = omega (arith, index) in
        s.left ∙ rw k (link_step_lem lines (previous_of (read - 1) previous) rest (count - read) s.found)

    link_stop : (m : ℕ) (a : ReadingRecord) → ((said x).kind ≡ 2 → ⊥) → m ≡ (said x).refused → a ≡ record { refused = m; table = record_table blank_table } →
        a ≡ record_reading (read_table file)
    link_stop m a o p f =
        stopped (read_table file) (link_met lines (previous_of (read - 1) previous) rest) m _ (said x) (saying 2 (link_values (link_read rest))) a next_link_lem
        (said_link ∙ link_said lines (previous_of (read - 1) previous) rest) o p f

    link_kind : ((said x).kind ≡ 0 → ⊥) → (said x).kind ≡ 2
    link_kind z = said_kind (said x) (saying 2 (link_values (link_read rest))) (link_met lines (previous_of (read - 1) previous) rest) (said_link ∙ link_said lines (previous_of (read - 1) previous) rest) z

    pub link_refused : (r : Refusal) → ((number : ℕ) (v : LinkFields) → x ≡ Link number v → ⊥) → ((said x).kind ≡ 0 → number_of r ≡ (said x).refused) → reading_of (Err r) ≡ record_reading (read_table file)
    link_refused r o q = let z = not_link x o in link_stop (number_of r) (reading_of (Err r)) z (q (kind_none (said x).kind 2 link_kind z)) refl

    module _ (number : ℕ) (v : LinkFields) (q : x ≡ Link number v) where
      number_here : number ≡ (link_read rest).number
      number_here = number_is lines (previous_of (read - 1) previous) rest x number v said_link q

      fields_here : v ≡ record_link (link_read rest)
      fields_here = fields_are lines (previous_of (read - 1) previous) rest x number v said_link q

      passed : link_met lines (previous_of (read - 1) previous) rest ≡ 0
      passed = (link_parts lines (previous_of (read - 1) previous) rest x number v said_link q).0

      further : read_table file ≡ read_links lines (count - read) (some (link_read rest).number) (s.found ++ (link_read rest ∷ [])) (drop 18 rest)
      further = next_link_lem ∙ go_is (link_met lines (previous_of (read - 1) previous) rest) _ passed

      longer : length (s.found ++ (link_read rest ∷ [])) ≡ read
      longer = length-append s.found (link_read rest ∷ []) ∙ s.before

      pub link_go : (i : ℕ) → i ≡ read - 1 → SoFar file lines count (set numbers i number) (set links i v) number (drop 18 rest) (read + 1)
      link_go i at =
          let same : read + 1 - 1 ≡ read - 1 + 1 = omega (arith, s.before) in
          record {
            few = s.few;
            found = s.found ++ (link_read rest ∷ []);
            before = rw longer;
            within = omega arith;
            numbered = rw (at, s.numbered, ← index, number_here) (entries_more 0 (λ (u : VirtualLink). u.number) 256 s.found (link_read rest) (omega (arith, s.few, index)));
            filled = rw (at, s.filled, ← index, fields_here) (entries_more blank_fields record_link 256 s.found (link_read rest) (omega (arith, s.few, index)));
            left = rw (longer, same, previous_more, number_here) further;
          }

  -- ---- sizes
  module _ (h : count < read) where
    sizes_met : ℕ
    sizes_met = first_met (sizes_record_checks rest)

    abbrev sold_met : ℕ
    sold_met = first_met (line_checks lines s.found)

    table_read : Reading
    table_read = record { refused = 0; table = record { lines = lines; links = s.found; sizes = sizes_read rest } }

    all_found : length s.found ≡ count
    all_found = omega (arith, s.before, s.within)

    -- the links that were read are those of the record that holds them
    found_shown : (sizes : List ℕ) → view_links (record { lines = lines; count = count; numbers = numbers; links = links; sizes = sizes }) ≡ s.found
    unfolding view_table record_table
    found_shown sizes =
        let shown : view_links (record_table (record { lines = lines; links = s.found; sizes = sizes })) ≡ s.found =
        ap (λ (t : Table). t.links) (record_shown (record { lines = lines; links = s.found; sizes = sizes }) (omega (arith, all_found, s.few))) in
        rw (← all_found, s.numbered, s.filled) shown

    lines_step : read_table file ≡ stop_or sold_met (stop_or sizes_met table_read)
    unfolding read_links read_sizes sizes_met table_read sizes_record_checks
    lines_step = let k : count - length s.found ≡ 0 = omega (arith, all_found) in s.left ∙ rw k refl

    sold_stop : (o : ℕ) → o ≡ first_met (line_checks lines s.found) → (o ≡ 0 → ⊥) → ◌≡◌ {A = ReadingRecord} (record { refused = o; table = record_table blank_table }) (record_reading (read_table file))
    sold_stop o q z = ap record_reading (sym (lines_step ∙ rw (← q) (stop_is o (stop_or sizes_met table_read) z)))

    -- 23, by what the links reserve that were read
    pub sold_refused : (r : Refusal) (sizes : List ℕ) → number_of r ≡ first_met (line_checks lines (view_links (record { lines = lines; count = count; numbers = numbers; links = links; sizes = sizes }))) →
        reading_of (Err r) ≡ record_reading (read_table file)
    sold_refused r sizes q = sold_stop (number_of r) (q ∙ ap (λ l. first_met (line_checks lines l)) (found_shown sizes)) (number_not_0 r)

    pub none_sold_found : (sizes : List ℕ) → 0 ≡ first_met (line_checks lines (view_links (record { lines = lines; count = count; numbers = numbers; links = links; sizes = sizes }))) → first_met (line_checks lines s.found) ≡ 0
    none_sold_found sizes q = sym (q ∙ ap (λ l. first_met (line_checks lines l)) (found_shown sizes))

    module _ (x : Record) (e : said x ≡ due_at rest read count lines previous) where
      said_sizes : said x ≡ said_or sizes_met (saying 3 (sizes_read rest))
      unfolding sizes_due sizes_met sizes_record_checks
      said_sizes = e ∙ due_sizes rest read count lines previous not_first h

      module _ (none_sold : first_met (line_checks lines s.found) ≡ 0) where
        sizes_step : read_table file ≡ stop_or sizes_met table_read
        sizes_step = lines_step ∙ go_is sold_met (stop_or sizes_met table_read) none_sold

        sizes_stop : (m : ℕ) (a : ReadingRecord) → ((said x).kind ≡ 3 → ⊥) → m ≡ (said x).refused → a ≡ record { refused = m; table = record_table blank_table } → a ≡ record_reading (read_table file)
        sizes_stop m a o p f = stopped (read_table file) sizes_met m table_read (said x) (saying 3 (sizes_read rest)) a sizes_step said_sizes o p f

        pub sizes_refused : (r : Refusal) → ((sizes : List ℕ) → x ≡ Sizes sizes → ⊥) → ((said x).kind ≡ 0 → number_of r ≡ (said x).refused) → reading_of (Err r) ≡ record_reading (read_table file)
        sizes_refused r o q =
            let z = not_sizes x o in
            sizes_stop (number_of r) (reading_of (Err r)) z (q (kind_none (said x).kind 3 (said_kind (said x) (saying 3 (sizes_read rest)) sizes_met said_sizes) z)) refl

        module _ (sizes : List ℕ) (q : x ≡ Sizes sizes) where
          kind_three : (said x).kind ≡ 0 → ⊥
          unfolding said
          kind_three k = let z : ◌≡◌ {A = ℕ} 3 0 = sym (ap (λ (y : Record). (said y).kind) q) ∙ k in omega arith

          sizes_parts : (sizes_met ≡ 0) × (said x ≡ saying 3 (sizes_read rest))
          sizes_parts = said_goes (said x) (saying 3 (sizes_read rest)) sizes_met said_sizes kind_three

          sizes_same : sizes ≡ sizes_read rest
          unfolding said
          sizes_same = ap (λ (u : Said). u.values) (sym (ap said q) ∙ sizes_parts.1)

          pub read_whole : ◌≡◌ {A = ReadingRecord}
              (record { refused = 0; table = record { lines = lines; count = count; numbers = numbers; links = links; sizes = sizes } })
              (record_reading (read_table file))
          unfolding record_table table_read
          read_whole = rw (sizes_step ∙ go_is sizes_met table_read sizes_parts.0, sizes_same, all_found, s.numbered, s.filled)
