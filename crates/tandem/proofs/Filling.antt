-- The rows of the next table, put into its record one by one.
use mathlib.Core.Path.{◌≡◌, refl, sym, ap, ◌∙◌}
use mathlib.Core.Bool.{Bool, true, false, ◌&&◌, ◌||◌, not, and-true, and_assoc}
use mathlib.Core.List.{List, [], ◌∷◌, map}
use Prim.Native.Nat.{ℕ, zero, suc, ◌+◌, ◌≤◌, ◌<◌}
use native.Mathlib.Omega.{arith}
use native.Mathlib.Decide.{dec_le}
use lib.Dec.{leb, ltb}
use borrow.Author.Tests.{le-leb, lt-leb, lt-ltb, le-ltb}
use lib.ListN.{length, get_or, take, set, replicate, length-map}
use lib.Seq.{take_all}
use Rattle.model.specs.Basics.{entries, first_met}
use Rattle.model.specs.Link.{VirtualLink, blank_link, link_at}
use Rattle.model.specs.Table.{Table, blank_table, line_checks, table_refusal}
use Rattle.model.specs.Bounds.{hold}
use Rattle.model.specs.NextTable.{next_link, next_links, next_table, jitters_in_range, rows_refusal, next_or}
use Rattle.model.proofs.Entries.{entries_blank, took_more}
use Rattle.model.proofs.TableFacts.{FieldsFit}
use Rattle.model.proofs.Holds.{has_bounds}
use Rattle.model.proofs.BoundFacts.{bound_greatest}
use Rattle.table.specs.declared.VirtualLink.{VirtualLink as LinkFields}
use Rattle.table.specs.declared.Table.{Table as TableRecord}
use Rattle.table.specs.View.{view_link, record_link, blank_fields, view_links, view_table, record_table}
use Rattle.table.proofs.Shape.{count_shown}
use Rattle.table.proofs.Shown.{record_shown}
use Rattle.table.proofs.PassingRecord.{counts_pass, entry_is, entry_fits}
use Rattle.tandem.specs.Answer.{Next as NextRecord}
use Rattle.tandem.specs.Rows.{moved_link, Ready, rows_of}
use Rattle.tandem.proofs.Given.{row_at, next_stops}

-- ---- jitters in range
jitters_more : (rows : List VirtualLink) (i : ℕ) → i < length rows
    → jitters_in_range (take (suc i) rows) ≡ (jitters_in_range (take i rows) && leb (link_at rows i).jitter 125_000)
unfolding jitters_in_range
jitters_more [] i h = absurd (omega arith)
jitters_more (v ∷ rows) zero h = and-true (leb v.jitter 125_000)
jitters_more (v ∷ rows) (suc i) h = rw (jitters_more rows i (omega arith)) (sym (and_assoc (leb v.jitter 125_000) (jitters_in_range (take i rows)) (leb (link_at rows i).jitter 125_000)))

-- too late: not in range
past_is : (a b : ℕ) → ltb b a ≡ not (leb a b)
past_is a b =
    elim (dec_le a b) [
      | yes h ↦ le-ltb b a h ∙ ap not (sym (le-leb a b h))
      | no h ↦ lt-ltb b a (omega arith) ∙ ap not (sym (lt-leb a b (omega arith)))
    ]

either_past : (b c : Bool) → (not b || not c) ≡ not (b && c)
either_past true c = refl
either_past false c = refl

-- ---- the first i rows stand in the arrays; late: one of their jitters is too large
pub record Filled (rows : List VirtualLink) (numbers : List ℕ) (links : List LinkFields) (late : Bool) (i : ℕ) : Type 0 where
  pub numbered : numbers ≡ entries 0 256 (map (λ (v : VirtualLink). v.number) (take i rows))
  pub filled : links ≡ entries blank_fields 256 (map record_link (take i rows))
  pub lateness : late ≡ not (jitters_in_range (take i rows))

pub filled_none : (rows : List VirtualLink) (blank : LinkFields) → blank ≡ blank_fields → Filled rows (replicate 256 0) (replicate 256 blank) false 0
unfolding jitters_in_range
filled_none rows blank e = record { numbered = sym (entries_blank {A = ℕ} 0 256); filled = rw e (sym (entries_blank blank_fields 256)); lateness = refl }

pub filled_more : {rows : List VirtualLink} {numbers : List ℕ} {links : List LinkFields} {late : Bool} {i : ℕ} → Filled rows numbers links late i → i < length rows → i < 256
    → (n : ℕ) → n ≡ (link_at rows i).number → (v : LinkFields) → v ≡ record_link (link_at rows i)
    → Filled rows (set numbers i n) (set links i v) (late || ltb 125_000 v.jitter) (i + 1)
filled_more {rows = rows} {late = late} {i = i} k h m n en v ev =
    let one : i + 1 ≡ suc i = omega arith in
    rw one
    (record {
      numbered = rw (k.numbered, en) (took_more 0 (λ (v : VirtualLink). v.number) 256 rows i blank_link h m);
      filled = rw (k.filled, ev) (took_more blank_fields record_link 256 rows i blank_link h m);
      lateness =
          rw (ev, k.lateness, past_is (link_at rows i).jitter 125_000, jitters_more rows i h)
          (either_past (jitters_in_range (take i rows)) (leb (link_at rows i).jitter 125_000));
    })

-- ---- the rows by the record
module _ (t : TableRecord) (holds : List ℕ) (ready : Ready t holds) (line : ℕ) where
  abbrev pub rows : List VirtualLink
  rows = next_links (view_table t) line

  passes : table_refusal (view_table t) ≡ 0
  passes = (has_bounds (view_table t) ready.passes).table

  pub few : t.count ≤ 256
  few = (counts_pass t passes).links_most

  pub rows_count : length rows ≡ t.count
  unfolding next_links view_table
  rows_count = length-map (view_links t) (next_link (view_table t) line) ∙ count_shown t

  pub hold_small : (p held : ℕ) → p ≤ 7 → held ≡ get_or holds p 0 → held ≤ 65_536
  hold_small p held l e =
      omega (arith, e, ready.are_holds p (omega arith), (bound_greatest (view_table t) ready.passes p (omega arith)).is_hold.most_is)

  module _ (i : ℕ) (h : i < t.count) (v : LinkFields) (e : v ≡ get_or t.links i blank_fields) where
    pub fits : FieldsFit t.lines (view_link (get_or t.numbers i 0) v)
    fits = rw e (entry_fits t passes i h)

    at_place : link_at (view_links t) i ≡ view_link (get_or t.numbers i 0) v
    at_place = rw e (entry_is t passes i h)

    pub hold_given : get_or holds v.priority 0 ≡ hold (view_table t) v.priority
    hold_given = ready.are_holds v.priority (omega (arith, fits.priority_most))

    pub row_is : link_at rows i ≡ next_link (view_table t) line (view_link (get_or t.numbers i 0) v)
    unfolding next_links view_table
    row_is = row_at (view_table t) line (view_links t) i (omega (arith, count_shown t)) ∙ ap (next_link (view_table t) line) at_place

    -- what the link is made into is the fields of its row
    pub row_made : (w : LinkFields) (held : ℕ) → held ≡ get_or holds v.priority 0 → w ≡ moved_link v held line → w ≡ record_link (link_at rows i)
    unfolding next_link
    row_made w held g x = rw (x, g, hold_given, row_is)

    pub row_number : get_or t.numbers i 0 ≡ (link_at rows i).number
    unfolding next_link
    row_number = rw row_is

  module _ (lines : ℕ) (numbers : List ℕ) (links : List LinkFields) (late : Bool) (i : ℕ) (k : Filled rows numbers links late i) (end : i ≡ t.count) where
    all : take i rows ≡ rows
    all = take_all i rows (omega (arith, rows_count))

    pub too_late : late ≡ true → (r : NextRecord) → r ≡ record { refused = 21; table = record_table blank_table } → r ≡ rows_of t line lines
    unfolding rows_refusal first_met next_or
    too_late x r f =
        let past : not (jitters_in_range rows) ≡ true = sym (rw all at k.lateness) ∙ x in
        f ∙ rw past

    made : TableRecord
    made = record { lines = lines; count = t.count; numbers = numbers; links = links; sizes = replicate 8 0 }

    made_is : made ≡ record_table (next_table (view_table t) line lines (replicate 8 0))
    unfolding made record_table
    made_is = rw (rw all at k.numbered, rw all at k.filled, rows_count)

    rows_shown : view_links made ≡ rows
    unfolding view_table
    rows_shown =
        ap view_links made_is ∙ ap (λ (u : Table). u.links) (record_shown (next_table (view_table t) line lines (replicate 8 0)) (omega (arith, rows_count, few)))

    module _ (x : late ≡ false) (o : ℕ) (e : o ≡ first_met (line_checks lines (view_links (record { lines = lines; count = t.count; numbers = numbers; links = links; sizes = replicate 8 0 })))) where
      refusal_is : rows_refusal lines rows ≡ o
      unfolding rows_refusal first_met made
      refusal_is =
          let small : not (jitters_in_range rows) ≡ false = sym (rw all at k.lateness) ∙ x in
          rw (small, e, rows_shown)

      pub oversold : (o ≡ 0 → ⊥) → (r : NextRecord) → r ≡ record { refused = o; table = record_table blank_table } → r ≡ rows_of t line lines
      oversold z r f = f ∙ rw (refusal_is, next_stops (view_table t) line lines o z)

      pub all_filled : o ≡ 0
          → ◌≡◌ {A = NextRecord}
          (record { refused = 0; table = record { lines = lines; count = t.count; numbers = numbers; links = links; sizes = replicate 8 0 } })
          (rows_of t line lines)
      unfolding next_or made
      all_filled z = rw (refusal_is, z, ← made_is)
