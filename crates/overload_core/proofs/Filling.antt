-- Links put into the arrays of a table record one by one.
use mathlib.Core.Path.{◌≡◌, refl, sym, ap, ◌∙◌}
use mathlib.Core.List.{List, [], ◌∷◌, ◌++◌, append-nil, map, map-append}
use Prim.Native.Nat.{ℕ, zero, suc, ◌+◌, ◌≤◌, ◌<◌}
use native.Mathlib.Omega.{arith}
use lib.ListN.{length, get_or, set, take, drop, length-set, length-append, length-map, drop_of_length-le}
use lib.Seq.{drop-cons, append_snoc}
use Rattle.model.specs.Basics.{entries}
use Rattle.model.specs.Link.{VirtualLink, blank_link}
use Rattle.model.specs.Table.{Table, blank_table}
use Rattle.model.specs.OverloadCore.{with_links}
use Rattle.model.proofs.Entries.{entries_next}
use Rattle.table.specs.declared.VirtualLink.{VirtualLink as LinkFields}
use Rattle.table.specs.declared.Table.{Table as TableRecord}
use Rattle.table.specs.View.{view_link, record_link, blank_fields, paired, view_links, view_table, record_table}
use Rattle.table.proofs.Shape.{Sized, count_shown, link_shown}
use Rattle.overload_core.specs.Rows.{Recorded}

-- ---- the arrays have these links, and blank entries behind them
pub record Filled (numbers : List ℕ) (links : List LinkFields) (l : List VirtualLink) : Type 0 where
  pub numbered : numbers ≡ entries 0 256 (map (λ (v : VirtualLink). v.number) l)
  pub filled : links ≡ entries blank_fields 256 (map record_link l)

pub filled_of : (t : Table) (r : TableRecord) → r ≡ record_table t → Filled r.numbers r.links t.links
unfolding record_table
filled_of t r e = record { numbered = ap (λ (u : TableRecord). u.numbers) e; filled = ap (λ (u : TableRecord). u.links) e }

put_behind : {B : Type 0} (b : B) (f : VirtualLink → B) (l : List VirtualLink) (v : VirtualLink) (k : ℕ) → k ≡ length l → k < 256
    → set (entries b 256 (map f l)) k (f v) ≡ entries b 256 (map f (l ++ (v ∷ [])))
put_behind b f l v k e h =
    let n : k ≡ length (map f l) = e ∙ sym (length-map l f) in
    rw (n, map-append f l (v ∷ [])) (entries_next b 256 (map f l) (f v) (omega arith))

pub filled_more : {numbers : List ℕ} {links : List LinkFields} {l : List VirtualLink} → Filled numbers links l → (k : ℕ) → k ≡ length l → k < 256
    → (number : ℕ) (v : LinkFields) → Filled (set numbers k number) (set links k v) (l ++ (view_link number v ∷ []))
filled_more {l = l} f k e h number v =
    record {
      numbered = rw f.numbered (put_behind 0 (λ (u : VirtualLink). u.number) l (view_link number v) k e h);
      filled = rw f.filled (put_behind blank_fields record_link l (view_link number v) k e h);
    }

pub filled_record : (t : Table) (numbers : List ℕ) (links : List LinkFields) (l : List VirtualLink) (k : ℕ) → Filled numbers links l → k ≡ length l
    → ◌≡◌ {A = TableRecord} (record { lines = t.lines; count = k; numbers = numbers; links = links; sizes = t.sizes }) (record_table (with_links t l))
unfolding record_table
filled_record t numbers links l k f e = rw (f.numbered, f.filled, e)

-- ---- none, and one more
pub bare : (t b : TableRecord) → b ≡ record_table blank_table
    → ◌≡◌ {A = TableRecord} (record { lines = t.lines; count = b.count; numbers = b.numbers; links = b.links; sizes = t.sizes }) (record_table (with_links (view_table t) []))
unfolding record_table view_table
bare t b e = rw e

pub one_more : (t : TableRecord) → Recorded t → t.count < 256 → (number : ℕ) (v : LinkFields)
    → ◌≡◌ {A = TableRecord}
    (record { lines = t.lines; count = t.count + 1; numbers = set t.numbers t.count number; links = set t.links t.count v; sizes = t.sizes })
    (record_table (with_links (view_table t) (view_links t ++ (view_link number v ∷ []))))
unfolding view_table
one_more t e h number v =
    filled_record (view_table t) _ _ (view_links t ++ (view_link number v ∷ [])) (t.count + 1)
    (filled_more (filled_of (view_table t) t e) t.count (sym (count_shown t)) h number v) (rw length-append (omega (arith, count_shown t)))

-- ---- the first of one table, and behind them those of another from a place on

-- what arrays with a count show
abbrev pub shown_by : ℕ → List ℕ → List LinkFields → List VirtualLink
shown_by count numbers links = entries blank_link count (paired numbers links)

shown_more : (k : ℕ) (numbers : List ℕ) (links : List LinkFields) (n : ℕ) (v : LinkFields) → k < length numbers → k < length links
    → shown_by (suc k) (set numbers k n) (set links k v) ≡ shown_by k numbers links ++ (view_link n v ∷ [])
unfolding entries paired
shown_more k [] links n v h l = absurd (omega arith)
shown_more k (m ∷ numbers) [] n v h l = absurd (omega arith)
shown_more zero (m ∷ numbers) (u ∷ links) n v h l = refl
shown_more (suc k) (m ∷ numbers) (u ∷ links) n v h l = ap (λ (r : List VirtualLink). view_link m u ∷ r) (shown_more k numbers links n v (omega arith) (omega arith))

take_entries : (k n : ℕ) (l : List VirtualLink) → k ≤ n → take k (entries blank_link n l) ≡ entries blank_link k l
unfolding entries
take_entries zero n l h = refl
take_entries (suc k) zero l h = absurd (omega arith)
take_entries (suc k) (suc n) [] h = ap (λ (r : List VirtualLink). blank_link ∷ r) (take_entries k n [] (omega arith))
take_entries (suc k) (suc n) (v ∷ l) h = ap (λ (r : List VirtualLink). v ∷ r) (take_entries k n l (omega arith))

-- what the arrays show now, and the table's links from i on, are all that is to stand there
pub record Joined (t : TableRecord) (all : List VirtualLink) (numbers : List ℕ) (links : List LinkFields) (k i : ℕ) : Type 0 where
  pub numbers_many : length numbers ≡ 256
  pub links_many : length links ≡ 256
  pub to_come : shown_by k numbers links ++ drop i (view_links t) ≡ all

module _ (t : TableRecord) where
  pub joined_start : (front : TableRecord) → Sized front → (k from : ℕ)
      → Joined t (shown_by k front.numbers front.links ++ drop from (view_links t)) front.numbers front.links k from
  joined_start front s k from = record { numbers_many = s.numbers; links_many = s.links; to_come = refl }

  pub joined_more : {all : List VirtualLink} {numbers : List ℕ} {links : List LinkFields} {k i : ℕ} → Joined t all numbers links k i → Sized t → i < t.count → t.count ≤ 256 → k < 256
      → Joined t all (set numbers k (get_or t.numbers i 0)) (set links k (get_or t.links i blank_fields)) (k + 1) (i + 1)
  joined_more {numbers = numbers} {links = links} {k = k} {i = i} j s h few l =
      let n : ℕ = get_or t.numbers i 0 in
      let v : LinkFields = get_or t.links i blank_fields in
      let k+1 : k + 1 ≡ suc k = omega arith in
      let i+1 : i + 1 ≡ suc i = omega arith in
      let next : drop i (view_links t) ≡ view_link n v ∷ drop (suc i) (view_links t) =
      drop-cons (view_links t) i blank_link (omega (arith, count_shown t)) ∙ rw (link_shown t i s h few) in
      record {
        numbers_many = length-set numbers k n ∙ j.numbers_many;
        links_many = length-set links k v ∙ j.links_many;
        to_come =
            rw (k+1, i+1, shown_more k numbers links n v (omega (arith, j.numbers_many)) (omega (arith, j.links_many)), append_snoc (shown_by k numbers links) (view_link n v) (drop (suc i) (view_links t)), ← next)
            j.to_come;
      }

  pub joined_end : (front : TableRecord) (m from : ℕ) → m ≤ front.count → {numbers : List ℕ} {links : List LinkFields} {k i : ℕ}
      → Joined t (shown_by m front.numbers front.links ++ drop from (view_links t)) numbers links k i → t.count ≤ i
      → view_table (record { lines = t.lines; count = k; numbers = numbers; links = links; sizes = t.sizes }) ≡ with_links (view_table t) (take m (view_links front) ++ drop from (view_links t))
  unfolding view_table view_links
  joined_end front m from l {numbers = numbers} {links = links} {k = k} {i = i} j h =
      let none_left : drop i (view_links t) ≡ [] = drop_of_length-le (view_links t) {i = i} (omega (arith, count_shown t)) in
      let whole : shown_by k numbers links ≡ shown_by m front.numbers front.links ++ drop from (view_links t) =
      sym (append-nil (shown_by k numbers links)) ∙ ap (λ (r : List VirtualLink). shown_by k numbers links ++ r) (sym none_left) ∙ j.to_come in
      rw (whole, take_entries m front.count (paired front.numbers front.links) l)
