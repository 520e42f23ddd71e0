-- What links reserve: one of them, and the sum over a table record's, entry by entry; and the lines, one by one.
use mathlib.Core.Path.{◌≡◌, refl, sym, ap, ◌∙◌}
use mathlib.Core.Bool.{Bool}
use mathlib.Core.List.{List, [], ◌∷◌}
use Prim.Native.Nat.{ℕ, zero, suc, ◌+◌, ◌-◌, ◌*◌, ◌%◌, ◌^◌, ◌≤◌, ◌<◌, min}
use native.Mathlib.Numerals.{add-one}
use native.Mathlib.Decide.{ℕ_discrete, dec_le}
use native.Mathlib.Omega.{arith}
use lib.Dec.{eqb, leb}
use borrow.Author.Tests.{eq-eqb, ne_eqb, le-leb, lt-leb}
use lib.ListN.{length, get_or, take, set, replicate, length-set}
use lib.Seq.{take_all, get_or-set_same, get_or-set_other}
use Rattle.model.specs.Basics.{provided, entries, first_met}
use Rattle.model.specs.Units.{line_capacity}
use Rattle.model.specs.Link.{VirtualLink, blank_link, sum_over}
use Rattle.model.specs.Table.{reservation, reserved_on, none_oversold, line_checks}
use Rattle.model.proofs.Checks.{to_all, not_all}
use Rattle.model.proofs.Curves.{provided_zero, provided_le}
use Rattle.table.specs.declared.VirtualLink.{VirtualLink as LinkFields}
use Rattle.table.specs.declared.Table.{Table as TableRecord}
use Rattle.table.specs.View.{view_link, blank_fields, paired, view_links}
use Rattle.table.proofs.Bags.{shifted_few, shifted}
use Rattle.table.proofs.Shape.{Sized, get_d_joined}

-- ---- one link
pub reservation_shifted : (v : LinkFields) (g k : ℕ) → g ≡ v.greatest → g ≤ 65_535 → k ≡ 7 - v.code
    → ((n : ℕ) → g * 2 ^ k % 2 ^ 32 ≡ reservation (view_link n v)) × (g * 2 ^ k % 2 ^ 32 ≤ 8_388_480)
unfolding reservation
reservation_shifted v g k e l f =
    let whole = shifted (2 ^ 32) g k (omega arith) l (omega arith) in
    (λ n. whole ∙ rw (e, f), rw whole (shifted_few g k l (omega arith)))

-- ---- the sum, entry by entry
module _ (set : VirtualLink → Bool) (f : VirtualLink → ℕ) where
  sum_suc : (l : List VirtualLink) (i : ℕ) → i < length l → sum_over set f (take (suc i) l) ≡ sum_over set f (take i l) + provided (set (get_or l i blank_link)) (f (get_or l i blank_link))
  unfolding sum_over
  sum_suc [] i h = absurd (omega arith)
  sum_suc (v ∷ l) zero h = omega arith
  sum_suc (v ∷ l) (suc i) h = omega (arith, sum_suc l i (omega arith))

  pub sum_more : (l : List VirtualLink) (i : ℕ) → i < length l → sum_over set f (take (i + 1) l) ≡ sum_over set f (take i l) + provided (set (get_or l i blank_link)) (f (get_or l i blank_link))
  sum_more l i h = rw add-one (sum_suc l i h)

  -- blanks behind an array that is too short reserve nothing
  sum_entries : f blank_link ≡ 0 → (n : ℕ) (l : List VirtualLink) → sum_over set f (entries blank_link n l) ≡ sum_over set f (take n l)
  unfolding sum_over entries
  sum_entries e zero l = refl
  sum_entries e (suc n) [] =
      let z : provided (set blank_link) (f blank_link) ≡ 0 = rw e (provided_zero (set blank_link)) in
      let none : sum_over set f (entries blank_link n []) ≡ 0 = sum_entries e n [] ∙ ap (sum_over set f) (take_all n [] (omega arith)) in
      omega (arith, z, none)
  sum_entries e (suc n) (v ∷ l) = omega (arith, sum_entries e n l)

length_paired : (numbers : List ℕ) (links : List LinkFields) → length numbers ≡ length links → length (paired numbers links) ≡ length links
unfolding paired
length_paired [] [] e = refl
length_paired [] (v ∷ links) e = absurd (omega arith)
length_paired (n ∷ numbers) [] e = absurd (omega arith)
length_paired (n ∷ numbers) (v ∷ links) e = ap suc (length_paired numbers links (omega arith))

-- ---- the sums, line by line
zeros : (n ℓ : ℕ) → get_or (replicate {A = ℕ} n 0) ℓ 0 ≡ 0
zeros zero ℓ = refl
zeros (suc n) zero = refl
zeros (suc n) (suc ℓ) = zeros n ℓ

nothing_behind : (l : List ℕ) (k : ℕ) → length l ≤ k → get_or l k 0 ≡ 0
nothing_behind [] k h = refl
nothing_behind (x ∷ l) zero h = absurd (omega arith)
nothing_behind (x ∷ l) (suc k) h = nothing_behind l k (omega arith)

-- of the first i rows; behind the array, 0
pub record Summed (t : TableRecord) (sums : List ℕ) (i : ℕ) : Type 0 where
  pub many : length sums ≡ 256
  pub are : (ℓ : ℕ) → get_or sums ℓ 0 ≡ reserved_on (take i (paired t.numbers t.links)) ℓ
  pub most : (ℓ : ℕ) → get_or sums ℓ 0 ≤ 8_388_480 * i

module _ (t : TableRecord) (s : Sized t) where
  abbrev rows : List VirtualLink
  rows = paired t.numbers t.links

  rows_many : length rows ≡ 256
  rows_many = length_paired t.numbers t.links (s.numbers ∙ sym s.links) ∙ s.links

  pub summed_none : Summed t (replicate 256 0) 0
  unfolding reserved_on sum_over
  summed_none = record { many = refl; are = zeros 256; most = λ ℓ. omega (arith, zeros 256 ℓ) }

  module _ {sums : List ℕ} {i : ℕ} (k : Summed t sums i) (h : i < 256) (line more : ℕ) (at : line ≡ (get_or t.links i blank_fields).line) (small : line ≤ 255)
      (is : more ≡ reservation (view_link (get_or t.numbers i 0) (get_or t.links i blank_fields))) (few : more ≤ 8_388_480) where
    row_more : (ℓ : ℕ) → reserved_on (take (i + 1) rows) ℓ ≡ reserved_on (take i rows) ℓ + provided (eqb line ℓ) more
    unfolding reserved_on
    row_more ℓ =
        rw (
          sum_more (λ v. eqb v.line ℓ) reservation rows i (omega (arith, rows_many)),
          get_d_joined t.numbers t.links i (omega (arith, s.numbers)) (omega (arith, s.links)),
          at,
          is,
        )

    changed : (ℓ : ℕ) → get_or (set sums line (get_or sums line 0 + more)) ℓ 0 ≡ get_or sums ℓ 0 + provided (eqb line ℓ) more
    unfolding provided
    changed ℓ =
        elim (ℕ_discrete line ℓ) [
          | yes e ↦ rw (← e, eq-eqb line line refl) (get_or-set_same sums line (get_or sums line 0 + more) 0 (omega (arith, k.many)))
          | no e ↦ rw (ne_eqb line ℓ e) (get_or-set_other sums line ℓ (get_or sums line 0 + more) 0 (λ q. e (sym q)) ∙ omega arith)
        ]

    added_most : (ℓ : ℕ) → provided (eqb line ℓ) more ≤ 8_388_480
    added_most ℓ = omega (arith, provided_le (eqb line ℓ) more)

    pub summed_more : Summed t (set sums line (get_or sums line 0 + more)) (i + 1)
    summed_more =
        record {
          many = length-set sums line (get_or sums line 0 + more) ∙ k.many;
          are = λ ℓ. changed ℓ ∙ rw (row_more ℓ, k.are ℓ);
          most = λ ℓ. omega (arith, changed ℓ, k.most ℓ, added_most ℓ);
        }

  pub summed_all : {sums : List ℕ} {i : ℕ} → Summed t sums i → i ≡ min t.count 256 → (ℓ : ℕ) → get_or sums ℓ 0 ≡ reserved_on (view_links t) ℓ
  unfolding view_links reservation reserved_on
  summed_all {i = i} k e ℓ =
      k.are ℓ ∙ ap (sum_over (λ v. eqb v.line ℓ) reservation) same ∙ sym (sum_entries (λ v. eqb v.line ℓ) reservation refl t.count rows)
    where
      same : take i rows ≡ take t.count rows
      same =
          elim (dec_le t.count 256) [
            | yes h ↦ (let q : i ≡ t.count = omega arith in rw q)
            | no h ↦ take_all i rows (omega (arith, rows_many)) ∙ sym (take_all t.count rows (omega (arith, rows_many)))
          ]

-- ---- the lines

-- those before one are not oversold
abbrev pub CarryTo : List ℕ → ℕ → Type 0
CarryTo sums ℓ = (k : ℕ) → k < ℓ → get_or sums k 0 ≤ line_capacity

pub carry_none : (sums : List ℕ) → CarryTo sums 0
carry_none sums k l = absurd (omega arith)

pub carry_more : (sums : List ℕ) (ℓ : ℕ) → CarryTo sums ℓ → get_or sums ℓ 0 ≤ line_capacity → CarryTo sums (ℓ + 1)
carry_more sums ℓ c h k l = elim (ℕ_discrete k ℓ) [ yes e ↦ rw e h | no e ↦ c k (omega arith) ]

module _ (lines : ℕ) (links : List VirtualLink) (sums : List ℕ) (are : (ℓ : ℕ) → get_or sums ℓ 0 ≡ reserved_on links ℓ) (ℓ : ℕ) where
  pub line_over : ℓ < min lines 256 → line_capacity < get_or sums ℓ 0 → 23 ≡ first_met (line_checks lines links)
  unfolding first_met none_oversold
  line_over l h = rw (not_all (λ k. leb (reserved_on links k) line_capacity) lines ℓ (omega arith) (lt-leb (reserved_on links ℓ) line_capacity (omega (arith, are ℓ))))

  pub lines_end : length sums ≡ 256 → ℓ ≡ min lines 256 → CarryTo sums ℓ → 0 ≡ first_met (line_checks lines links)
  unfolding first_met none_oversold
  lines_end many e c = rw (to_all (λ k. leb (reserved_on links k) line_capacity) lines (λ k l. le-leb (reserved_on links k) line_capacity (omega (arith, are k, each k l))))
    where
      each : (k : ℕ) → k < lines → get_or sums k 0 ≤ line_capacity
      each k l = elim (dec_le 256 k) [ yes h ↦ omega (arith, nothing_behind sums k (omega (arith, many))) | no h ↦ c k (omega arith) ]
