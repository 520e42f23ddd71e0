-- A table, and the first check that it meets.
use Rattle.std.specs.Prelude.{Bool, true, false, ◌&&◌, not, List, [], ◌∷◌, ◌++◌, ℕ, ◌-◌, ◌*◌, ◌^◌, eqb, leb, ltb, length, get_or, replicate}
use Rattle.std.proofs.Math.Option.{Option, none, some}
use Rattle.model.specs.Basics.{all_to, all_hold, Check, check, first_met}
use Rattle.model.specs.Units.{least_length, greatest_length, greatest_jitter, line_capacity}
use Rattle.model.specs.Link.{VirtualLink, sum_over}

pub record Table : Type 0 where
  -- the line count
  pub lines : ℕ
  pub links : List VirtualLink
  -- the buffer sizes, priority 0 first
  pub sizes : List ℕ

-- "no table": it meets check 3
abbrev pub blank_table : Table
blank_table = record { lines = 0; links = []; sizes = replicate 8 0 }

abbrev pub size_of : Table → ℕ → ℕ
size_of t p = get_or t.sizes p 0

-- 3: "line count (.. 1 to 24); virtual link count n (.. 1 to 256)"
unfoldable pub counts_in_range : ℕ → ℕ → Bool
counts_in_range lines n = all_hold (leb 1 lines ∷ leb lines 24 ∷ leb 1 n ∷ leb n 256 ∷ [])

abbrev pub count_checks : ℕ → ℕ → List Check
count_checks lines n = check 3 (not (counts_in_range lines n)) ∷ []

-- 4: "field outside range, .. least above greatest"
unfoldable pub fields_in_range : ℕ → VirtualLink → Bool
fields_in_range lines v =
    all_hold (
    leb v.number 65_535
    ∷ ltb v.line lines
    ∷ leb v.priority 7
    ∷ leb v.code 7
    ∷ leb least_length v.least
    ∷ leb v.least v.greatest
    ∷ leb v.greatest greatest_length
    ∷ leb v.jitter greatest_jitter
    ∷ []
    )

-- 5: "number not above the previous"
unfoldable pub not_above : ℕ → Option ℕ → Bool
not_above n none = false
not_above n (some previous) = leb n previous

abbrev pub link_checks : ℕ → Option ℕ → VirtualLink → List Check
link_checks lines previous v = check 4 (not (fields_in_range lines v)) ∷ check 5 (not_above v.number previous) ∷ []

-- for each link 4 and then 5
unfoldable pub links_checks : ℕ → Option ℕ → List VirtualLink → List Check
links_checks lines previous [] = []
links_checks lines previous (v ∷ links) = link_checks lines previous v ++ links_checks lines (some v.number) links

-- "the sum over its links of L × 2^(7 − code)": the bandwidth that they reserve on a line, in wire bytes for each 1,600,000 ticks
unfoldable pub reservation : VirtualLink → ℕ
reservation v = v.greatest * 2 ^ (7 - v.code)

unfoldable pub reserved_on : List VirtualLink → ℕ → ℕ
reserved_on links ℓ = sum_over (λ v. eqb v.line ℓ) reservation links

-- 23: "a line if the sum .. exceeds 1,600,000". Oversold: the paper's word for a line on which more is reserved than it carries
unfoldable pub none_oversold : ℕ → List VirtualLink → Bool
none_oversold lines links = all_to (λ ℓ. leb (reserved_on links ℓ) line_capacity) lines

abbrev pub line_checks : ℕ → List VirtualLink → List Check
line_checks lines links = check 23 (not (none_oversold lines links)) ∷ []

-- 6: "eight buffer sizes, .. 0 to 16,384"
unfoldable pub all_at_most : ℕ → List ℕ → Bool
all_at_most most [] = true
all_at_most most (n ∷ ns) = leb n most && all_at_most most ns

abbrev pub size_checks : List ℕ → List Check
size_checks sizes = check 6 (not (eqb (length sizes) 8 && all_at_most 16_384 sizes)) ∷ []

-- the checks of a table by itself, in the file's order, and the first that it meets: counts (3), links (4, then 5, of each), lines (23),
-- "after the last virtual link's record and before any check of the size record", sizes (6)
unfoldable pub table_checks : Table → List Check
table_checks t =
    count_checks t.lines (length t.links)
    ++ links_checks t.lines none t.links
    ++ line_checks t.lines t.links
    ++ size_checks t.sizes

unfoldable pub table_refusal : Table → ℕ
table_refusal t = first_met (table_checks t)
