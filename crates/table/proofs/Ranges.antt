-- The tests of counts, fields and sizes, in the order in which the code makes them.
use mathlib.Core.Path.{◌≡◌, refl}
use mathlib.Core.Bool.{Bool, true, false, ◌&&◌, and-true, and-eq-true_iff}
use mathlib.Core.List.{List, [], ◌∷◌}
use Prim.Native.Nat.{ℕ, zero, suc, ◌+◌, ◌≤◌, ◌<◌}
use native.Mathlib.Numerals.{add-one}
use native.Mathlib.Omega.{arith}
use lib.Dec.{eqb, leb}
use borrow.Author.Tests.{le-leb, lt-leb, lt-ltb, le-ltb}
use lib.ListN.{length, get_or, take}
use lib.Seq.{take_all}
use Rattle.model.specs.Basics.{all_hold, first_met}
use Rattle.model.specs.Units.{least_length, greatest_length}
use Rattle.model.specs.Link.{VirtualLink}
use Rattle.model.specs.Table.{counts_in_range, fields_in_range, all_at_most, size_checks}

-- ---- counts
module _ (lines n : ℕ) where
  pub no_line : lines < 1 → false ≡ counts_in_range lines n
  unfolding counts_in_range all_hold
  no_line a = rw (lt-leb 1 lines a)

  module _ (a : 1 ≤ lines) where
    pub many_lines : 24 < lines → false ≡ counts_in_range lines n
    unfolding counts_in_range all_hold
    many_lines b = rw (le-leb 1 lines a, lt-leb lines 24 b)

    module _ (b : lines ≤ 24) where
      pub no_link : n < 1 → false ≡ counts_in_range lines n
      unfolding counts_in_range all_hold
      no_link d = rw (le-leb 1 lines a, le-leb lines 24 b, lt-leb 1 n d)

      pub links_within : 1 ≤ n → leb n 256 ≡ counts_in_range lines n
      unfolding counts_in_range all_hold
      links_within d = rw (le-leb 1 lines a, le-leb lines 24 b, le-leb 1 n d, and-true)

-- ---- the fields of a link
module _ (lines : ℕ) (v : VirtualLink) (number : v.number ≤ 65_535) where
  pub line_past : lines ≤ v.line → false ≡ fields_in_range lines v
  unfolding fields_in_range all_hold
  line_past a = rw (le-leb v.number 65_535 number, le-ltb v.line lines a)

  module _ (a : v.line < lines) where
    pub priority_past : 7 < v.priority → false ≡ fields_in_range lines v
    unfolding fields_in_range all_hold
    priority_past b = rw (le-leb v.number 65_535 number, lt-ltb v.line lines a, lt-leb v.priority 7 b)

    module _ (b : v.priority ≤ 7) where
      pub code_past : 7 < v.code → false ≡ fields_in_range lines v
      unfolding fields_in_range all_hold
      code_past d = rw (le-leb v.number 65_535 number, lt-ltb v.line lines a, le-leb v.priority 7 b, lt-leb v.code 7 d)

      module _ (d : v.code ≤ 7) where
        pub least_below : v.least < least_length → false ≡ fields_in_range lines v
        unfolding fields_in_range all_hold
        least_below e = rw (le-leb v.number 65_535 number, lt-ltb v.line lines a, le-leb v.priority 7 b, le-leb v.code 7 d, lt-leb least_length v.least e)

        module _ (e : least_length ≤ v.least) where
          pub least_above_greatest : v.greatest < v.least → false ≡ fields_in_range lines v
          unfolding fields_in_range all_hold
          least_above_greatest f =
              rw (le-leb v.number 65_535 number, lt-ltb v.line lines a, le-leb v.priority 7 b, le-leb v.code 7 d, le-leb least_length v.least e, lt-leb v.least v.greatest f)

          module _ (f : v.least ≤ v.greatest) where
            pub greatest_past : greatest_length < v.greatest → false ≡ fields_in_range lines v
            unfolding fields_in_range all_hold
            greatest_past g =
                rw (
                  le-leb v.number 65_535 number,
                  lt-ltb v.line lines a,
                  le-leb v.priority 7 b,
                  le-leb v.code 7 d,
                  le-leb least_length v.least e,
                  le-leb v.least v.greatest f,
                  lt-leb v.greatest greatest_length g,
                )

            pub jitter_within : v.greatest ≤ greatest_length → leb v.jitter 125_000 ≡ fields_in_range lines v
            unfolding fields_in_range all_hold
            jitter_within g =
                rw (
                  le-leb v.number 65_535 number,
                  lt-ltb v.line lines a,
                  le-leb v.priority 7 b,
                  le-leb v.code 7 d,
                  le-leb least_length v.least e,
                  le-leb v.least v.greatest f,
                  le-leb v.greatest greatest_length g,
                  and-true,
                )

-- ---- sizes
at_most_suc : (most : ℕ) (l : List ℕ) (i : ℕ) → all_at_most most (take i l) ≡ true → get_or l i 0 ≤ most → all_at_most most (take (suc i) l) ≡ true
unfolding all_at_most
at_most_suc most [] i e h = refl
at_most_suc most (x ∷ l) zero e h = rw (le-leb x most h)
at_most_suc most (x ∷ l) (suc i) e h =
    let both = (and-eq-true_iff (leb x most) (all_at_most most (take i l))).0 e in
    rw both.0 (at_most_suc most l i both.1 h)

pub at_most_more : (most : ℕ) (l : List ℕ) (i : ℕ) → all_at_most most (take i l) ≡ true → get_or l i 0 ≤ most → all_at_most most (take (i + 1) l) ≡ true
at_most_more most l i e h = rw add-one (at_most_suc most l i e h)

and_fails : (a b : Bool) → b ≡ false → (a && b) ≡ false
and_fails true b e = e
and_fails false b e = refl

one_above : (most : ℕ) (l : List ℕ) (i : ℕ) → most < get_or l i 0 → all_at_most most l ≡ false
unfolding all_at_most
one_above most [] i h = absurd (omega arith)
one_above most (x ∷ l) zero h = rw (lt-leb x most h)
one_above most (x ∷ l) (suc i) h = and_fails (leb x most) (all_at_most most l) (one_above most l i h)

pub size_past : (l : List ℕ) (i : ℕ) → 16_384 < get_or l i 0 → 6 ≡ first_met (size_checks l)
unfolding first_met
size_past l i h = rw (one_above 16_384 l i h, and_fails (eqb (length l) 8) false refl)

sizes_within : (l : List ℕ) → length l ≡ 8 → all_at_most 16_384 l ≡ true → 0 ≡ first_met (size_checks l)
unfolding first_met
sizes_within l n e = rw (n, e)

pub sizes_end : (l : List ℕ) (i : ℕ) → length l ≡ 8 → 8 ≤ i → all_at_most 16_384 (take i l) ≡ true → 0 ≡ first_met (size_checks l)
sizes_end l i n h e = sizes_within l n (rw (take_all i l (omega arith)) at e)
