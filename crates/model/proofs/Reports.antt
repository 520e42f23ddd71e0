-- Reports in numbers: five at a time; numbers in bytes: eight at a time.
use mathlib.Core.Path.{◌≡◌, refl, ◌∙◌}
use mathlib.Core.Bool.{Bool, true, false, ◌&&◌}
use mathlib.Core.List.{List, [], ◌∷◌}
use Prim.Native.Nat.{ℕ, ◌+◌, ◌*◌, ◌%◌, ◌≤◌, ◌<◌}
use native.Mathlib.Omega.{arith}
use lib.Dec.{leb}
use borrow.Author.Tests.{le-leb, lt-leb}
use lib.ListN.{length, get_or, drop, length-drop}
use lib.Seq.{get_or-drop, drop-drop}
use Rattle.model.specs.Report.{Report}
use Rattle.model.specs.Batch.{report_of, reports_in, are_reports}

-- the report whose five numbers stand from a place on
abbrev pub report_at : List ℕ → ℕ → Report
report_at l at = report_of (get_or l at 0) (get_or l (at + 1) 0) (get_or l (at + 2) 0) (get_or l (at + 3) 0) (get_or l (at + 4) 0)

-- ---- one report more
first_five : (l : List ℕ) → 5 ≤ length l → (reports_in l ≡ report_at l 0 ∷ reports_in (drop 5 l)) × (are_reports l ≡ (leb (get_or l 0 0) 1 && are_reports (drop 5 l)))
unfolding reports_in are_reports
first_five [] h = absurd (omega arith)
first_five (a ∷ []) h = absurd (omega arith)
first_five (a ∷ b ∷ []) h = absurd (omega arith)
first_five (a ∷ b ∷ c ∷ []) h = absurd (omega arith)
first_five (a ∷ b ∷ c ∷ d ∷ []) h = absurd (omega arith)
first_five (a ∷ b ∷ c ∷ d ∷ e ∷ l) h = (refl, refl)

module _ (l : List ℕ) (i : ℕ) (h : 5 * (i + 1) ≤ length l) where
  five : 5 ≤ length (drop (5 * i) l)
  five = rw length-drop (omega arith)

  behind : drop 5 (drop (5 * i) l) ≡ drop (5 * (i + 1)) l
  behind = let e : 5 * (i + 1) ≡ 5 * i + 5 = omega arith in rw e (drop-drop 5 (5 * i) l)

  pub report_next : reports_in (drop (5 * i) l) ≡ report_at l (5 * i) ∷ reports_in (drop (5 * (i + 1)) l)
  report_next =
      let z : 5 * i + 0 ≡ 5 * i = omega arith in
      (first_five (drop (5 * i) l) five).0 ∙ rw (behind, get_or-drop (5 * i) l 0 0, z, get_or-drop (5 * i) l 1 0, get_or-drop (5 * i) l 2 0, get_or-drop (5 * i) l 3 0, get_or-drop (5 * i) l 4 0)

  pub form_next : are_reports (drop (5 * i) l) ≡ (leb (get_or l (5 * i) 0) 1 && are_reports (drop (5 * (i + 1)) l))
  form_next = let z : 5 * i + 0 ≡ 5 * i = omega arith in (first_five (drop (5 * i) l) five).1 ∙ rw (behind, get_or-drop (5 * i) l 0 0, z)

  pub known_form : get_or l (5 * i) 0 ≤ 1 → are_reports (drop (5 * i) l) ≡ are_reports (drop (5 * (i + 1)) l)
  known_form k = form_next ∙ rw (le-leb (get_or l (5 * i) 0) 1 k)

  pub unknown_form : 1 < get_or l (5 * i) 0 → are_reports (drop (5 * i) l) ≡ false
  unknown_form k = form_next ∙ rw (lt-leb (get_or l (5 * i) 0) 1 k)

-- ---- the end
pub no_report : (l : List ℕ) → length l < 5 → reports_in l ≡ []
unfolding reports_in
no_report [] h = refl
no_report (a ∷ []) h = refl
no_report (a ∷ b ∷ []) h = refl
no_report (a ∷ b ∷ c ∷ []) h = refl
no_report (a ∷ b ∷ c ∷ d ∷ []) h = refl
no_report (a ∷ b ∷ c ∷ d ∷ e ∷ l) h = absurd (omega arith)

pub none_left : (l : List ℕ) → length l ≡ 0 → are_reports l ≡ true
unfolding are_reports
none_left [] h = refl
none_left (x ∷ l) h = absurd (omega arith)

-- "list length not a multiple of 5"
pub odd_length : (l : List ℕ) → (length l % 5 ≡ 0 → ⊥) → are_reports l ≡ false
unfolding are_reports
odd_length [] h = absurd (h refl)
odd_length (a ∷ []) h = refl
odd_length (a ∷ b ∷ []) h = refl
odd_length (a ∷ b ∷ c ∷ []) h = refl
odd_length (a ∷ b ∷ c ∷ d ∷ []) h = refl
odd_length (a ∷ b ∷ c ∷ d ∷ e ∷ l) h = go (leb a 1) (odd_length l (λ z. h (omega arith)))
  where
    go : (x : Bool) → are_reports l ≡ false → (x && are_reports l) ≡ false
    go true q = q
    go false q = refl
