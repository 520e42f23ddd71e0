-- 19 and 20: the forms, one after the other; then the room.
use mathlib.Core.Path.{◌≡◌, refl, ◌∙◌}
use mathlib.Core.Bool.{Bool, true, false, ◌&&◌, not}
use mathlib.Core.List.{List, [], ◌∷◌}
use Prim.Native.Nat.{ℕ, ◌+◌, ◌*◌, ◌/◌, ◌%◌, ◌≤◌, ◌<◌}
use native.Mathlib.Omega.{arith}
use lib.Dec.{eqb}
use lib.ListN.{length, get_or, drop, length-drop}
use borrow.Author.Tests.{ltb-false, eq-eqb, ne_eqb, lt-ltb, le-ltb}
use Rattle.model.specs.Basics.{check, first_met}
use Rattle.model.specs.TableFile.{number_at}
use Rattle.model.specs.Batch.{are_reports, answers_check, numbers_in, bytes_refusal}
use Rattle.model.proofs.Checks.{first_zero}
use Rattle.model.proofs.Reports.{known_form, unknown_form, none_left}
use Rattle.report_bytes.proofs.NumberBytes.{numbers_long, form_in}

-- ---- the forms
abbrev good_bytes : List ℕ → Bool
good_bytes reports = eqb (length reports % 40) 0 && are_reports (numbers_in reports)

-- those before report i are known
pub record Looking (reports : List ℕ) (i : ℕ) : Type 0 where
  pub whole : length reports % 40 ≡ 0
  pub known : are_reports (numbers_in reports) ≡ are_reports (drop (5 * i) (numbers_in reports))

module _ (reports : List ℕ) where
  pub odd_bytes : (length reports % 40 ≡ 0 → ⊥) → false ≡ good_bytes reports
  odd_bytes z = rw (ne_eqb (length reports % 40) 0 z)

  pub looks : length reports % 40 ≡ 0 → Looking reports 0
  looks w = record { whole = w; known = refl }

module _ {reports : List ℕ} {i : ℕ} (k : Looking reports i) where
  module _ (h : i < length reports / 40) {form : ℕ} (e : form ≡ number_at (40 * i) 8 reports) where
    there : 5 * (i + 1) ≤ length (numbers_in reports)
    there = rw (numbers_long reports) (omega arith)

    is_form : form ≡ get_or (numbers_in reports) (5 * i) 0
    is_form = e ∙ form_in reports i h

    pub unknown : 1 < form → false ≡ good_bytes reports
    unknown f = rw (eq-eqb (length reports % 40) 0 k.whole, k.known, unknown_form (numbers_in reports) i there (omega (arith, is_form)))

    pub looks_on : form ≤ 1 → Looking reports (i + 1)
    looks_on f = record { whole = k.whole; known = k.known ∙ known_form (numbers_in reports) i there (omega (arith, is_form)) }

  pub all_known : length reports / 40 ≤ i → true ≡ good_bytes reports
  all_known h =
      let none : are_reports (drop (5 * i) (numbers_in reports)) ≡ true = none_left (drop (5 * i) (numbers_in reports)) (rw (length-drop, numbers_long reports) (omega (arith, k.whole))) in
      rw (eq-eqb (length reports % 40) 0 k.whole, k.known, none)

-- ---- the two refusals
module _ (reports : List ℕ) (room : ℕ) {good : Bool} (e : good ≡ good_bytes reports) where
  pub forms_refused : good ≡ false → 19 ≡ bytes_refusal reports room
  unfolding bytes_refusal first_met
  forms_refused z = rw (← e, z)

  module _ (y : good ≡ true) where
    pub room_refused : room / 8 < 3 * (length reports / 40) → 20 ≡ bytes_refusal reports room
    unfolding bytes_refusal first_met
    room_refused s = rw (← e, y, lt-ltb (room / 8) (3 * (length reports / 40)) s)

    pub not_refused : 3 * (length reports / 40) ≤ room / 8 → 0 ≡ bytes_refusal reports room
    unfolding bytes_refusal first_met
    not_refused s = rw (← e, y, le-ltb (room / 8) (3 * (length reports / 40)) s)

-- what is not refused has room for the answers
pub enough_room : (reports : List ℕ) (room : ℕ) → bytes_refusal reports room ≡ 0 → 3 * (length reports / 40) ≤ room / 8
unfolding bytes_refusal
enough_room reports room e =
    let later = (first_zero (check 19 (not (good_bytes reports))) (answers_check (room / 8) (length reports / 40) ∷ []) (omega arith) e).1 in
    ltb-false (room / 8) (3 * (length reports / 40)) (first_zero (answers_check (room / 8) (length reports / 40)) [] (omega arith) later).0
