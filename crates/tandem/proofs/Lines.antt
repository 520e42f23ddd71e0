-- The refusals of the chosen line and the new line count.
use mathlib.Core.Path.{◌≡◌, sym}
use Prim.Native.Nat.{ℕ, ◌≤◌, ◌<◌}
use native.Mathlib.Omega.{arith}
use borrow.Author.Tests.{not-false, leb-true, leb-false, le-leb, lt-leb}
use Rattle.model.specs.Basics.{all_hold, first_met}
use Rattle.model.proofs.Checks.{all_true, none_met}
use Rattle.model.specs.NextTable.{line_refusal}

module _ (line lines : ℕ) where
  pub line_past : lines ≤ line → 22 ≡ line_refusal line lines
  unfolding line_refusal first_met
  line_past h = rw (le-leb lines line h)

  pub many_lines : line < lines → 24 < lines → 3 ≡ line_refusal line lines
  unfolding line_refusal first_met all_hold
  many_lines h m = rw (lt-leb lines line h, le-leb 1 lines (omega arith), lt-leb lines 24 m)

  pub line_there : line < lines → lines ≤ 24 → 0 ≡ line_refusal line lines
  unfolding line_refusal first_met all_hold
  line_there h m = rw (lt-leb lines line h, le-leb 1 lines (omega arith), le-leb lines 24 m)

  -- where neither is met
  pub line_below : 0 ≡ line_refusal line lines → (line < lines) × (lines ≤ 24)
  unfolding line_refusal
  line_below e =
      let unmet = none_met _ (omega arith) (sym e) in
      (leb-false lines line unmet.0, leb-true lines 24 (all_true _ (not-false _ unmet.1.0)).1.0)
