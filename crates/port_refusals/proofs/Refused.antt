-- The refusals of a report, in the order in which the code tests.
use mathlib.Core.Path.{◌≡◌, sym, ◌∙◌}
use mathlib.Core.Bool.{Bool, true, false, not}
use mathlib.Core.List.{List, [], ◌∷◌}
use Prim.Native.Nat.{ℕ, ◌+◌, ◌*◌, ◌≤◌, ◌<◌}
use native.Mathlib.Omega.{arith}
use lib.Dec.{leb, ltb}
use borrow.Author.Tests.{leb-true, le-leb, lt-leb, lt-ltb, le-ltb}
use lib.ListN.{get_or}
use Rattle.model.specs.Basics.{entries, all_hold, check, first_met}
use Rattle.model.specs.Units.{last_tick, least_length, greatest_length}
use Rattle.model.specs.Port.{line_tick}
use Rattle.model.specs.Report.{Report, wait, frame, tick_of, frame_checks, report_checks, room_check}
use Rattle.model.proofs.Checks.{all_true, first_here, first_later, first_none}
use Rattle.model.proofs.Entries.{get_d_entries}

-- ---- 13 to 15
module _ {r : Report} (lines : ℕ) (ticks : List ℕ) where
  pub no_frame : (time : ℕ) → r ≡ wait time → 0 ≡ first_met (frame_checks lines (entries 0 lines ticks) r)
  unfolding frame_checks first_met
  no_frame time x = rw x

  module _ (time line number len : ℕ) (x : r ≡ frame time line number len) where
    pub no_line : lines ≤ line → 13 ≡ first_met (frame_checks lines (entries 0 lines ticks) r)
    unfolding frame_checks
    no_line h = rw x (sym (first_here _ _ (le-leb lines line h)))

    module _ (h : line < lines) where
      abbrev right : Bool
      right = all_hold (leb least_length len ∷ leb len greatest_length ∷ [])

      pub wrong_length : right ≡ false → 14 ≡ first_met (frame_checks lines (entries 0 lines ticks) r)
      unfolding frame_checks
      wrong_length k = rw x (sym (first_later (check 13 (leb lines line)) _ (lt-leb lines line h) ∙ first_here (check 14 (not right)) _ (rw k)))

      module _ (a : right ≡ true) where
        past_length : first_met (frame_checks lines (entries 0 lines ticks) (frame time line number len)) ≡ first_met (check 15 (ltb time (line_tick (entries 0 lines ticks) line + len)) ∷ [])
        unfolding frame_checks
        past_length = first_later (check 13 (leb lines line)) _ (lt-leb lines line h) ∙ first_later (check 14 (not right)) _ (rw a)

        pub short : len ≤ greatest_length
        short = leb-true len greatest_length (all_true _ a).1.0

        tick_is : line_tick (entries 0 lines ticks) line ≡ get_or ticks line 0
        tick_is = get_d_entries 0 lines ticks line h

        pub overlaps : time < get_or ticks line 0 + len → 15 ≡ first_met (frame_checks lines (entries 0 lines ticks) r)
        overlaps k = rw x (sym (past_length ∙ first_here (check 15 _) _ (lt-ltb time _ (omega (arith, tick_is)))))

        pub in_order : get_or ticks line 0 + len ≤ time → 0 ≡ first_met (frame_checks lines (entries 0 lines ticks) r)
        in_order k = rw x (sym (past_length ∙ first_none (check 15 _ ∷ []) (le-ltb time _ (omega (arith, tick_is)), tt)))

-- ---- 11 to 15
module _ (clock lines : ℕ) (ticks : List ℕ) (r : Report) where
  abbrev answer : ℕ
  answer = first_met (report_checks clock lines (entries 0 lines ticks) r)

  pub too_late : last_tick < tick_of r → 11 ≡ answer
  unfolding report_checks
  too_late h = sym (first_here (check 11 (ltb last_tick (tick_of r))) _ (lt-ltb last_tick (tick_of r) h))

  module _ (a : tick_of r ≤ last_tick) where
    pub too_early : tick_of r < clock → 12 ≡ answer
    unfolding report_checks
    too_early h =
        sym (first_later (check 11 (ltb last_tick (tick_of r))) _ (le-ltb last_tick (tick_of r) a) ∙ first_here (check 12 (ltb (tick_of r) clock)) _ (lt-ltb (tick_of r) clock h))

    pub timely : clock ≤ tick_of r → {n : ℕ} → n ≡ first_met (frame_checks lines (entries 0 lines ticks) r) → n ≡ answer
    unfolding report_checks
    timely b e =
        e
        ∙ sym (first_later (check 11 (ltb last_tick (tick_of r))) _ (le-ltb last_tick (tick_of r) a) ∙ first_later (check 12 (ltb (tick_of r) clock)) _ (le-ltb (tick_of r) clock b))

-- ---- 16
module _ (frames room : ℕ) where
  pub no_room : room < 3 * frames → 16 ≡ first_met (room_check frames room ∷ [])
  no_room h = sym (first_here (room_check frames room) [] (lt-ltb room (3 * frames) h))

  pub roomy : 3 * frames ≤ room → 0 ≡ first_met (room_check frames room ∷ [])
  roomy h = sym (first_none (room_check frames room ∷ []) (le-ltb room (3 * frames) h, tt))
