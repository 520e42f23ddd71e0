-- The statements of specs/, each under its name.
use mathlib.Core.Path.{◌≡◌, refl, sym, ◌∙◌}
use Prim.Native.Nat.{ℕ, zero, suc, ◌≤◌}
use native.Mathlib.Nat.{le_refl}
use native.Mathlib.Omega.{arith}
use lib.ListN.{get_or}
use Rattle.std.specs.Prelude.{Ok}
use Rattle.model.specs.Bounds.{hold, bound, window, Sizing, sized_or}
use Rattle.model.proofs.Holds.{has_bounds}
use Rattle.model.proofs.Theorems as model
use Rattle.refusal.specs.Numbers.{number_or_0}
use Rattle.table.specs.View.{view_table}
use Rattle.bounds.specs.Answer.{sizing_of}
use Rattle.bounds.proofs.Answered.{refusal_is}
use Rattle.sensitivity.specs.Promises.{EditsBelowUnseenInAnswers, NoneSmallerInAnswers, NoneRegainedInAnswers}
use Rattle.sensitivity.proofs.Answers.{along, none_of_none, answer_is}

pub edits_below_unseen_in_answers : EditsBelowUnseenInAnswers
unfolding sized_or
edits_below_unseen_in_answers t u b c e f p a q l = go (sizing_of (Ok b)) (sizing_of (Ok c)) (answer_is t (Ok b) e 0 refl) (answer_is u (Ok c) f 0 refl)
  where
    go : (x y : Sizing) → x ≡ sized_or 0 (view_table t) → y ≡ sized_or 0 (view_table u)
        → (get_or x.bounds q 0 ≡ get_or y.bounds q 0) × (get_or x.holds q 0 ≡ get_or y.holds q 0) × (get_or x.windows q 0 ≡ get_or y.windows q 0)
    go x y ex ey =
        let same = model.edits_below_unseen (view_table t) (view_table u)
        (has_bounds (view_table t) (sym (refusal_is t (Ok b) e))).table (has_bounds (view_table u) (sym (refusal_is u (Ok c) f))).table p a q l in
        rw (ex, ey) (
          along (λ m n. m ≡ n) refl 8 (bound (view_table t)) (bound (view_table u)) q (λ k. same.0),
          along (λ m n. m ≡ n) refl 8 (hold (view_table t)) (hold (view_table u)) q (λ k. same.1),
          along (λ m n. m ≡ n) refl 8 (window (view_table t)) (window (view_table u)) q (λ k. same.2),
        )

pub none_smaller_in_answers : NoneSmallerInAnswers
unfolding sized_or
none_smaller_in_answers t u b c e f g p = go (number_or_0 b) refl (sizing_of (Ok c)) (answer_is u (Ok c) f 0 refl)
  where
    at : (n : ℕ) → number_or_0 b ≡ n → (get_or (sized_or n (view_table t)).bounds p 0 ≤ get_or (sized_or 0 (view_table u)).bounds p 0)
        × (get_or (sized_or n (view_table t)).holds p 0 ≤ get_or (sized_or 0 (view_table u)).holds p 0)
    at zero x =
        let more = model.none_smaller (view_table t) (view_table u) g (sym (refusal_is u (Ok c) f)) p in (
          along (λ m n. m ≤ n) (le_refl 0) 8 (bound (view_table t)) (bound (view_table u)) p (λ k. (more k).0),
          along (λ m n. m ≤ n) (le_refl 0) 8 (hold (view_table t)) (hold (view_table u)) p (λ k. (more k).1),
        )
    at (suc n) x = rw (none_of_none 8 p) (omega arith, omega arith)

    go : (n : ℕ) → number_or_0 b ≡ n → (y : Sizing) → y ≡ sized_or 0 (view_table u)
        → (get_or (sizing_of b).bounds p 0 ≤ get_or y.bounds p 0) × (get_or (sizing_of b).holds p 0 ≤ get_or y.holds p 0)
    go n x y ey = rw (answer_is t b e n x, ey) (at n x)

pub none_regained_in_answers : NoneRegainedInAnswers
none_regained_in_answers t u b c e f g passes x =
    refusal_is u c f ∙ model.none_regained (view_table t) (view_table u) g passes (sym (refusal_is t b e) ∙ x)
