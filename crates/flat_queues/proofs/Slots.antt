-- Three numbers stored at one slot: the frame there, and every other frame as it was.
use mathlib.Core.Path.{◌≡◌}
use mathlib.Core.Logic.{◌≢◌}
use mathlib.Core.List.{List, [], ◌∷◌, ◌++◌}
use Prim.Native.Nat.{ℕ, ◌+◌, ◌-◌, ◌*◌, ◌≤◌, ◌<◌}
use native.Mathlib.Omega.{arith}
use lib.ListN.{length, get_or, set, take, drop, length-set}
use lib.Seq.{get_or-set_same, get_or-set_other, drop-drop}
use borrow.Rule.Slice.PartMut.{put_mid}
use Rattle.model.specs.Report.{arrived}
use Rattle.flat_queues.specs.View.{frame_at}

abbrev pub put3 : List ℕ → ℕ → ℕ → ℕ → ℕ → List ℕ
put3 l k a b c = set (set (set l k a) (k + 1) b) (k + 2) c

-- as a write to a part leaves them
pub three_put : (l : List ℕ) (k a b c : ℕ) {part : List ℕ} → part ≡ a ∷ b ∷ c ∷ [] → put_mid k (k + 3 - k) l part ≡ take k l ++ (a ∷ b ∷ c ∷ drop (k + 3) l)
three_put l k a b c q = let n : k + 3 - k ≡ 3 = omega arith in rw (n, q, drop-drop 3 k l)

module _ (l : List ℕ) (a b c : ℕ) where
  -- an index that is none of the three
  past : (k j : ℕ) → j ≢ k → j ≢ k + 1 → j ≢ k + 2 → get_or (put3 l k a b c) j 0 ≡ get_or l j 0
  past k j x y z =
      rw (
        get_or-set_other (set (set l k a) (k + 1) b) (k + 2) j c 0 z,
        get_or-set_other (set l k a) (k + 1) j b 0 y,
        get_or-set_other l k j a 0 x,
      )

  pub other : (s k : ℕ) → s ≢ k → frame_at (put3 l (3 * k) a b c) (3 * s) ≡ frame_at l (3 * s)
  other s k h =
      rw (
        past (3 * k) (3 * s) (λ e. h (omega arith)) (λ e. h (omega arith)) (λ e. h (omega arith)),
        past (3 * k) (3 * s + 1) (λ e. h (omega arith)) (λ e. h (omega arith)) (λ e. h (omega arith)),
        past (3 * k) (3 * s + 2) (λ e. h (omega arith)) (λ e. h (omega arith)) (λ e. h (omega arith)),
      )

  pub same : (k : ℕ) → k + 3 ≤ length l → frame_at (put3 l k a b c) k ≡ arrived a b c
  same k h =
      let u : k < length l = omega arith in
      let v : k + 1 < length (set l k a) = rw length-set (omega arith) in
      let w : k + 2 < length (set (set l k a) (k + 1) b) = rw (length-set, length-set) (omega arith) in
      rw (
        get_or-set_other (set (set l k a) (k + 1) b) (k + 2) k c 0 (λ e. omega arith),
        get_or-set_other (set l k a) (k + 1) k b 0 (λ e. omega arith),
        get_or-set_same l k a 0 u,
        get_or-set_other (set (set l k a) (k + 1) b) (k + 2) (k + 1) c 0 (λ e. omega arith),
        get_or-set_same (set l k a) (k + 1) b 0 v,
        get_or-set_same (set (set l k a) (k + 1) b) (k + 2) c 0 w,
      )
