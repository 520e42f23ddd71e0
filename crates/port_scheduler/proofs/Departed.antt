-- Three numbers into a list; the list of departures, one more.
use mathlib.Core.Path.{◌≡◌, refl, ◌∙◌}
use mathlib.Core.List.{List, [], ◌∷◌, ◌++◌, append_assoc, flat_map}
use Prim.Native.Nat.{ℕ, suc, ◌+◌, ◌*◌, ◌≤◌}
use native.Mathlib.Omega.{arith}
use lib.ListN.{length, take, drop, set}
use lib.Seq.{sets-eq, take_at, drop_at, drop-drop}
use Rattle.model.specs.Machine.{Departure}
use Rattle.model.specs.Report.{three_numbers}
use Rattle.model.proofs.Lists.{length-flat_map, flat_map_more}

pub three_set : (list : List ℕ) (k a b c : ℕ) → k + 3 ≤ length list → set (set (set list k a) (k + 1) b) (k + 2) c ≡ take k list ++ (a ∷ b ∷ c ∷ drop (k + 3) list)
three_set list k a b c h =
    let one : k + 1 ≡ suc k = omega arith in
    let two : k + 2 ≡ suc (suc k) = omega arith in
    let three = a ∷ b ∷ c ∷ [] in
    rw (one, two) (sets-eq three list k h ∙ append_assoc (take k list) three (drop (k + 3) list))

pub list_more : (ds : List Departure) (d : Departure) (k : ℕ) (list₀ list : List ℕ) → k ≡ length ds → list ≡ flat_map three_numbers ds ++ drop (3 * k) list₀ →
    take (3 * k) list ++ (d.number ∷ d.length ∷ d.freed ∷ drop (3 * k + 3) list) ≡ flat_map three_numbers (ds ++ (d ∷ [])) ++ drop (3 * (k + 1)) list₀
list_more ds d k list₀ list e q =
    let n : length (flat_map three_numbers ds) ≡ 3 * k = omega (arith, length-flat_map three_numbers 3 (λ x. refl) ds) in
    let u : 3 * (k + 1) ≡ 3 * k + 3 = omega arith in
    rw (
      flat_map_more three_numbers ds d,
      append_assoc,
      u,
      ← drop-drop 3 (3 * k) list,
      ← drop-drop 3 (3 * k) list₀,
      q,
      take_at (flat_map three_numbers ds) (drop (3 * k) list₀) (3 * k) n,
      drop_at (flat_map three_numbers ds) (drop (3 * k) list₀) (3 * k) n,
    )
