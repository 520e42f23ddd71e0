-- What a reader has taken: entries of w bytes each.
use Rattle.std.proofs.Common.{◌≡◌, ℕ, ◌+◌, ◌*◌, List, drop, take, min, arith, ◌∙◌, ap, drop-drop}
use Rattle.model.specs.TableFile.{number_at, from_bytes}

-- one entry more
pub one_taken : (w i : ℕ) (s rest next : List ℕ) → rest ≡ drop (w * i) s → next ≡ drop w rest → next ≡ drop (w * (i + 1)) s
one_taken w i s rest next stands reads =
    let places : w * i + w ≡ w * (i + 1) = omega arith in
    reads ∙ ap (λ t. drop w t) stands ∙ drop-drop w (w * i) s ∙ ap (λ n. drop n s) places

-- the last entry, how many are given, and n entries
pub all_taken : (w n most : ℕ) (s first given next : List ℕ) → first ≡ drop w s → given ≡ drop 2 first → next ≡ drop (w * n) given → n ≡ min (number_at 0 2 first) most → next ≡ drop (w + 2 + w * min (number_at w 2 s) most) s
all_taken w n most s first given next a b e many =
    let count : n ≡ min (number_at w 2 s) most = many ∙ ap (λ t. min (from_bytes (take 2 t)) most) a in
    let twice : given ≡ drop (w + 2) s = b ∙ ap (λ t. drop 2 t) a ∙ drop-drop 2 w s in
    e ∙ ap (λ t. drop (w * n) t) twice ∙ drop-drop (w * n) (w + 2) s ∙ ap (λ k. drop (w + 2 + w * k) s) count
