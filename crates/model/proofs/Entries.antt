-- The first n entries of a list, blank where it has fewer.
use mathlib.Core.Path.{◌≡◌, refl, ap}
use mathlib.Core.List.{List, [], ◌∷◌, ◌++◌, map}
use Prim.Native.Nat.{ℕ, zero, suc, ◌<◌}
use native.Mathlib.Omega.{arith}
use lib.ListN.{length, get_or, take, set, replicate}
use Rattle.model.specs.Basics.{entries}

pub length_entries {ℓ} : {A : Type ℓ} (b : A) (n : ℕ) (l : List A) → length (entries b n l) ≡ n
unfolding entries
length_entries b zero l = refl
length_entries b (suc n) [] = ap suc (length_entries b n [])
length_entries b (suc n) (x ∷ l) = ap suc (length_entries b n l)

pub entries_blank {ℓ} : {A : Type ℓ} (b : A) (n : ℕ) → entries b n [] ≡ replicate n b
unfolding entries
entries_blank b zero = refl
entries_blank {A = A} b (suc n) = ap (λ (l : List A). b ∷ l) (entries_blank b n)

get_d_blank {ℓ} : {A : Type ℓ} (b : A) (n i : ℕ) → get_or (entries b n []) i b ≡ b
unfolding entries
get_d_blank b zero i = refl
get_d_blank b (suc n) zero = refl
get_d_blank b (suc n) (suc i) = get_d_blank b n i

pub get_d_entries {ℓ} : {A : Type ℓ} (b : A) (n : ℕ) (l : List A) (i : ℕ) → i < n → get_or (entries b n l) i b ≡ get_or l i b
unfolding entries
get_d_entries b zero l i h = absurd (omega arith)
get_d_entries b (suc n) [] zero h = refl
get_d_entries b (suc n) [] (suc i) h = get_d_blank b n i
get_d_entries b (suc n) (x ∷ l) zero h = refl
get_d_entries b (suc n) (x ∷ l) (suc i) h = get_d_entries b n l i (omega arith)

-- one entry more
pub entries_next {ℓ} : {A : Type ℓ} (b : A) (n : ℕ) (l : List A) (x : A) → length l < n → set (entries b n l) (length l) x ≡ entries b n (l ++ (x ∷ []))
unfolding entries
entries_next b zero l x h = absurd (omega arith)
entries_next b (suc n) [] x h = refl
entries_next {A = A} b (suc n) (y ∷ l) x h = ap (λ (r : List A). y ∷ r) (entries_next b n l x (omega arith))

-- an entry is set
pub entries_set {ℓ} : {A : Type ℓ} (b : A) (n : ℕ) (l : List A) (i : ℕ) (x : A) → i < length l → entries b n (set l i x) ≡ set (entries b n l) i x
unfolding entries
entries_set b zero l i x h = refl
entries_set b (suc n) [] i x h = absurd (omega arith)
entries_set b (suc n) (y ∷ l) zero x h = refl
entries_set {A = A} b (suc n) (y ∷ l) (suc i) x h = ap (λ (r : List A). y ∷ r) (entries_set b n l i x (omega arith))

-- what was made of the first of a list, with one more
pub took_more : {A B : Type 0} (b : B) (f : A → B) (n : ℕ) (l : List A) (i : ℕ) (d : A) → i < length l → i < n
    → set (entries b n (map f (take i l))) i (f (get_or l i d)) ≡ entries b n (map f (take (suc i) l))
unfolding entries
took_more b f zero l i d h k = absurd (omega arith)
took_more b f (suc n) [] i d h k = absurd (omega arith)
took_more b f (suc n) (x ∷ l) zero d h k = refl
took_more {B = B} b f (suc n) (x ∷ l) (suc i) d h k = ap (λ (r : List B). f x ∷ r) (took_more b f n l i d (omega arith) (omega arith))
