-- Lists made of a function.
use mathlib.Core.Path.{◌≡◌, refl, ap}
use mathlib.Core.List.{List, [], ◌∷◌, ◌++◌, append-nil, append_assoc, map, flat_map}
use Prim.Native.Nat.{ℕ, zero, suc, ◌-◌, ◌*◌, ◌<◌}
use native.Mathlib.Omega.{arith}
use lib.ListN.{length, get_or, set, length-append}
use Rattle.model.specs.Basics.{eight, Each, done, also}

-- f 0, .., f (n − 1): at 8 this is eight f
abbrev pub list_to {ℓ} : {A : Type ℓ} → (ℕ → A) → ℕ → List A
list_to f zero = []
list_to f (suc n) = f 0 ∷ list_to (λ i. f (suc i)) n

pub get_d_list_to {ℓ} : {A : Type ℓ} (f : ℕ → A) (n i : ℕ) (d : A) → i < n → get_or (list_to f n) i d ≡ f i
get_d_list_to f zero i d h = absurd (omega arith)
get_d_list_to f (suc n) zero d h = refl
get_d_list_to f (suc n) (suc i) d h = get_d_list_to (λ i. f (suc i)) n i d (omega arith)

pub get_d_eight {ℓ} : {A : Type ℓ} (f : ℕ → A) (i : ℕ) (d : A) → i < 8 → get_or (eight f) i d ≡ f i
get_d_eight f i d h = get_d_list_to f 8 i d h

pub length-flat_map {ℓ κ} : {A : Type ℓ} {B : Type κ} (f : A → List B) (k : ℕ) → ((x : A) → length (f x) ≡ k) → (l : List A) → length (flat_map f l) ≡ k * length l
unfolding flat_map
length-flat_map f k each [] = omega arith
length-flat_map f k each (x ∷ l) = rw length-append (omega (arith, each x, length-flat_map f k each l))

pub each_of_both : {A : Type 0} {P : A → Type 0} {l m : List A} → Each P l → Each P m → Each P (l ++ m)
each_of_both done more = more
each_of_both (also x rest) more = also x (each_of_both rest more)

pub map-set {ℓ κ} : {A : Type ℓ} {B : Type κ} (f : A → B) (l : List A) (i : ℕ) (x : A) → map f (set l i x) ≡ set (map f l) i (f x)
map-set f [] i x = refl
map-set f (y ∷ l) zero x = refl
map-set {B = B} f (y ∷ l) (suc i) x = ap (λ (r : List B). f y ∷ r) (map-set f l i x)

pub flat_map_more : {A : Type 0} {B : Type 0} (f : A → List B) (l : List A) (x : A) → flat_map f (l ++ (x ∷ [])) ≡ flat_map f l ++ f x
unfolding flat_map
flat_map_more f [] x = rw append-nil
flat_map_more f (y ∷ l) x = rw append_assoc (ap (λ r. f y ++ r) (flat_map_more f l x))

-- one place of a list is set, if it is one of the list's
pub set_each : {A : Type 0} (Q : ℕ → A → Type 0) (n : ℕ) (l : List A) (d : A) (i : ℕ) (a : A) → (i < n → Q i a) → ((j : ℕ) → j < n → Q j (get_or l j d)) → (j : ℕ) → j < n → Q j (get_or (set l i a) j d)
set_each Q n [] d i a here each j m = each j m
set_each Q n (x ∷ l) d zero a here each zero m = here m
set_each Q n (x ∷ l) d zero a here each (suc j) m = each (suc j) m
set_each Q n (x ∷ l) d (suc i) a here each zero m = each 0 m
set_each Q n (x ∷ l) d (suc i) a here each (suc j) m = set_each (λ k. Q (suc k)) (n - 1) l d i a (λ o. here (omega arith)) (λ k o. each (suc k) (omega arith)) j (omega arith)
