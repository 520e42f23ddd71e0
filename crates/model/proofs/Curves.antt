-- Arrival curves grow with the window; sums over lines and links, for any set of links and any weight.
use mathlib.Core.Path.{◌≡◌, refl}
use mathlib.Core.Bool.{Bool, true, false}
use mathlib.Core.List.{List, [], ◌∷◌, Memᴰ}
use Prim.Native.Nat.{ℕ, zero, suc, ◌+◌, ◌*◌, ◌/◌, ◌≤◌, ◌<◌, max}
use native.Mathlib.Nat.{le_refl, le_trans, le-div_iff_mul-le, div-mul-le_self, mul-le-mul_left, add-le-add}
use native.Mathlib.Omega.{arith}
use Rattle.model.specs.Basics.{provided, sum_to}
use Rattle.model.specs.Units.{occupied}
use Rattle.model.specs.Link.{VirtualLink, bag, any_of, sum_over, greatest_over}
use Rattle.model.specs.Arrival.{frame_curve, on_line, line_curve, arrival_curve}
use Rattle.model.specs.Promises.{Weight, CurveGrows}
use Rattle.model.proofs.Bags.{bag_positive}

pub wire_weight : Weight (λ n. n)
wire_weight = record { grows = λ a b l. l; below = λ a. le_refl a }

pub occupied_weight : Weight occupied
unfolding occupied
occupied_weight = record { grows = λ a b l. omega arith; below = λ a. omega arith }

-- ---- a number where a test holds
pub provided_true : (b : Bool) (x : ℕ) → b ≡ true → provided b x ≡ x
unfolding provided
provided_true b x e = rw e

pub provided_false : (b : Bool) (x : ℕ) → b ≡ false → provided b x ≡ 0
unfolding provided
provided_false b x e = rw e

pub provided_zero : (b : Bool) → provided b 0 ≡ 0
unfolding provided
provided_zero true = refl
provided_zero false = refl

pub provided_le : (b : Bool) (x : ℕ) → provided b x ≤ x
unfolding provided
provided_le true x = omega arith
provided_le false x = omega arith

pub provided_mono : (b : Bool) (x y : ℕ) → x ≤ y → provided b x ≤ provided b y
unfolding provided
provided_mono true x y h = h
provided_mono false x y h = le_refl 0

-- ---- sums
pub sum_to_mono : (f g : ℕ → ℕ) (n : ℕ) → ((k : ℕ) → k < n → f k ≤ g k) → sum_to f n ≤ sum_to g n
unfolding sum_to
sum_to_mono f g zero h = le_refl 0
sum_to_mono f g (suc n) h = omega (arith, sum_to_mono f g n (λ k l. h k (omega arith)), h n (le_refl (suc n)))

pub sum_over_mono : (set : VirtualLink → Bool) (f g : VirtualLink → ℕ) (links : List VirtualLink) → ((v : VirtualLink) → Memᴰ v links → f v ≤ g v)
    → sum_over set f links ≤ sum_over set g links
unfolding sum_over
sum_over_mono set f g [] h = le_refl 0
sum_over_mono set f g (v ∷ links) h =
    add-le-add (provided_mono (set v) _ _ (h v (Memᴰ.head refl))) (sum_over_mono set f g links (λ u m. h u (Memᴰ.tail m)))

pub sum_over_within : (set set' : VirtualLink → Bool) (f : VirtualLink → ℕ) (links : List VirtualLink) → ((v : VirtualLink) → Memᴰ v links → set v ≡ true → set' v ≡ true)
    → sum_over set f links ≤ sum_over set' f links
unfolding sum_over provided
sum_over_within set set' f [] h = le_refl 0
sum_over_within set set' f (v ∷ links) h = go (set v) refl (sum_over_within set set' f links (λ u m. h u (Memᴰ.tail m)))
  where
    go : (x : Bool) → set v ≡ x → sum_over set f links ≤ sum_over set' f links → provided (set v) (f v) + sum_over set f links ≤ provided (set' v) (f v) + sum_over set' f links
    go true e ih = rw (e, h v (Memᴰ.head refl) e) (omega arith)
    go false e ih = rw e (omega arith)

pub sum_over_none : (set : VirtualLink → Bool) (f : VirtualLink → ℕ) (links : List VirtualLink) → any_of set links ≡ false → sum_over set f links ≡ 0
unfolding sum_over any_of provided
sum_over_none set f [] e = refl
sum_over_none set f (v ∷ links) e = go (set v) refl (sum_over_none set f links)
  where
    go : (b : Bool) → set v ≡ b → (any_of set links ≡ false → sum_over set f links ≡ 0) → sum_over set f (v ∷ links) ≡ 0
    go true q ih = absurd (let z : ◌≡◌ {A = ℕ} 0 1 = let y : true ≡ false = rw q at e in cc in omega arith)
    go false q ih = rw q (omega (arith, ih (rw q at e)))

-- ---- the greatest of a set
pub greatest_ge : (set : VirtualLink → Bool) (f : VirtualLink → ℕ) {v : VirtualLink} {links : List VirtualLink} → Memᴰ v links → set v ≡ true
    → f v ≤ greatest_over set f links
unfolding greatest_over provided
greatest_ge set f (Memᴰ.head e) t = rw (← e, t) (omega arith)
greatest_ge set f (Memᴰ.tail m) t = omega (arith, greatest_ge set f m t)

pub greatest_none : (set : VirtualLink → Bool) (f : VirtualLink → ℕ) (links : List VirtualLink) → any_of set links ≡ false → greatest_over set f links ≡ 0
unfolding greatest_over any_of provided
greatest_none set f [] e = refl
greatest_none set f (v ∷ links) e = go (set v) refl (greatest_none set f links)
  where
    go : (b : Bool) → set v ≡ b → (any_of set links ≡ false → greatest_over set f links ≡ 0) → greatest_over set f (v ∷ links) ≡ 0
    go true q ih = absurd (let z : ◌≡◌ {A = ℕ} 0 1 = let y : true ≡ false = rw q at e in cc in omega arith)
    go false q ih = rw q (omega (arith, ih (rw q at e)))

pub greatest_within : (set set' : VirtualLink → Bool) (f : VirtualLink → ℕ) (links : List VirtualLink) → ((v : VirtualLink) → set v ≡ true → set' v ≡ true)
    → greatest_over set f links ≤ greatest_over set' f links
unfolding greatest_over provided
greatest_within set set' f [] h = le_refl 0
greatest_within set set' f (v ∷ links) h = go (set v) refl (greatest_within set set' f links h)
  where
    go : (x : Bool) → set v ≡ x → greatest_over set f links ≤ greatest_over set' f links
        → max (provided (set v) (f v)) (greatest_over set f links) ≤ max (provided (set' v) (f v)) (greatest_over set' f links)
    go true e ih = rw (e, h v e) (omega arith)
    go false e ih = rw e (omega arith)

-- ---- curves
pub div_mono : (b x y : ℕ) → 0 < b → x ≤ y → x / b ≤ y / b
div_mono b x y p h = (le-div_iff_mul-le p).1 (le_trans (div-mul-le_self x b) h)

pub frame_curve_mono : (v : VirtualLink) (w w' : ℕ) → w ≤ w' → frame_curve v w ≤ frame_curve v w'
unfolding frame_curve
frame_curve_mono v w w' h = omega (arith, div_mono (bag v) (w + v.jitter) (w' + v.jitter) (bag_positive v) (omega arith))

pub line_curve_mono : (weight : ℕ → ℕ) (set : VirtualLink → Bool) (links : List VirtualLink) (ℓ w w' : ℕ) → w ≤ w'
    → line_curve weight set links ℓ w ≤ line_curve weight set links ℓ w'
unfolding line_curve
line_curve_mono weight set links ℓ w w' h =
    provided_mono (any_of (on_line set ℓ) links) _ _
    (omega (
      arith,
      sum_over_mono (on_line set ℓ) (λ v. weight v.greatest * frame_curve v w) (λ v. weight v.greatest * frame_curve v w') links
          (λ v m. mul-le-mul_left (weight v.greatest) (frame_curve_mono v w w' h)),
    ))

pub curve_grows : CurveGrows
unfolding arrival_curve
curve_grows weight set lines links w w' h = sum_to_mono _ _ lines (λ ℓ _. line_curve_mono weight set links ℓ w w' h)

-- ---- a set without links
line_none : (set : VirtualLink → Bool) (ℓ : ℕ) (links : List VirtualLink) → any_of set links ≡ false → any_of (on_line set ℓ) links ≡ false
unfolding any_of on_line
line_none set ℓ [] e = refl
line_none set ℓ (v ∷ links) e = go (set v) refl (line_none set ℓ links)
  where
    go : (b : Bool) → set v ≡ b → (any_of set links ≡ false → any_of (on_line set ℓ) links ≡ false) → any_of (on_line set ℓ) (v ∷ links) ≡ false
    go true q ih = absurd (let z : ◌≡◌ {A = ℕ} 0 1 = let y : true ≡ false = rw q at e in cc in omega arith)
    go false q ih = rw q (ih (rw q at e))

pub sum_to_none : (f : ℕ → ℕ) (n : ℕ) → ((k : ℕ) → f k ≡ 0) → sum_to f n ≡ 0
unfolding sum_to
sum_to_none f zero h = refl
sum_to_none f (suc n) h = omega (arith, sum_to_none f n h, h n)

pub curve_none : (weight : ℕ → ℕ) (set : VirtualLink → Bool) (lines : ℕ) (links : List VirtualLink) (w : ℕ) → any_of set links ≡ false → arrival_curve weight set lines links w ≡ 0
unfolding arrival_curve line_curve
curve_none weight set lines links w e = sum_to_none _ lines (λ ℓ. provided_false (any_of (on_line set ℓ) links) _ (line_none set ℓ links e))
