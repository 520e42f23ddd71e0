-- A queue that is fit: its frames name links of its priority within their limits, in the order of their arrival.
use mathlib.Core.Path.{◌≡◌, refl}
use mathlib.Core.Bool.{true}
use mathlib.Core.Option.{Option, none, some}
use mathlib.Core.List.{List, [], ◌∷◌, ◌++◌}
use Prim.Native.Nat.{ℕ, ◌*◌, ◌≤◌}
use native.Mathlib.Nat.{le_trans}
use native.Mathlib.Omega.{arith}
use borrow.Author.Tests.{leb-true, le-leb}
use lib.ListN.{length, drop}
use Rattle.model.specs.Basics.{Each, done, also}
use Rattle.model.specs.Units.{occupied}
use Rattle.model.specs.Link.{link_at, place_of}
use Rattle.model.specs.Table.{Table}
use Rattle.model.specs.Bounds.{of_priority, longest}
use Rattle.model.specs.Machine.{Frame, bytes, held}
use Rattle.model.specs.Fitness.{names_link, frames_fit}
use Rattle.model.proofs.Checks.{all_true, true_all}
use Rattle.model.proofs.Curves.{occupied_weight, greatest_ge}
use Rattle.model.proofs.Gate.{mem_at}
use Rattle.model.proofs.BusyPeriod.{Meets}
use Rattle.model.proofs.Stepping.{Placed, placed}
use Rattle.model.proofs.Passing.{Passing}

pub data Lined (t : Table) (q c : ℕ) : ℕ → List Frame → Type 0 where
  over : {low : ℕ} → Lined t q c low []
  next : {low : ℕ} {f : Frame} {l : List Frame} → names_link t q f.length (place_of f.number t.links) ≡ true → low ≤ f.arrival → f.arrival ≤ c
      → Lined t q c f.arrival l → Lined t q c low (f ∷ l)

pub lined_low : (t : Table) (q c low low' : ℕ) (l : List Frame) → low' ≤ low → Lined t q c low l → Lined t q c low' l
lined_low t q c low low' [] k over = over
lined_low t q c low low' (f ∷ l) k (next n a b r) = next {low = low'} {f = f} n (omega arith) b r

pub lined_later : (t : Table) (q c c' low : ℕ) (l : List Frame) → c ≤ c' → Lined t q c low l → Lined t q c' low l
lined_later t q c c' low [] k over = over
lined_later t q c c' low (f ∷ l) k (next n a b r) = next {low = low} {f = f} n a (omega arith) (lined_later t q c c' f.arrival l k r)

pub lined_tail : (t : Table) (q c : ℕ) (l : List Frame) → Lined t q c 0 l → Lined t q c 0 (drop 1 l)
lined_tail t q c [] over = over
lined_tail t q c (f ∷ l) (next n a b r) = lined_low t q c f.arrival 0 l (omega arith) r

pub lined_last : (t : Table) (q c low : ℕ) (l : List Frame) (g : Frame) → low ≤ c → names_link t q g.length (place_of g.number t.links) ≡ true → g.arrival ≡ c
    → Lined t q c low l → Lined t q c low (l ++ (g ∷ []))
lined_last t q c low [] g k m e over = next {low = low} {f = g} m (omega arith) (omega arith) over
lined_last t q c low (f ∷ l) g k m e (next n a b r) = next {f = f} n a b (lined_last t q c f.arrival l g b m e r)

-- ---- the test
pub lined_fit : (t : Table) (q c low : ℕ) (l : List Frame) → Lined t q c low l → frames_fit t q c low l ≡ true
unfolding frames_fit
lined_fit t q c low [] over = refl
lined_fit t q c low (f ∷ l) (next n a b r) =
    true_all _ (n, (le-leb low f.arrival a, (le-leb f.arrival c b, (lined_fit t q c f.arrival l r, tt))))

pub fit_lined : (t : Table) (q c low : ℕ) (l : List Frame) → frames_fit t q c low l ≡ true → Lined t q c low l
unfolding frames_fit
fit_lined t q c low [] e = over
fit_lined t q c low (f ∷ l) e =
    let all = all_true _ e in
    next {low = low} {f = f} all.0 (leb-true low f.arrival all.1.0) (leb-true f.arrival c all.1.1.0) (fit_lined t q c f.arrival l all.1.1.1.0)

-- ---- what its name tells of a frame
pub record NamedFrame (t : Table) (q len : ℕ) : Type 0 where
  pub long : 84 ≤ len
  pub short : len ≤ longest t q

pub named : (t : Table) (q n len : ℕ) → Passing t → names_link t q len (place_of n t.links) ≡ true → NamedFrame t q len
unfolding names_link longest of_priority
named t q n len v e = go (place_of n t.links) refl e
  where
    go : (o : Option ℕ) → place_of n t.links ≡ o → names_link t q len o ≡ true → NamedFrame t q len
    go none x y = absurd (let z : ◌≡◌ {A = ℕ} 0 1 = cc in omega arith)
    go (some i) x y =
        let all = all_true _ y in
        let p : Placed n t.links i = placed n t.links i x in
        record {
          long = omega (arith, leb-true (link_at t.links i).least len all.1.0, (v.fields i p.in_range).least_from);
          short =
              le_trans (leb-true len (link_at t.links i).greatest all.1.1.0)
              (greatest_ge (of_priority q) (λ u. u.greatest) (mem_at t.links i p.in_range) all.0);
        }

-- a frame has at least 84 bytes
pub lined_count : (t : Table) (q c low : ℕ) (l : List Frame) → Passing t → Lined t q c low l → occupied 84 * length l ≤ held l
unfolding bytes
lined_count t q c low [] v over = omega arith
lined_count t q c low (f ∷ l) v (next n a b r) =
    omega (arith, lined_count t q c f.arrival l v r, occupied_weight.grows 84 f.length (named t q f.number f.length v n).long)

pub lined_meets : (t : Table) (q c low : ℕ) (l : List Frame) → Passing t → Lined t q c low l → Each (Meets (longest t q) c) l
lined_meets t q c low [] v over = done
lined_meets t q c low (f ∷ l) v (next n a b r) =
    let m : NamedFrame t q f.length = named t q f.number f.length v n in
    also {a = f} (record { positive = omega (arith, m.long); short = m.short; past = b }) (lined_meets t q c f.arrival l v r)
