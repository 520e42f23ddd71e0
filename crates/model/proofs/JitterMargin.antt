-- How much jitter is left: what a jitter put in keeps of a table, and the last that fits.
use mathlib.Core.Path.{◌≡◌, refl, sym, ◌∙◌, ap, fun_ext}
use mathlib.Core.Logic.{◌⊎◌, inl, inr}
use mathlib.Core.Bool.{Bool, true, false, cond, not, and-true, and-eq-true_iff}
use mathlib.Core.Option.{Option, none, some}
use mathlib.Core.List.{List, [], ◌∷◌}
use Prim.Native.Nat.{ℕ, zero, suc, ◌≤◌, ◌<◌}
use native.Mathlib.Nat.{le_refl}
use native.Mathlib.Omega.{arith}
use lib.Dec.{eqb, leb}
use lib.ListN.{length}
use borrow.Author.Tests.{eqb-true, leb-true, leb-false, le-leb, eq-eqb, not-false}
use Rattle.model.specs.Basics.{all_to, last_below, first_met, first_refusal}
use Rattle.model.specs.Link.{VirtualLink, place_of, sum_over}
use Rattle.model.specs.Table.{Table, size_of, fields_in_range, links_checks, reservation, reserved_on, none_oversold, table_refusal}
use Rattle.model.specs.Bounds.{is_there, or_zero, bounds_refusal, bound}
use Rattle.model.specs.JitterMargin.{jittered, put_in, with_jitter, sizes_suffice, jitter_fits, greatest_fitting, margin_refusal, Margin, margin_or, margin}
use Rattle.model.specs.Promises.{NoSmaller, Grown, over, edited, Fits, FitsExactly, LacksOrBreaks, MarginIsGreatest, RefusedIfNoneFits, SmallerFits, NeverUnbounded, PresentJitterUnseen}
use Rattle.model.proofs.Checks.{all_true, true_all, all_to_lem, to_all, NoneMet}
use Rattle.model.proofs.Search.{IsLast, found_last, no_last, is_last, is_no_last}
use Rattle.model.proofs.TableFacts.{counts_unmet, links_unmet, lines_unmet, sizes_unmet, parts_unmet}
use Rattle.model.proofs.Holds.{has_bounds, has_or_lacks, table_never}
use Rattle.model.proofs.Sensitivity.{none_smaller, bounds_kept}

-- ---- a jitter put in: what it leaves as it is

module _ (number jitter : ℕ) where
  -- of the links in turn: the link at which it is put in, or one that stays
  put_cases : (P : List VirtualLink → List VirtualLink → Type 0) → P [] []
      → ((v : VirtualLink) (links : List VirtualLink) → P (v ∷ links) (jittered jitter v ∷ links))
      → ((v : VirtualLink) (links put : List VirtualLink) → P links put → P (v ∷ links) (v ∷ put))
      → (links : List VirtualLink) → P links (put_in number jitter links)
  unfolding put_in
  put_cases P none_left here later [] = none_left
  put_cases P none_left here later (v ∷ links) = go (eqb v.number number) (put_cases P none_left here later links)
    where
      go : (b : Bool) → P links (put_in number jitter links) → P (v ∷ links) (cond b (jittered jitter v ∷ links) (v ∷ put_in number jitter links))
      go true ih = here v links
      go false ih = later v links (put_in number jitter links) ih

  pub put_length : (links : List VirtualLink) → length (put_in number jitter links) ≡ length links
  put_length = put_cases (λ a b. length b ≡ length a) refl (λ v links. refl) (λ v links put e. ap suc e)

  pub put_place : (n : ℕ) (links : List VirtualLink) → place_of n (put_in number jitter links) ≡ place_of n links
  unfolding place_of
  put_place n = put_cases (λ a b. place_of n b ≡ place_of n a) refl (λ v links. refl) (λ v links put e. rw e)

  put_reserved : (ℓ : ℕ) (links : List VirtualLink) → reserved_on (put_in number jitter links) ℓ ≡ reserved_on links ℓ
  unfolding reserved_on sum_over reservation
  put_reserved ℓ = put_cases (λ a b. reserved_on b ℓ ≡ reserved_on a ℓ) refl (λ v links. refl) (λ v links put e. rw e)

  put_carried : (links : List VirtualLink) (lines : ℕ) → none_oversold lines (put_in number jitter links) ≡ none_oversold lines links
  unfolding none_oversold all_to
  put_carried links zero = refl
  put_carried links (suc n) = rw (put_carried links n, put_reserved n links)

  -- the fields of a link stay in range
  put_fields : jitter ≤ 125_000 → (lines : ℕ) (v : VirtualLink) → fields_in_range lines v ≡ true → fields_in_range lines (jittered jitter v) ≡ true
  unfolding fields_in_range
  put_fields l lines v e =
      let all = all_true _ e in
      true_all _ (all.0, (all.1.0, (all.1.1.0, (all.1.1.1.0, (all.1.1.1.1.0, (all.1.1.1.1.1.0, (all.1.1.1.1.1.1.0, (le-leb jitter 125_000 l, tt))))))))

  put_links : jitter ≤ 125_000 → (lines : ℕ) (links : List VirtualLink) (previous : Option ℕ) → NoneMet (links_checks lines previous links)
      → NoneMet (links_checks lines previous (put_in number jitter links))
  unfolding links_checks
  put_links l lines =
      put_cases (λ a b. (previous : Option ℕ) → NoneMet (links_checks lines previous a) → NoneMet (links_checks lines previous b)) (λ previous e. tt)
      (λ v links previous e. (ap not (put_fields l lines v (not-false _ e.0)), (e.1.0, e.1.1)))
      (λ v links put ih previous e. (e.0, (e.1.0, ih (some v.number) e.1.1)))

  pub put_passes : jitter ≤ 125_000 → (t : Table) → table_refusal t ≡ 0 → table_refusal (with_jitter t number jitter) ≡ 0
  put_passes l t e =
      parts_unmet (with_jitter t number jitter)
      (rw (put_length t.links) (counts_unmet t e))
      (put_links l t.lines t.links none (links_unmet t e))
      (rw (put_carried t.links t.lines) (lines_unmet t e))
      (sizes_unmet t e)

-- the second of two is what stays
pub put_twice : (number j k : ℕ) (links : List VirtualLink) → put_in number j (put_in number k links) ≡ put_in number j links
unfolding put_in
put_twice number j k [] = refl
put_twice number j k (v ∷ links) = go (eqb v.number number) refl (put_twice number j k links)
  where
    go : (b : Bool) → eqb v.number number ≡ b → put_in number j (put_in number k links) ≡ put_in number j links
        → put_in number j (cond b (jittered k v ∷ links) (v ∷ put_in number k links)) ≡ cond b (jittered j v ∷ links) (v ∷ put_in number j links)
    go true q ih = rw q
    go false q ih = rw (q, ih)

-- ---- a larger jitter is an edit of M-108
pub same : (v : VirtualLink) → NoSmaller v v
same v = record { line_same = refl; priority_same = refl; code_same = refl; greatest_kept = le_refl v.greatest; jitter_kept = le_refl v.jitter }

grown_same : (links : List VirtualLink) → Grown links links
grown_same [] = over
grown_same (v ∷ links) = edited (same v) (grown_same links)

put_grown : (number j k : ℕ) → j ≤ k → (links : List VirtualLink) → Grown (put_in number j links) (put_in number k links)
unfolding put_in
put_grown number j k l [] = over
put_grown number j k l (v ∷ links) = go (eqb v.number number) (put_grown number j k l links)
  where
    go : (b : Bool) → Grown (put_in number j links) (put_in number k links)
        → Grown (cond b (jittered j v ∷ links) (v ∷ put_in number j links)) (cond b (jittered k v ∷ links) (v ∷ put_in number k links))
    go true ih =
        edited (record { line_same = refl; priority_same = refl; code_same = refl; greatest_kept = le_refl v.greatest; jitter_kept = l }) (grown_same links)
    go false ih = edited (same v) ih

-- ---- whether a jitter fits
some_not : (test : ℕ → Bool) (n : ℕ) → all_to test n ≡ false → (k : ℕ) × (k < n) × (test k ≡ false)
unfolding all_to
some_not test zero e = absurd (let z : ◌≡◌ {A = ℕ} 0 1 = cc in omega arith)
some_not test (suc n) e = go (test n) refl (some_not test n)
  where
    go : (b : Bool) → test n ≡ b → (all_to test n ≡ false → (k : ℕ) × (k < n) × (test k ≡ false)) → (k : ℕ) × (k < suc n) × (test k ≡ false)
    go true q ih = let x = ih (sym (and-true (all_to test n)) ∙ (rw q at e)) in (x.0, omega (arith, x.1), x.2)
    go false q ih = (n, le_refl (suc n), q)

abbrev within : Table → ℕ → ℕ → ℕ → Bool
within t number j p = leb (bound (with_jitter t number j) p) (size_of t p)

pub fits_exactly : FitsExactly
unfolding jitter_fits sizes_suffice
fits_exactly t number j =
    let both = and-eq-true_iff (eqb (bounds_refusal (with_jitter t number j)) 0) (all_to (within t number j) 8) in (
      λ e. record { has_bounds = eqb-true _ 0 (both.0 e).0; within = λ p l. leb-true _ _ (all_to_lem (within t number j) 8 (both.0 e).1 p l) },
      λ f. both.1 (eq-eqb _ 0 f.has_bounds, to_all (within t number j) 8 (λ p l. le-leb _ _ (f.within p l))),
    )

module _ (t : Table) (number : ℕ) where
  fits_not : table_refusal t ≡ 0 → (j : ℕ) → j ≤ 125_000 → jitter_fits t number j ≡ false → LacksOrBreaks t number j
  unfolding jitter_fits sizes_suffice
  fits_not e j l x = go (has_or_lacks (with_jitter t number j) (put_passes number j l t e))
    where
      go : (bounds_refusal (with_jitter t number j) ≡ 0) ⊎ (bounds_refusal (with_jitter t number j) ≡ 8) → LacksOrBreaks t number j
      go (inl has) =
          let y = some_not (within t number j) 8 (rw has at x) in
          inr (y.0, y.1, leb-false _ _ y.2)
      go (inr lacks) = inl lacks

-- by M-108: no bound is smaller with the larger jitter, and where that leaves bounds there are some with the smaller
pub smaller_fits : SmallerFits
smaller_fits t number j k l m e =
    let f : Fits t number k = (fits_exactly t number k).0 e in
    let g : Grown (put_in number j t.links) (put_in number k t.links) = put_grown number j k l t.links in
    let passes : table_refusal (with_jitter t number j) ≡ 0 =
    rw put_twice at (put_passes number j (omega arith) (with_jitter t number k) (has_bounds (with_jitter t number k) f.has_bounds).table) in
    (fits_exactly t number j).1 (record {
      has_bounds = bounds_kept (with_jitter t number j) (with_jitter t number k) g passes f.has_bounds;
      within = λ p x. omega (arith, (none_smaller (with_jitter t number j) (with_jitter t number k) g f.has_bounds p x).0, f.within p x);
    })

-- ---- the answer, by the table's refusal, the place and the greatest that fits
abbrev pub answered : ℕ → Option ℕ → Option ℕ → Margin
answered (suc n) place greatest = record { refused = suc n; jitter = 0 }
answered zero none greatest = record { refused = 24; jitter = 0 }
answered zero (some i) none = record { refused = 25; jitter = 0 }
answered zero (some i) (some w) = record { refused = 0; jitter = w }

module _ (t : Table) (number : ℕ) where
  pub margin_by : (n : ℕ) → table_refusal t ≡ n → (o : Option ℕ) → place_of number t.links ≡ o → (g : Option ℕ) → greatest_fitting t number ≡ g
      → margin t number ≡ answered n o g
  unfolding margin margin_or margin_refusal first_refusal first_met is_there or_zero
  margin_by (suc n) e o p g q = rw e
  margin_by zero e none p g q = rw (e, p)
  margin_by zero e (some i) p none q = rw (e, p, q)
  margin_by zero e (some i) p (some w) q = rw (e, p, q, q)

  -- where it is not refused
  given : (margin t number).refused ≡ 0 → (table_refusal t ≡ 0) × (greatest_fitting t number ≡ some (margin t number).jitter)
  given x = go (table_refusal t) refl (place_of number t.links) refl (greatest_fitting t number) refl
    where
      go : (n : ℕ) → table_refusal t ≡ n → (o : Option ℕ) → place_of number t.links ≡ o → (g : Option ℕ) → greatest_fitting t number ≡ g
          → (table_refusal t ≡ 0) × (greatest_fitting t number ≡ some (margin t number).jitter)
      go (suc n) e o p g q = absurd (let y : suc n ≡ 0 = rw (margin_by (suc n) e o p g q) at x in omega arith)
      go zero e none p g q = absurd (let y : ◌≡◌ {A = ℕ} 24 0 = rw (margin_by 0 e none p g q) at x in omega arith)
      go zero e (some i) p none q = absurd (let y : ◌≡◌ {A = ℕ} 25 0 = rw (margin_by 0 e (some i) p none q) at x in omega arith)
      go zero e (some i) p (some w) q = (e, rw (margin_by 0 e (some i) p (some w) q) q)

pub margin_is_greatest : MarginIsGreatest
unfolding greatest_fitting
margin_is_greatest t number x =
    let y = given t number x in
    let f : IsLast (jitter_fits t number) 125_001 (margin t number).jitter = found_last _ 125_001 _ y.1 in
    record {
      in_range = omega (arith, f.below);
      fits = (fits_exactly t number (margin t number).jitter).0 f.holds;
      larger = λ k l m. fits_not t number y.0 k m (f.after k l (omega arith));
    }

pub refused_if_none_fits : RefusedIfNoneFits
unfolding greatest_fitting
refused_if_none_fits t number i e p = (none_fits (greatest_fitting t number) refl, λ h. rw (margin_by t number 0 e (some i) p none (is_no_last (jitter_fits t number) 125_001 (λ k l. breaks h k l (jitter_fits t number k) refl))))
  where
    none_fits : (g : Option ℕ) → greatest_fitting t number ≡ g → (margin t number).refused ≡ 25 → (k : ℕ) → k ≤ 125_000 → LacksOrBreaks t number k
    none_fits none q x k l = fits_not t number e k l (no_last (jitter_fits t number) 125_001 q k (omega arith))
    none_fits (some w) q x k l = absurd (let y : ◌≡◌ {A = ℕ} 0 25 = rw (margin_by t number 0 e (some i) p (some w) q) at x in omega arith)

    breaks : ((k : ℕ) → k ≤ 125_000 → Fits t number k → ⊥) → (k : ℕ) → k < 125_001 → (b : Bool) → jitter_fits t number k ≡ b → b ≡ false
    breaks h k l true q = absurd (h k (omega arith) ((fits_exactly t number k).0 q))
    breaks h k l false q = refl

pub never_unbounded : NeverUnbounded
never_unbounded t number x = go (table_refusal t) refl (place_of number t.links) refl (greatest_fitting t number) refl
  where
    go : (n : ℕ) → table_refusal t ≡ n → (o : Option ℕ) → place_of number t.links ≡ o → (g : Option ℕ) → greatest_fitting t number ≡ g → ⊥
    go (suc n) e o p g q = table_never t (e ∙ (rw (margin_by t number (suc n) e o p g q) at x))
    go zero e none p g q = let y : ◌≡◌ {A = ℕ} 24 8 = rw (margin_by t number 0 e none p g q) at x in omega arith
    go zero e (some i) p none q = let y : ◌≡◌ {A = ℕ} 25 8 = rw (margin_by t number 0 e (some i) p none q) at x in omega arith
    go zero e (some i) p (some w) q = let y : ◌≡◌ {A = ℕ} 0 8 = rw (margin_by t number 0 e (some i) p (some w) q) at x in omega arith

pub present_jitter_unseen : PresentJitterUnseen
unfolding greatest_fitting jitter_fits
present_jitter_unseen t number k e l =
    margin_by (with_jitter t number k) number 0 (put_passes number k l t e) (place_of number t.links) (put_place number k number t.links) (greatest_fitting t number) same_greatest
    ∙ sym (margin_by t number 0 e (place_of number t.links) refl (greatest_fitting t number) refl)
  where
    same_greatest : greatest_fitting (with_jitter t number k) number ≡ greatest_fitting t number
    same_greatest = ap (λ test. last_below test 125_001) (fun_ext (λ j. ap (λ links. sizes_suffice (record { lines = t.lines; links = links; sizes = t.sizes })) (put_twice number j k t.links)))

-- ---- an answer from two tests: a jitter fits, and the next does not or is none; or 0 does not fit
module _ (t : Table) (number i : ℕ) (passes : table_refusal t ≡ 0) (place : place_of number t.links ≡ some i) where
  breaks_on : (j k : ℕ) → j ≤ k → k ≤ 125_000 → jitter_fits t number j ≡ false → (b : Bool) → jitter_fits t number k ≡ b → b ≡ false
  breaks_on j k l m e true q = sym (smaller_fits t number j k l m q) ∙ e
  breaks_on j k l m e false q = refl

  pub left_at : (j : ℕ) → j ≤ 125_000 → jitter_fits t number j ≡ true → (j < 125_000 → jitter_fits t number (suc j) ≡ false)
      → margin t number ≡ record { refused = 0; jitter = j }
  unfolding greatest_fitting
  left_at j l e next =
      margin_by t number 0 passes (some i) place (some j)
      (is_last (jitter_fits t number) 125_001 j
      (record { below = omega arith; holds = e; after = λ k x y. breaks_on (suc j) k x (omega arith) (next (omega arith)) (jitter_fits t number k) refl }))

  pub none_left : jitter_fits t number 0 ≡ false → margin t number ≡ record { refused = 25; jitter = 0 }
  unfolding greatest_fitting
  none_left e =
      margin_by t number 0 passes (some i) place none
      (is_no_last (jitter_fits t number) 125_001 (λ k x. breaks_on 0 k (omega arith) (omega arith) e (jitter_fits t number k) refl))
