-- The hold is the smallest, or there is none; by climbing; and of a table that has bounds each priority has one.
use mathlib.Core.Path.{◌≡◌, refl, sym, ◌∙◌}
use mathlib.Core.Logic.{◌⊎◌, inl, inr}
use mathlib.Core.Bool.{Bool, true, false, not}
use mathlib.Core.Option.{Option, none, some}
use mathlib.Core.List.{List, [], ◌∷◌, ◌++◌}
use Prim.Native.Nat.{ℕ, zero, suc, ◌+◌, ◌-◌, ◌≤◌, ◌<◌}
use native.Mathlib.Nat.{lt_of_not-le}
use native.Mathlib.Decide.{dec_le}
use native.Mathlib.Omega.{arith}
use lib.Dec.{T, eqb, leb, leb→le}
use lib.ListN.{length}
use borrow.Author.Tests.{eqb-true, leb-true, leb-false, le-leb, lt-leb, not-false}
use Rattle.model.specs.Basics.{all_to, all_hold, first_from, Check, check, first_met, first_refusal}
use Rattle.model.specs.Link.{VirtualLink}
use Rattle.model.specs.Table.{Table, count_checks, links_checks, line_checks, size_checks, table_checks, table_refusal}
use Rattle.model.specs.Bounds.{of_priority, up_to, own_arrivals, up_arrivals, blocking, hold_test, hold_by, hold_of, is_there, or_zero, bounds_refusal, hold}
use Rattle.model.specs.Promises.{IsHold, HoldIsSmallest, HoldGrows}
use Rattle.model.proofs.Checks.{AllTrue, all_true, all_to_lem, to_all, not_all, first_past, first_append, Apart, apart_append, first_apart, none_met, numbered_append, none_front, none_back, first_none, NoneMet}
use Rattle.model.proofs.TableFacts.{table_numbered}
use Rattle.model.proofs.Search.{IsFirst, found_first, found_none, first_sooner, is_first, is_none, climb, climb_below}
use Rattle.model.proofs.Curves.{curve_grows}

pub up_grows : (t : Table) (p x y : ℕ) → x ≤ y → up_arrivals t p x ≤ up_arrivals t p y
unfolding up_arrivals
up_grows t p x y l = curve_grows _ (up_to p) t.lines t.links x y l

pub own_grows : (t : Table) (p x y : ℕ) → x ≤ y → own_arrivals t p x ≤ own_arrivals t p y
unfolding own_arrivals
own_grows t p x y l = curve_grows _ (of_priority p) t.lines t.links x y l

pub hold_is : (t : Table) (p w : ℕ) → hold_of t p ≡ some w → IsHold t p w
unfolding hold_of hold_by hold_test
hold_is t p w e =
    let r : IsFirst (hold_test (blocking t p) (up_arrivals t p)) 65_536 1 w = found_first (hold_test (blocking t p) (up_arrivals t p)) 65_536 1 w e in
    record {
      least_is = r.from;
      most_is = omega arith;
      holds = leb-true _ _ r.holds;
      smallest = λ k l m. leb-false _ _ (r.before k l m);
    }

pub hold_smallest : HoldIsSmallest
unfolding hold_of hold_by hold_test
hold_smallest t p = (hold_is t p, λ e w l m. leb-false _ _ (found_none (hold_test (blocking t p) (up_arrivals t p)) 65_536 1 e w l (omega arith)))

-- ---- of two tables: what passes the test with the greater b and A passes it with the smaller
pub hold_grows : HoldGrows
unfolding hold_by hold_test
hold_grows b b' up up' l m = (sooner, λ e. go e (hold_by b' up') refl)
  where
    passes : (w : ℕ) → leb (b' + up' (w - 1)) w ≡ true → leb (b + up (w - 1)) w ≡ true
    passes w e = le-leb (b + up (w - 1)) w (omega (arith, leb-true (b' + up' (w - 1)) w e, m (w - 1)))

    sooner : (h' : ℕ) → hold_by b' up' ≡ some h' → (h : ℕ) × (hold_by b up ≡ some h) × (h ≤ h')
    sooner h' e = first_sooner (hold_test b up) (hold_test b' up') passes 65_536 1 h' e

    go : hold_by b up ≡ none → (o : Option ℕ) → hold_by b' up' ≡ o → hold_by b' up' ≡ none
    go e none x = x
    go e (some h') x = absurd (let z : ◌≡◌ {A = ℕ} 0 1 = let y : ◌≡◌ {A = Option ℕ} none (some (sooner h' x).0) = sym e ∙ (sooner h' x).1 in cc in omega arith)

-- ---- by climbing
climbs_past_lem : (t : Table) (p n k : ℕ) → 1 ≤ k → k < climb (up_arrivals t p) (blocking t p) n 1 → k < blocking t p + up_arrivals t p (k - 1)
climbs_past_lem t p n k l m = go (dec_le (blocking t p + up_arrivals t p (k - 1)) k)
  where
    go : Dec (blocking t p + up_arrivals t p (k - 1) ≤ k) → k < blocking t p + up_arrivals t p (k - 1)
    go (yes x) = absurd (omega (arith, climb_below (up_arrivals t p) (up_grows t p) (blocking t p) n 1 k x l))
    go (no x) = lt_of_not-le x

-- n steps of a climb end at w, which passes the test
unfoldable pub climbs_to : Table → ℕ → ℕ → ℕ → Bool
climbs_to t p n w =
    all_hold (eqb (climb (up_arrivals t p) (blocking t p) n 1) w ∷ leb 1 w ∷ leb w 65_536 ∷ hold_test (blocking t p) (up_arrivals t p) w ∷ [])

pub climbed : (t : Table) (p n w : ℕ) → climbs_to t p n w ≡ true → hold_of t p ≡ some w
unfolding climbs_to hold_of hold_by hold_test
climbed t p n w e = go (all_true _ e)
  where
    not_before : climb (up_arrivals t p) (blocking t p) n 1 ≡ w → (k : ℕ) → 1 ≤ k → k < w → hold_test (blocking t p) (up_arrivals t p) k ≡ false
    not_before ends k l m = lt-leb _ _ (climbs_past_lem t p n k l (omega arith))

    go : AllTrue (eqb (climb (up_arrivals t p) (blocking t p) n 1) w ∷ leb 1 w ∷ leb w 65_536 ∷ hold_test (blocking t p) (up_arrivals t p) w ∷ [])
        → first_from (hold_test (blocking t p) (up_arrivals t p)) 65_536 1 ≡ some w
    go a =
        is_first (hold_test (blocking t p) (up_arrivals t p)) 65_536 1 w
        (record {
          from = leb-true 1 w a.1.0;
          below = omega (arith, leb-true w 65_536 a.1.1.0);
          holds = a.1.1.1.0;
          before = not_before (eqb-true _ w a.0);
        })

pub climbed_past : (t : Table) (p n : ℕ) → T (leb 65_537 (climb (up_arrivals t p) (blocking t p) n 1)) → hold_of t p ≡ none
unfolding hold_of hold_by hold_test
climbed_past t p n a =
    is_none (hold_test (blocking t p) (up_arrivals t p)) 65_536 1
    (λ k l m. lt-leb _ _ (climbs_past_lem t p n k l (omega (arith, leb→le 65_537 (climb (up_arrivals t p) (blocking t p) n 1) a))))

-- ---- of a table that has bounds
pub there_is : (o : Option ℕ) → is_there o ≡ true → o ≡ some (or_zero o)
unfolding is_there or_zero
there_is none e = absurd (let z : ◌≡◌ {A = ℕ} 0 1 = cc in omega arith)
there_is (some w) e = refl

pub record HasBounds (t : Table) : Type 0 where
  pub table : table_refusal t ≡ 0
  pub holds : (p : ℕ) → p < 8 → hold_of t p ≡ some (hold t p)

pub has_bounds : (t : Table) → bounds_refusal t ≡ 0 → HasBounds t
unfolding bounds_refusal table_refusal hold
has_bounds t e =
    record {
      table = first_none (table_checks t) (none_front (table_checks t) last pass);
      holds =
          λ p l.
          there_is (hold_of t p)
          (all_to_lem (λ q. is_there (hold_of t q)) 8 (not-false (all_to (λ q. is_there (hold_of t q)) 8) (none_back (table_checks t) last pass).0) p l);
    }
  where
    last : List Check
    last = check 8 (not (all_to (λ p. is_there (hold_of t p)) 8)) ∷ []

    pass : NoneMet (table_checks t ++ (check 8 (not (all_to (λ p. is_there (hold_of t p)) 8)) ∷ []))
    pass =
        none_met (table_checks t ++ (check 8 (not (all_to (λ p. is_there (hold_of t p)) 8)) ∷ []))
        (numbered_append (table_checks t) (check 8 (not (all_to (λ p. is_there (hold_of t p)) 8)) ∷ []) (table_numbered t) (omega arith)) e

-- ---- the refusal from the holds
module _ (t : Table) (passes : table_refusal t ≡ 0) where
  past_table : bounds_refusal t ≡ first_met (check 8 (not (all_to (λ p. is_there (hold_of t p)) 8)) ∷ [])
  unfolding bounds_refusal table_refusal
  past_table = first_past (table_checks t) _ (none_met (table_checks t) (table_numbered t) passes)

  pub no_hold : (p : ℕ) → p < 8 → hold_of t p ≡ none → bounds_refusal t ≡ 8
  unfolding first_met is_there
  no_hold p l e = rw (past_table, not_all (λ q. is_there (hold_of t q)) 8 p l (rw e))

  pub all_holds : ((p : ℕ) → p < 8 → is_there (hold_of t p) ≡ true) → bounds_refusal t ≡ 0
  unfolding first_met
  all_holds h = rw (past_table, to_all (λ q. is_there (hold_of t q)) 8 h)

  pub has_or_lacks : (bounds_refusal t ≡ 0) ⊎ (bounds_refusal t ≡ 8)
  unfolding first_met
  has_or_lacks = go (all_to (λ p. is_there (hold_of t p)) 8) past_table
    where
      go : (b : Bool) → bounds_refusal t ≡ first_met (check 8 (not b) ∷ []) → (bounds_refusal t ≡ 0) ⊎ (bounds_refusal t ≡ 8)
      go true e = inl e
      go false e = inr e

-- 8 comes behind the checks of a table by itself
links_apart : (lines : ℕ) (previous : Option ℕ) (links : List VirtualLink) → Apart 8 (links_checks lines previous links)
unfolding links_checks
links_apart lines previous [] = tt
links_apart lines previous (v ∷ links) = (λ e. omega arith, (λ e. omega arith, links_apart lines (some v.number) links))

table_apart : (t : Table) → Apart 8 (table_checks t)
unfolding table_checks
table_apart t =
    let counts = count_checks t.lines (length t.links) in
    let links = links_checks t.lines none t.links in
    let lines = line_checks t.lines t.links in
    apart_append 8 (counts ++ links ++ lines) (size_checks t.sizes)
    (apart_append 8 (counts ++ links) lines (apart_append 8 counts links (λ e. omega arith, tt) (links_apart t.lines none t.links)) (λ e. omega arith, tt))
    (λ e. omega arith, tt)

pub table_never : (t : Table) → table_refusal t ≡ 8 → ⊥
unfolding table_refusal
table_never t e = first_apart 8 (table_checks t) (omega arith) (table_apart t) e

pub lacks_passes : (t : Table) → bounds_refusal t ≡ 8 → table_refusal t ≡ 0
unfolding bounds_refusal table_refusal first_refusal
lacks_passes t e = go (first_met (table_checks t)) refl (sym (first_append (table_checks t) _ (table_numbered t)) ∙ e)
  where
    go : (n : ℕ) → first_met (table_checks t) ≡ n → first_refusal n (first_met (check 8 (not (all_to (λ p. is_there (hold_of t p)) 8)) ∷ [])) ≡ 8 → n ≡ 0
    go zero q x = refl
    go (suc n) q x = absurd (first_apart 8 (table_checks t) (omega arith) (table_apart t) (q ∙ x))
