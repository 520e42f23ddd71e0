-- The answer from the limits of the eight priorities.
use mathlib.Core.Path.{◌≡◌, refl, sym, ◌∙◌}
use mathlib.Core.Logic.{◌≢◌}
use mathlib.Core.Bool.{true}
use mathlib.Core.Option.{none, some}
use mathlib.Core.List.{List}
use Prim.Native.Nat.{ℕ, zero, suc, ◌+◌, ◌<◌}
use native.Mathlib.Decide.{ℕ_discrete}
use native.Mathlib.Omega.{arith}
use lib.ListN.{length, get_or, set, length-set, replicate, length-replicate}
use lib.Seq.{ext_get_or, get_or-set_same, get_or-set_other}
use Rattle.model.specs.Basics.{first_refusal, eight}
use Rattle.model.specs.Table.{Table, table_checks, table_refusal}
use Rattle.model.specs.Bounds.{hold_of, bound_within, is_there, or_zero, window_within, bounds_refusal, hold, bound, window, Sizing, sized_or, sizing}
use Rattle.model.proofs.Checks.{first_append}
use Rattle.model.proofs.Lists.{get_d_eight}
use Rattle.model.proofs.TableFacts.{table_numbered}
use Rattle.model.proofs.Holds.{no_hold, all_holds}
use Rattle.std.specs.Prelude.{Ok, Err}
use Rattle.refusal.specs.declared.Refusal.{Refusal}
use Rattle.refusal.specs.declared.Refusal.TheVariants.{NoBounds}
use Rattle.refusal.specs.Numbers.{number_of}
use Rattle.refusal.proofs.Numbers.{number_not_0}
use Rattle.bounds.specs.declared.limits.Limits.{Limits}
use Rattle.bounds.specs.Limits.{LimitsOf}
use Rattle.bounds.specs.Answer.{sizing_of}

-- ---- the answers
module _ (t : Table) where
  refused_is : (n : ℕ) → n ≢ 0 → bounds_refusal t ≡ n → ◌≡◌ {A = Sizing} (record { refused = n; bounds = replicate 8 0; holds = replicate 8 0; windows = replicate 8 0 }) (sizing t)
  unfolding sizing sized_or
  refused_is zero z e = absurd (z refl)
  refused_is (suc n) z e = rw e

  first_of : (n k : ℕ) → n ≢ 0 → first_refusal n k ≡ n
  unfolding first_refusal
  first_of zero k z = absurd (z refl)
  first_of (suc n) k z = refl

  -- those of the table
  pub table_refused : (r : Refusal) → number_of r ≡ table_refusal t → sizing_of (Err r) ≡ sizing t
  unfolding bounds_refusal table_refusal
  table_refused r e =
      let z = number_not_0 r in
      refused_is (number_of r) z (first_append (table_checks t) _ (table_numbered t) ∙ rw (← e) (first_of (number_of r) _ z))

  -- 8
  pub hold_refused : table_refusal t ≡ 0 → (p : ℕ) → p < 8 → hold_of t p ≡ none → sizing_of (Err NoBounds) ≡ sizing t
  hold_refused e p h d = refused_is 8 (λ x. omega arith) (no_hold t e p h d)

-- what is known of the priorities below n
pub record Known (t : Table) (bounds holds windows : List ℕ) (n : ℕ) : Type 0 where
  pub bounds8 : length bounds ≡ 8
  pub holds8 : length holds ≡ 8
  pub windows8 : length windows ≡ 8
  pub there : (p : ℕ) → p < n → hold_of t p ≡ some (get_or holds p 0)
  pub bound_is : (p : ℕ) → p < n → get_or bounds p 0 ≡ bound t p
  pub window_is : (p : ℕ) → p < n → get_or windows p 0 ≡ window t p

-- so it is of one place more
one_more : (P : ℕ → ℕ → Type 0) (l : List ℕ) (n x : ℕ) → n < length l → ((p : ℕ) → p < n → P p (get_or l p 0)) → P n x → (p : ℕ) → p < n + 1 → P p (get_or (set l n x) p 0)
one_more P l n x h below at p y = go (ℕ_discrete p n)
  where
    go : Dec (p ≡ n) → P p (get_or (set l n x) p 0)
    go (yes e) = rw (e, get_or-set_same l n x 0 h) at
    go (no e) = rw (get_or-set_other l n p x 0 e) (below p (omega arith))

-- hold, bound and window of a priority whose hold is there
hold_of_lem : (t : Table) (p h : ℕ) → hold_of t p ≡ some h → h ≡ hold t p
unfolding hold or_zero
hold_of_lem t p h e = rw e

pub bound_of : (t : Table) (p h x : ℕ) → hold_of t p ≡ some h → x ≡ bound_within t p h → x ≡ bound t p
unfolding bound
bound_of t p h x e q = rw (← hold_of_lem t p h e) q

window_of : (t : Table) (p h x : ℕ) → hold_of t p ≡ some h → x ≡ window_within t p h → x ≡ window t p
unfolding window
window_of t p h x e q = rw (← hold_of_lem t p h e) q

module _ (t : Table) where
  pub known_none : Known t (replicate 8 0) (replicate 8 0) (replicate 8 0) 0
  known_none = record {
    bounds8 = length-replicate {A = ℕ} 8 0;
    holds8 = length-replicate {A = ℕ} 8 0;
    windows8 = length-replicate {A = ℕ} 8 0;
    there = λ p l. absurd (omega arith);
    bound_is = λ p l. absurd (omega arith);
    window_is = λ p l. absurd (omega arith);
  }

  module _ (bounds holds windows : List ℕ) (n : ℕ) (k : Known t bounds holds windows n) where
    pub known_more : n < 8 → (l : Limits) → LimitsOf t n l
        → Known t (set bounds n l.bound) (set holds n l.hold) (set windows n l.window) (n + 1)
    known_more h l d = record {
      bounds8 = rw length-set k.bounds8;
      holds8 = rw length-set k.holds8;
      windows8 = rw length-set k.windows8;
      there = one_more (λ p x. hold_of t p ≡ some x) holds n l.hold (omega (arith, k.holds8)) k.there d.hold;
      bound_is = one_more (λ p x. x ≡ bound t p) bounds n l.bound (omega (arith, k.bounds8)) k.bound_is (bound_of t n l.hold l.bound d.hold d.bound);
      window_is = one_more (λ p x. x ≡ window t p) windows n l.window (omega (arith, k.windows8)) k.window_is (window_of t n l.hold l.window d.hold d.window);
    }

  module _ (bounds holds windows : List ℕ) (k : Known t bounds holds windows 8) (e : table_refusal t ≡ 0) where
    list_is : (l : List ℕ) (f : ℕ → ℕ) → length l ≡ 8 → ((p : ℕ) → p < 8 → get_or l p 0 ≡ f p) → l ≡ eight f
    list_is l f n h = ext_get_or 0 l (eight f) n (λ i x. h i (omega arith) ∙ sym (get_d_eight f i 0 (omega arith)))

    all_there : (p : ℕ) → p < 8 → is_there (hold_of t p) ≡ true
    unfolding is_there
    all_there p l = rw (k.there p l)

    pub all_known : sizing_of (Ok (record { bounds = bounds; holds = holds; windows = windows })) ≡ sizing t
    unfolding sizing sized_or
    all_known =
        rw (
          all_holds t e all_there,
          list_is bounds (bound t) k.bounds8 k.bound_is,
          list_is holds (hold t) k.holds8 (λ p l. hold_of_lem t p (get_or holds p 0) (k.there p l)),
          list_is windows (window t) k.windows8 k.window_is,
        )
