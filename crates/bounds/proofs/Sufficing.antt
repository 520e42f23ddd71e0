-- Whether the sizes of a table suffice, from the limits of the eight priorities.
use mathlib.Core.Path.{◌≡◌, refl, sym, ◌∙◌}
use mathlib.Core.Bool.{true, false, and-false}
use mathlib.Core.Option.{none, some}
use Prim.Native.Nat.{ℕ, ◌+◌, ◌≤◌, ◌<◌}
use native.Mathlib.Decide.{ℕ_discrete}
use native.Mathlib.Omega.{arith}
use lib.Dec.{eqb, leb}
use lib.ListN.{get_or}
use borrow.Author.Tests.{le-leb, lt-leb, eq-eqb, ne_eqb}
use Rattle.model.specs.Table.{Table, size_of, table_refusal}
use Rattle.model.specs.Bounds.{hold_of, is_there, bounds_refusal, hold, bound}
use Rattle.model.specs.JitterMargin.{sizes_suffice}
use Rattle.model.proofs.Checks.{to_all, not_all}
use Rattle.model.proofs.Holds.{has_bounds, all_holds}
use Rattle.refusal.specs.declared.Refusal.{Refusal}
use Rattle.refusal.specs.Numbers.{number_of}
use Rattle.refusal.proofs.Numbers.{number_not_0}
use Rattle.table.specs.declared.Table.{Table as TableRecord}
use Rattle.table.specs.View.{view_table}
use Rattle.bounds.specs.declared.limits.Limits.{Limits}
use Rattle.bounds.specs.Limits.{LimitsOf}
use Rattle.bounds.proofs.Answering.{bound_of}

-- so it is of the priorities below n
pub record Sufficing (t : Table) (n : ℕ) : Type 0 where
  pub there : (p : ℕ) → p < n → is_there (hold_of t p) ≡ true
  pub within : (p : ℕ) → p < n → bound t p ≤ size_of t p

module _ (t : Table) where
  pub sufficing_none : Sufficing t 0
  sufficing_none = record { there = λ p l. absurd (omega arith); within = λ p l. absurd (omega arith) }

  lacks : (bounds_refusal t ≡ 0 → ⊥) → false ≡ sizes_suffice t
  unfolding sizes_suffice
  lacks h = rw (ne_eqb (bounds_refusal t) 0 h)

  pub refused_lacks : (r : Refusal) → number_of r ≡ table_refusal t → false ≡ sizes_suffice t
  refused_lacks r e = lacks (λ x. number_not_0 r (e ∙ (has_bounds t x).table))

  module _ (p : ℕ) (h : p < 8) where
    pub unheld_lacks : hold_of t p ≡ none → false ≡ sizes_suffice t
    unheld_lacks d =
        lacks (λ x. let y : none ≡ some (hold t p) = sym d ∙ (has_bounds t x).holds p h in let k : ◌≡◌ {A = ℕ} 0 1 = cc in omega arith)

    module _ (l : Limits) (d : LimitsOf t p l) where
      bound_is : l.bound ≡ bound t p
      bound_is = bound_of t p l.hold l.bound d.hold d.bound

      pub over_breaks : size_of t p < l.bound → false ≡ sizes_suffice t
      unfolding sizes_suffice
      over_breaks x =
          rw (not_all (λ q. leb (bound t q) (size_of t q)) 8 p h (lt-leb (bound t p) (size_of t p) (omega (arith, bound_is, x))))
          (sym (and-false (eqb (bounds_refusal t) 0)))

      pub sufficing_more : Sufficing t p → l.bound ≤ size_of t p → Sufficing t (p + 1)
      unfolding is_there
      sufficing_more s x = record { there = λ q m. there q m (ℕ_discrete q p); within = λ q m. within q m (ℕ_discrete q p) }
        where
          there : (q : ℕ) → q < p + 1 → Dec (q ≡ p) → is_there (hold_of t q) ≡ true
          there q m (yes e) = rw (e, d.hold)
          there q m (no e) = s.there q (omega arith)

          within : (q : ℕ) → q < p + 1 → Dec (q ≡ p) → bound t q ≤ size_of t q
          within q m (yes e) = rw e (omega (arith, bound_is, x))
          within q m (no e) = s.within q (omega arith)

  pub all_suffice : table_refusal t ≡ 0 → Sufficing t 8 → true ≡ sizes_suffice t
  unfolding sizes_suffice
  all_suffice e s =
      rw (eq-eqb _ 0 (all_holds t e s.there))
      (sym (to_all (λ q. leb (bound t q) (size_of t q)) 8 (λ p l. le-leb (bound t p) (size_of t p) (s.within p l))))

-- the size of the record is the size of its table
pub size_shown : (r : TableRecord) (p : ℕ) → size_of (view_table r) p ≡ get_or r.sizes p 0
unfolding view_table
size_shown r p = refl
