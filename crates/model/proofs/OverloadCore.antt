-- The handful that breaks a table: what a selection keeps of a table, and what remains when links are tried for removal.
use mathlib.Core.Path.{◌≡◌, refl, sym, ap, ◌∙◌}
use mathlib.Core.Logic.{◌⊎◌, inl, inr}
use mathlib.Core.Bool.{Bool, true, false, not}
use mathlib.Core.Option.{Option, none, some}
use mathlib.Core.List.{List, [], ◌∷◌, ◌++◌, append-nil, append_assoc}
use Prim.Native.Nat.{ℕ, zero, suc, ◌≤◌, ◌<◌}
use native.Mathlib.Nat.{le_refl, le_trans}
use native.Mathlib.Decide.{dec_le}
use native.Mathlib.Omega.{arith}
use lib.Dec.{eqb, leb}
use lib.ListN.{length, length-append}
use borrow.Author.Tests.{eqb-true, eq-eqb, leb-true, leb-false, le-leb, lt-leb}
use Rattle.model.specs.Basics.{check, first_met, first_refusal}
use Rattle.model.specs.Units.{line_capacity}
use Rattle.model.specs.Link.{VirtualLink, sum_over}
use Rattle.model.specs.Table.{Table, counts_in_range, not_above, links_checks, reservation, reserved_on, none_oversold, table_refusal}
use Rattle.model.specs.Bounds.{bounds_refusal}
use Rattle.model.specs.OverloadCore.{with_links, lacks_bounds, remaining, core_links, core_refusal, core_or, core}
use Rattle.model.specs.Promises.{Grown, over, edited, added, Selection, taken, left, CoreBreaks, CoreAnswered}
use Rattle.model.proofs.Checks.{NoneMet, true_all, all_to_lem, to_all}
use Rattle.model.proofs.TableFacts.{links_unmet, sizes_unmet, parts_unmet}
use Rattle.model.proofs.Passing.{is_passing}
use Rattle.model.proofs.Holds.{has_or_lacks, lacks_passes, has_bounds}
use Rattle.model.proofs.Sensitivity.{bounds_kept}
use Rattle.model.proofs.JitterMargin.{same}
use Rattle.model.proofs.LastHold.{few_have_bounds}

-- ---- selections
pub all_selected : (links : List VirtualLink) → Selection links links
all_selected [] = over
all_selected (v ∷ links) = taken (all_selected links)

pub selected_of : {a b c : List VirtualLink} → Selection a b → Selection b c → Selection a c
selected_of s over = s
selected_of (taken s) (taken r) = taken (selected_of s r)
selected_of (left s) (taken r) = left (selected_of s r)
selected_of s (left r) = left (selected_of s r)

pub behind : (front : List VirtualLink) {a b : List VirtualLink} → Selection a b → Selection (front ++ a) (front ++ b)
behind [] s = s
behind (v ∷ front) s = taken (behind front s)

selected_length : {a b : List VirtualLink} → Selection a b → length a ≤ length b
selected_length over = le_refl 0
selected_length (taken s) = omega (arith, selected_length s)
selected_length (left s) = omega (arith, selected_length s)

-- the other links were added: an edit of M-108
selected_grown : {a b : List VirtualLink} → Selection a b → Grown a b
selected_grown over = over
selected_grown (taken {v} s) = edited (same v) (selected_grown s)
selected_grown (left s) = added (selected_grown s)

selected_sum : (set : VirtualLink → Bool) (f : VirtualLink → ℕ) {a b : List VirtualLink} → Selection a b → sum_over set f a ≤ sum_over set f b
unfolding sum_over
selected_sum set f over = le_refl 0
selected_sum set f (taken s) = omega (arith, selected_sum set f s)
selected_sum set f (left s) = omega (arith, selected_sum set f s)

-- ---- a selection passes where its table does, if there is a link in it

-- numbers above one are above those that it is above
above_all : (n m : ℕ) (previous : Option ℕ) → not_above n (some m) ≡ false → not_above m previous ≡ false → not_above n previous ≡ false
unfolding not_above
above_all n m none x y = refl
above_all n m (some k) x y = lt-leb n k (omega (arith, leb-false n m x, leb-false m k y))

module _ (lines : ℕ) where
  links_after : (m : ℕ) (previous : Option ℕ) (links : List VirtualLink) → not_above m previous ≡ false → NoneMet (links_checks lines (some m) links) → NoneMet (links_checks lines previous links)
  unfolding links_checks
  links_after m previous [] x pass = tt
  links_after m previous (v ∷ links) x pass = (pass.0, (above_all v.number m previous pass.1.0 x, pass.1.1))

  selected_links : {a b : List VirtualLink} → Selection a b → (previous : Option ℕ) → NoneMet (links_checks lines previous b) → NoneMet (links_checks lines previous a)
  unfolding links_checks
  selected_links over previous pass = tt
  selected_links (taken {v} s) previous pass = (pass.0, (pass.1.0, selected_links s (some v.number) pass.1.1))
  selected_links (left {v} {part} {whole} s) previous pass = selected_links s previous (links_after v.number previous whole pass.1.0 pass.1.1)

  selected_carried : {a b : List VirtualLink} → Selection a b → none_oversold lines b ≡ true → none_oversold lines a ≡ true
  unfolding none_oversold reserved_on
  selected_carried {a} {b} s e =
      to_all _ lines
      (λ ℓ l. le-leb _ line_capacity (le_trans (selected_sum (λ v. eqb v.line ℓ) reservation s) (leb-true _ line_capacity (all_to_lem (λ ℓ. leb (reserved_on b ℓ) line_capacity) lines e ℓ l))))

module _ (t : Table) (passes : table_refusal t ≡ 0) where
  counts_pass : (n : ℕ) → 0 < n → n ≤ length t.links → counts_in_range t.lines n ≡ true
  unfolding counts_in_range
  counts_pass n some_link few =
      let c = (is_passing t passes).counts in
      true_all _ (le-leb 1 t.lines c.some_line, (le-leb t.lines 24 c.lines_most, (le-leb 1 n some_link, (le-leb n 256 (omega (arith, c.links_most)), tt))))

  pub selected_passes : (links : List VirtualLink) → Selection links t.links → 0 < length links → table_refusal (with_links t links) ≡ 0
  selected_passes links s some_link =
      parts_unmet (with_links t links) (ap not (counts_pass (length links) some_link (selected_length s)), tt) (selected_links t.lines s none (links_unmet t passes))
      (ap not (selected_carried t.lines s (is_passing t passes).carried), tt) (sizes_unmet t passes)

  -- ---- a table with few links has bounds
  pub at_least_three : (links : List VirtualLink) → bounds_refusal (with_links t links) ≡ 8 → 3 ≤ length links
  at_least_three links e =
      elim (dec_le 3 (length links)) [
        | yes l ↦ l
        | no l ↦ absurd (omega (arith, e, few_have_bounds (with_links t links) (lacks_passes (with_links t links) e) (omega arith)))
      ]

  module _ (links : List VirtualLink) where
    pub lacks_so : lacks_bounds (with_links t links) ≡ true → bounds_refusal (with_links t links) ≡ 8
    unfolding lacks_bounds
    lacks_so e = eqb-true (bounds_refusal (with_links t links)) 8 e

    pub has_so : Selection links t.links → 0 < length links → lacks_bounds (with_links t links) ≡ false → bounds_refusal (with_links t links) ≡ 0
    unfolding lacks_bounds
    has_so s some_link e = go (has_or_lacks (with_links t links) (selected_passes links s some_link))
      where
        go : (bounds_refusal (with_links t links) ≡ 0) ⊎ (bounds_refusal (with_links t links) ≡ 8) → bounds_refusal (with_links t links) ≡ 0
        go (inl x) = x
        go (inr x) = absurd (let z : ◌≡◌ {A = ℕ} 0 1 = let y : true ≡ false = sym (eq-eqb (bounds_refusal (with_links t links)) 8 x) ∙ e in cc in omega arith)

  -- ---- what remains: of the links not yet tried those that stay, without any one of which there are bounds
  record Remains (kept untried : List VirtualLink) : Type 0 where
    stay : List VirtualLink
    is : remaining t kept untried ≡ kept ++ stay
    selected : Selection stay untried
    lacks : bounds_refusal (with_links t (kept ++ stay)) ≡ 8
    needed : (before after : List VirtualLink) (v : VirtualLink) → stay ≡ before ++ (v ∷ after) → bounds_refusal (with_links t (kept ++ (before ++ after))) ≡ 0

  -- what was against a link early is against it later: fewer links are kept then
  module _ (kept untried : List VirtualLink) (v : VirtualLink) (s : Selection (kept ++ (v ∷ untried)) t.links) (has : bounds_refusal (with_links t (kept ++ untried)) ≡ 0)
      (stay : List VirtualLink) (chosen : Selection stay untried) (lacks : bounds_refusal (with_links t (kept ++ (v ∷ stay))) ≡ 8) where
    still_has : bounds_refusal (with_links t (kept ++ stay)) ≡ 0
    still_has =
        let within : Selection (kept ++ stay) (kept ++ untried) = behind kept chosen in
        let of-table : Selection (kept ++ untried) t.links = selected_of (behind kept (left (all_selected untried))) s in
        let some_link : 0 < length (kept ++ stay) = omega (arith, at_least_three (kept ++ (v ∷ stay)) lacks, length-append kept (v ∷ stay), length-append kept stay) in
        bounds_kept (with_links t (kept ++ stay)) (with_links t (kept ++ untried)) (selected_grown within) (selected_passes (kept ++ stay) (selected_of within of-table) some_link) has

  remains : (kept untried : List VirtualLink) → Selection (kept ++ untried) t.links → bounds_refusal (with_links t (kept ++ untried)) ≡ 8 → Remains kept untried
  unfolding remaining
  remains kept [] s e =
      record {
        stay = [];
        is = sym (append-nil kept);
        selected = over;
        lacks = e;
        needed = λ before after v x. absurd (omega (arith, ap length x, length-append before (v ∷ after)));
      }
  remains kept (v ∷ untried) s e =
      go (lacks_bounds (with_links t (kept ++ untried))) refl (remains kept untried (selected_of (behind kept (left (all_selected untried))) s))
      (remains (kept ++ (v ∷ [])) untried (rw (append_assoc kept (v ∷ []) untried) s) (rw (append_assoc kept (v ∷ []) untried) e))
    where
      go : (b : Bool) → lacks_bounds (with_links t (kept ++ untried)) ≡ b → (bounds_refusal (with_links t (kept ++ untried)) ≡ 8 → Remains kept untried) → Remains (kept ++ (v ∷ [])) untried → Remains kept (v ∷ untried)
      go true q removed stays =
          let r = removed (lacks_so (kept ++ untried) q) in
          record { stay = r.stay; is = rw q r.is; selected = left r.selected; lacks = r.lacks; needed = r.needed }
      go false q removed r =
          record {
            stay = v ∷ r.stay;
            is = rw q (r.is ∙ append_assoc kept (v ∷ []) r.stay);
            selected = taken r.selected;
            lacks = lacks;
            needed = needed;
          }
        where
          lacks : bounds_refusal (with_links t (kept ++ (v ∷ r.stay))) ≡ 8
          lacks = rw (append_assoc kept (v ∷ []) r.stay) at r.lacks

          some_link : 0 < length (kept ++ untried)
          some_link = omega (arith, at_least_three (kept ++ (v ∷ untried)) e, length-append kept (v ∷ untried), length-append kept untried)

          has : bounds_refusal (with_links t (kept ++ untried)) ≡ 0
          has = has_so (kept ++ untried) (selected_of (behind kept (left (all_selected untried))) s) some_link q

          needed : (before after : List VirtualLink) (u : VirtualLink) → v ∷ r.stay ≡ before ++ (u ∷ after) → bounds_refusal (with_links t (kept ++ (before ++ after))) ≡ 0
          needed [] after u x = let y : r.stay ≡ after = cc in rw y at (still_has kept untried v s has r.stay r.selected lacks)
          needed (b ∷ before) after u x =
              let y : r.stay ≡ before ++ (u ∷ after) = cc in
              let z : v ≡ b = cc in
              rw (← z) (rw (append_assoc kept (v ∷ []) (before ++ after)) at (r.needed before after u y))

-- ---- the answer
core_refused : (t : Table) → (core t).refused ≡ core_refusal t
unfolding core core_or
core_refused t = go (core_refusal t)
  where
    go : (n : ℕ) → (core_or n t).refused ≡ n
    go zero = refl
    go (suc n) = refl

pub core_is : (t : Table) → core_refusal t ≡ 0 → core t ≡ record { refused = 0; table = with_links t (core_links t) }
unfolding core core_or
core_is t e = rw e

-- 0 exactly where there are no bounds
pub refused_none : (t : Table) → bounds_refusal t ≡ 8 → core_refusal t ≡ 0
unfolding core_refusal first_refusal first_met
refused_none t e = rw (lacks_passes t e, e)

refused_not : (t : Table) → core_refusal t ≡ 0 → bounds_refusal t ≡ 8
unfolding core_refusal first_refusal first_met
refused_not t e = go (table_refusal t) refl e
  where
    go : (n : ℕ) → table_refusal t ≡ n → first_refusal n (first_met (check 26 (eqb (bounds_refusal t) 0) ∷ [])) ≡ 0 → bounds_refusal t ≡ 8
    go (suc n) q x = absurd (omega arith)
    go zero q x = decided (has_or_lacks t q) x
      where
        decided : (bounds_refusal t ≡ 0) ⊎ (bounds_refusal t ≡ 8) → first_met (check 26 (eqb (bounds_refusal t) 0) ∷ []) ≡ 0 → bounds_refusal t ≡ 8
        decided (inl y) z = absurd (let k : 26 ≡ 0 = rw y at z in omega arith)
        decided (inr y) z = y

pub core_answered : CoreAnswered
unfolding core_refusal first_refusal first_met
core_answered t =
    (λ e. core_refused t ∙ refused_none t e, λ e. core_refused t ∙ rw ((has_bounds t e).table, e), λ z. core_refused t ∙ go (table_refusal t) z)
  where
    go : (n : ℕ) → (n ≡ 0 → ⊥) → first_refusal n (first_met (check 26 (eqb (bounds_refusal t) 0) ∷ [])) ≡ n
    go zero z = absurd (z refl)
    go (suc n) z = refl

pub core_breaks : CoreBreaks
unfolding core_links
core_breaks t e =
    let free : core_refusal t ≡ 0 = sym (core_refused t) ∙ e in
    let lacking : bounds_refusal t ≡ 8 = refused_not t free in
    let passes : table_refusal t ≡ 0 = lacks_passes t lacking in
    let r = remains t passes [] t.links (all_selected t.links) lacking in
    rw (core_is t free, r.is)
    (record {
      lines_kept = refl;
      sizes_kept = refl;
      selected = r.selected;
      lacks = r.lacks;
      needed = r.needed;
      three = at_least_three t passes r.stay r.lacks;
    })
