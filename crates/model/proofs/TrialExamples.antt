-- The examples of the handful that breaks a table with many links: what remains by trials, each settled by a climb; and all of them.
use mathlib.Core.Path.{◌≡◌, refl, ap, ◌∙◌}
use mathlib.Core.Bool.{Bool, true, false, cond}
use mathlib.Core.Option.{Option, none, some}
use mathlib.Core.List.{List, [], ◌∷◌, ◌++◌, append_assoc}
use Prim.Native.Nat.{ℕ}
use native.Mathlib.Omega.{arith}
use lib.Dec.{eqb}
use lib.ListN.{length-append}
use Rattle.model.specs.Basics.{Each, done, also}
use Rattle.model.specs.Link.{VirtualLink}
use Rattle.model.specs.Table.{Table, table_refusal}
use Rattle.model.specs.Bounds.{bounds_refusal}
use Rattle.model.specs.OverloadCore.{with_links, lacks_bounds, remaining, core_links, core}
use Rattle.model.specs.Promises.{Selection, left}
use Rattle.model.specs.Examples.{three_then_busy, busy_then_three, remain, cores, Correct}
use Rattle.model.specs.Examples as example
use Rattle.model.proofs.OverloadCore.{all_selected, selected_of, behind, selected_passes, at_least_three, core_is, refused_none}
use Rattle.model.proofs.ClimbedExamples.{the_checks}
use Rattle.model.proofs.CoreExamples.{climbs_past, climbed_lacks, climbed_has, the_demand}
use Rattle.model.proofs.CoreExamples as shown

-- ---- what remains, each trial by a climb
unfoldable pub by_trial : Option Bool → Option (List VirtualLink) → Option (List VirtualLink) → Option (List VirtualLink)
by_trial none removed stays = none
by_trial (some true) removed stays = removed
by_trial (some false) removed stays = stays

unfoldable pub remaining_by : ℕ → List VirtualLink → List VirtualLink → Option (List VirtualLink)
remaining_by n kept [] = some kept
remaining_by n kept (v ∷ untried) =
    let removed = remaining_by n kept untried in
    let stays = remaining_by n (kept ++ (v ∷ [])) untried in
    by_trial (climbs_past n (kept ++ untried) 1) removed stays

module _ (t : Table) (passes : table_refusal t ≡ 0) (n : ℕ) where
  remains_by : (kept untried r : List VirtualLink) → Selection (kept ++ untried) t.links → bounds_refusal (with_links t (kept ++ untried)) ≡ 8 → remaining_by n kept untried ≡ some r → remaining t kept untried ≡ r
  unfolding remaining remaining_by by_trial lacks_bounds
  remains_by kept [] r s e x = cc
  remains_by kept (v ∷ untried) r s e x =
      go (climbs_past n (kept ++ untried) 1) refl (remains_by kept untried r within)
      (remains_by (kept ++ (v ∷ [])) untried r (rw (append_assoc kept (v ∷ []) untried) s) (rw (append_assoc kept (v ∷ []) untried) e))
    where
      within : Selection (kept ++ untried) t.links
      within = selected_of (behind kept (left (all_selected untried))) s

      trial : table_refusal (with_links t (kept ++ untried)) ≡ 0
      trial = selected_passes t passes (kept ++ untried) within (omega (arith, at_least_three t passes (kept ++ (v ∷ untried)) e, length-append kept (v ∷ untried), length-append kept untried))

      go : (o : Option Bool) → climbs_past n (kept ++ untried) 1 ≡ o → (bounds_refusal (with_links t (kept ++ untried)) ≡ 8 → remaining_by n kept untried ≡ some r → remaining t kept untried ≡ r)
          → (remaining_by n (kept ++ (v ∷ [])) untried ≡ some r → remaining t (kept ++ (v ∷ [])) untried ≡ r)
          → cond (eqb (bounds_refusal (with_links t (kept ++ untried))) 8) (remaining t kept untried) (remaining t (kept ++ (v ∷ [])) untried) ≡ r
      go none q removed stays = absurd (let z : ◌≡◌ {A = ℕ} 0 1 = let y : ◌≡◌ {A = Option (List VirtualLink)} none (some r) = rw q at x in cc in omega arith)
      go (some true) q removed stays =
          let lacks = climbed_lacks (kept ++ untried) t n trial q in
          rw lacks (removed lacks (rw q at x))
      go (some false) q removed stays = rw (climbed_has (kept ++ untried) t n trial q) (stays (rw q at x))

  pub core_by : (r : List VirtualLink) → climbs_past n t.links 1 ≡ some true → remaining_by n [] t.links ≡ some r → core t ≡ remain t r
  unfolding core_links
  core_by r e x =
      let lacks : bounds_refusal t ≡ 8 = climbed_lacks t.links t n passes e in
      core_is t (refused_none t lacks) ∙ ap (remain t) (remains_by [] t.links r (all_selected t.links) lacks x)

-- names for all that the trials compute with
the_trials : ℕ
unfolding remaining_by by_trial the_demand
the_trials = 0

-- ---- the 43 of example j, and three
three_first_passes : table_refusal three_then_busy ≡ 0
unfolding the_checks
three_first_passes = refl

pub core_busy : Correct example.core_busy
unfolding Correct the_trials
core_busy = core_by three_then_busy three_first_passes 8 _ refl refl

busy_first_passes : table_refusal busy_then_three ≡ 0
unfolding the_checks
busy_first_passes = refl

pub core_three : Correct example.core_three
unfolding Correct the_trials
core_three = core_by busy_then_three busy_first_passes 8 _ refl refl

pub cores_correct : Each Correct cores
cores_correct = also shown.core_j4 (also shown.core_j5 (also core_busy (also core_three (also shown.core_none (also shown.core_over (also shown.sold_j4 (also shown.sold_exact (also shown.sold_more (also shown.sold_none done)))))))))
