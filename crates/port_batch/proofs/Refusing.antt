-- The refusals of a batch; and a batch each of whose reports is refused.
use borrow.Rule.Slice.PartMut.{put_mid}
use mathlib.Core.Path.{◌≡◌, refl, sym, ap, ◌∙◌}
use mathlib.Core.Bool.{true, false, not}
use mathlib.Core.List.{List, [], ◌∷◌, ◌++◌, flat_map}
use Prim.Native.Nat.{ℕ, zero, suc, ◌+◌, ◌-◌, ◌*◌, ◌/◌, ◌%◌, ◌≤◌, ◌<◌}
use native.Mathlib.Omega.{arith}
use borrow.Author.Tests.{lt-ltb, le-ltb, ltb-false}
use lib.ListN.{length, get_or, drop, length-drop}
use Rattle.model.specs.Basics.{done, also, check, first_met}
use Rattle.model.specs.Table.{Table}
use Rattle.model.specs.Port.{Port}
use Rattle.model.specs.Fitness.{fit}
use Rattle.model.specs.Report.{Report, Call, refusal, accepted_or, report_refusal, step}
use Rattle.model.specs.Batch.{reports_in, are_reports, answers_check, batch_refusal, Batched, batch, answer_numbers, departure_numbers, frames_freed, over}
use Rattle.model.proofs.Checks.{first_here, first_later, first_none, none_met}
use Rattle.model.proofs.Refusals.{refusal_unfit}
use Rattle.model.proofs.Reports.{known_form, unknown_form, none_left, odd_length}
use Rattle.model.proofs.Batches.{over_more}
use Rattle.flat_queues.proofs.Slots.{three_put}
use Rattle.flat_batch.specs.Promised.{AllRefused}
use Rattle.port_batch.specs.Promised.{unfit}

-- ---- 19: the forms from i on tell what all forms do
module _ (l : List ℕ) (i : ℕ) (e : are_reports (drop (5 * i) l) ≡ are_reports l) where
  pub is_unknown : 5 * (i + 1) ≤ length l → 1 < get_or l (5 * i) 0 → false ≡ are_reports l
  is_unknown h k = sym (unknown_form l i h k) ∙ e

  pub is_known : 5 * (i + 1) ≤ length l → get_or l (5 * i) 0 ≤ 1 → are_reports (drop (5 * (i + 1)) l) ≡ are_reports l
  is_known h k = sym (known_form l i h k) ∙ e

  pub all_known : length l ≤ 5 * i → true ≡ are_reports l
  all_known h = sym (none_left (drop (5 * i) l) (rw length-drop (omega arith))) ∙ e

pub no_multiple : (l : List ℕ) → (length l % 5 ≡ 0 → ⊥) → false ≡ are_reports l
no_multiple l z = sym (odd_length l z)

-- ---- 19, then 20
module _ (l : List ℕ) (room : ℕ) where
  pub no_reports : are_reports l ≡ false → 19 ≡ batch_refusal l room
  unfolding batch_refusal
  no_reports e = sym (first_here (check 19 (not (are_reports l))) _ (rw e))

  module _ (e : are_reports l ≡ true) where
    past : batch_refusal l room ≡ first_met (answers_check room (length l / 5) ∷ [])
    unfolding batch_refusal
    past = first_later (check 19 (not (are_reports l))) _ (rw e)

    pub no_room : room < 3 * (length l / 5) → 20 ≡ batch_refusal l room
    no_room h = sym (past ∙ first_here (answers_check room (length l / 5)) [] (lt-ltb room (3 * (length l / 5)) h))

    pub roomy : 3 * (length l / 5) ≤ room → 0 ≡ batch_refusal l room
    roomy h = sym (past ∙ first_none (answers_check room (length l / 5) ∷ []) (le-ltb room (3 * (length l / 5)) h, tt))

-- what is not refused has room for its answers
pub has_room : (l : List ℕ) (room : ℕ) → batch_refusal l room ≡ 0 → 3 * (length l / 5) ≤ room
unfolding batch_refusal
has_room l room e = ltb-false room (3 * (length l / 5)) (none_met (check 19 (not (are_reports l)) ∷ answers_check room (length l / 5) ∷ []) (omega arith) e).1.0

-- ---- 10 for each
length_unfit : (n : ℕ) → length (unfit n) ≡ 3 * n
unfolding unfit
length_unfit zero = refl
length_unfit (suc n) = omega (arith, length_unfit n)

unfit_more : (n : ℕ) → unfit (n + 1) ≡ unfit n ++ (10 ∷ 0 ∷ 0 ∷ [])
unfolding unfit
unfit_more n = let e : n + 1 ≡ suc n = omega arith in rw e (go n)
  where
    go : (n : ℕ) → unfit (suc n) ≡ unfit n ++ (10 ∷ 0 ∷ 0 ∷ [])
    go zero = refl
    go (suc n) = ap (λ (l : List ℕ). 10 ∷ 0 ∷ 0 ∷ l) (go n)

pub refuses_one : (old l l' : List ℕ) (i : ℕ) → l ≡ over (unfit i) old → {numbers : List ℕ} → numbers ≡ 10 ∷ 0 ∷ 0 ∷ [] → l' ≡ put_mid (3 * i) (3 * i + 3 - 3 * i) l numbers → l' ≡ over (unfit (i + 1)) old
refuses_one old l l' i e n q = q ∙ three_put l (3 * i) 10 0 0 n ∙ over_more (unfit i) (10 ∷ 0 ∷ 0 ∷ []) old l (3 * i) (length_unfit i) e ∙ ap (λ (x : List ℕ). over x old) (sym (unfit_more i))

pub nothing_yet : (old : List ℕ) → old ≡ over (unfit 0) old
unfolding unfit
nothing_yet old = refl

pub all_refused : (old l : List ℕ) {i n : ℕ} → i ≡ n → l ≡ over (unfit i) old → l ≡ over (unfit n) old
all_refused old l e q = rw (← e) q

-- ---- a batch each of whose reports is refused
refused_step : (t : Table) (s : Port) (c : Call) → ((step t s c).answer.refused ≡ 0 → ⊥) → (n : ℕ) × (step t s c ≡ record { port = s; answer = refusal n; list = c.list })
unfolding step accepted_or
refused_step t s c z = go (report_refusal t s c.report (length c.list)) z
  where
    go : (n : ℕ) → ((accepted_or n t s c).answer.refused ≡ 0 → ⊥) → (m : ℕ) × (accepted_or n t s c ≡ record { port = s; answer = refusal m; list = c.list })
    go zero x = absurd (x refl)
    go (suc n) x = (suc n, refl)

pub record Untouched (s : Port) (b : Batched) : Type 0 where
  pub port : b.port ≡ s
  pub written : flat_map departure_numbers b.entries ≡ []
  pub freed : frames_freed b.entries ≡ 0

one_refused : (t : Table) (s : Port) (r : Report) (reports : List Report) (list : List ℕ) (n : ℕ) → step t s (record { report = r; list = list }) ≡ record { port = s; answer = refusal n; list = list } →
    (AllRefused (batch t s reports list).entries → Untouched s (batch t s reports list)) → AllRefused (batch t s (r ∷ reports) list).entries → Untouched s (batch t s (r ∷ reports) list)
unfolding batch frames_freed flat_map
one_refused t s r reports list n e rest x = rw e (go (rw e at x))
  where
    go : AllRefused (record { report = r; answer = refusal n; list = list } ∷ (batch t s reports list).entries) →
        Untouched s (record { port = (batch t s reports list).port; entries = record { report = r; answer = refusal n; list = list } ∷ (batch t s reports list).entries })
    go (also z y) = let k = rest y in record { port = k.port; written = k.written; freed = omega (arith, k.freed) }

head_refused : (t : Table) (s : Port) (r : Report) (reports : List Report) (list : List ℕ) → AllRefused (batch t s (r ∷ reports) list).entries → (step t s (record { report = r; list = list })).answer.refused ≡ 0 → ⊥
unfolding batch
head_refused t s r reports list (also z x) = z

pub untouched : (t : Table) (s : Port) (reports : List Report) (list : List ℕ) → AllRefused (batch t s reports list).entries → Untouched s (batch t s reports list)
unfolding batch frames_freed flat_map
untouched t s [] list x = record { port = refl; written = refl; freed = refl }
untouched t s (r ∷ reports) list x =
    let k = refused_step t s (record { report = r; list = list }) (head_refused t s r reports list x) in
    one_refused t s r reports list k.0 k.1 (untouched t s reports list) x

-- not fit: 10 for each report
unfit_step : (t : Table) (s : Port) (c : Call) → fit t s ≡ false → step t s c ≡ record { port = s; answer = refusal 10; list = c.list }
unfolding step accepted_or
unfit_step t s c e = rw (refusal_unfit t s c.report (length c.list) e)

pub record Unfit (n : ℕ) (b : Batched) : Type 0 where
  pub answers : flat_map answer_numbers b.entries ≡ unfit n
  pub refused : AllRefused b.entries

pub unfit_batch : (t : Table) (s : Port) → fit t s ≡ false → (reports : List Report) (list : List ℕ) → Unfit (length reports) (batch t s reports list)
unfolding batch flat_map unfit
unfit_batch t s e [] list = record { answers = refl; refused = done }
unfit_batch t s e (r ∷ reports) list =
    let q = unfit_step t s (record { report = r; list = list }) e in
    let k = unfit_batch t s e reports list in
    rw q (record { answers = ap (λ (l : List ℕ). 10 ∷ 0 ∷ 0 ∷ l) k.answers; refused = also (λ z. let y : ◌≡◌ {A = ℕ} 10 0 = z in omega arith) k.refused })

pub report_count : (l : List ℕ) → length (reports_in l) ≡ length l / 5
unfolding reports_in
report_count [] = refl
report_count (a ∷ []) = refl
report_count (a ∷ b ∷ []) = refl
report_count (a ∷ b ∷ c ∷ []) = refl
report_count (a ∷ b ∷ c ∷ d ∷ []) = refl
report_count (a ∷ b ∷ c ∷ d ∷ e ∷ l) = omega (arith, report_count l)
