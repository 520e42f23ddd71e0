-- Whether a table has bounds: by what all its links together may send, whatever their lines and priorities; and so by its last hold.
use mathlib.Core.Path.{◌≡◌, refl}
use mathlib.Core.Logic.{◌⊎◌, inl, inr}
use mathlib.Core.Bool.{Bool, true, false, ◌&&◌}
use mathlib.Core.Option.{Option, none, some}
use mathlib.Core.List.{List, [], ◌∷◌, Memᴰ}
use Prim.Native.Nat.{ℕ, ◌+◌, ◌-◌, ◌*◌, ◌≤◌, ◌<◌, max}
use native.Mathlib.Nat.{le_refl, le_trans, mul-le-mul, mul-le-mul_left, div-lt_iff_lt-mul}
use native.Mathlib.Decide.{dec_le}
use native.Mathlib.Omega.{arith}
use lib.Dec.{eqb, leb, ltb}
use lib.ListN.{length}
use borrow.Author.Tests.{le-leb, lt-leb, lt-ltb, le-ltb}
use Rattle.model.specs.Basics.{provided, sum_to}
use Rattle.model.specs.Link.{VirtualLink, any_of, sum_over, greatest_over}
use Rattle.model.specs.Arrival.{frame_curve, on_line, line_curve, arrival_curve}
use Rattle.model.specs.Table.{Table, table_refusal}
use Rattle.model.specs.Bounds.{up_to, beyond, up_arrivals, blocking, hold_of, is_there, bounds_refusal, or_zero, hold}
use Rattle.model.specs.Promises.{demand, BoundsByDemand, LastHoldDecides, FewHaveBounds}
use Rattle.model.proofs.Bags.{bag_least, bag_positive}
use Rattle.model.proofs.Curves.{provided_le, sum_to_none, sum_to_mono, sum_over_mono, sum_over_within, frame_curve_mono}
use Rattle.model.proofs.Grouping.{sum_to_add, sum_to_one_most}
use Rattle.model.proofs.TableFacts.{FieldsFit, links_unmet}
use Rattle.model.proofs.Passing.{members_pass}
use Rattle.model.proofs.Covering.{frame_some}
use Rattle.model.proofs.Holds.{hold_is, hold_smallest, there_is, has_bounds, all_holds, has_or_lacks}
use Rattle.model.proofs.Reserving.{sent_most}

-- ---- a curve is at most what its links send: each has one line at most
one_line : (b : Bool) (k x lines : ℕ) → sum_to (λ ℓ. provided (b && eqb k ℓ) x) lines ≤ provided b x
unfolding provided
one_line true k x lines = sum_to_one_most k x lines
one_line false k x lines = omega (arith, sum_to_none (λ ℓ. 0) lines (λ ℓ. refl))

by_lines_most : (set : VirtualLink → Bool) (f : VirtualLink → ℕ) (lines : ℕ) (links : List VirtualLink)
    → sum_to (λ ℓ. sum_over (on_line set ℓ) f links) lines ≤ sum_over set f links
unfolding sum_over on_line
by_lines_most set f lines [] = omega (arith, sum_to_none (λ ℓ. 0) lines (λ ℓ. refl))
by_lines_most set f lines (v ∷ links) =
    omega (
      arith,
      one_line (set v) v.line (f v) lines,
      by_lines_most set f lines links,
      sum_to_add (λ ℓ. provided (set v && eqb v.line ℓ) (f v)) (λ ℓ. sum_over (on_line set ℓ) f links) lines,
    )

pub curve_most : (weight : ℕ → ℕ) (set : VirtualLink → Bool) (lines : ℕ) (links : List VirtualLink) (w : ℕ)
    → arrival_curve weight set lines links w ≤ sum_over set (λ v. weight v.greatest * frame_curve v w) links
unfolding arrival_curve line_curve
curve_most weight set lines links w =
    le_trans
    (sum_to_mono _ (λ ℓ. sum_over (on_line set ℓ) (λ v. weight v.greatest * frame_curve v w) links) lines
    (λ ℓ l. le_trans (provided_le (any_of (on_line set ℓ) links) _) (omega arith)))
    (by_lines_most set (λ v. weight v.greatest * frame_curve v w) lines links)

-- ---- b and A_up together are at most what all links send
greatest_sum : (set : VirtualLink → Bool) (f g : VirtualLink → ℕ) → ((v : VirtualLink) → f v ≤ g v) → (links : List VirtualLink) → greatest_over set f links ≤ sum_over set g links
unfolding greatest_over sum_over provided
greatest_sum set f g h [] = le_refl 0
greatest_sum set f g h (v ∷ links) = go (set v) (greatest_sum set f g h links)
  where
    go : (b : Bool) → greatest_over set f links ≤ sum_over set g links → max (provided b (f v)) (greatest_over set f links) ≤ provided b (g v) + sum_over set g links
    go true ih = omega (arith, h v)
    go false ih = omega arith

parted : (p : ℕ) (f : VirtualLink → ℕ) (links : List VirtualLink) → sum_over (beyond p) f links + sum_over (up_to p) f links ≡ sum_over (λ v. true) f links
unfolding sum_over provided beyond up_to
parted p f [] = refl
parted p f (v ∷ links) = go (dec_le v.priority p) (parted p f links)
  where
    go : Dec (v.priority ≤ p) → sum_over (beyond p) f links + sum_over (up_to p) f links ≡ sum_over (λ v. true) f links
        → provided (ltb p v.priority) (f v) + sum_over (beyond p) f links + (provided (leb v.priority p) (f v) + sum_over (up_to p) f links) ≡ f v + sum_over (λ v. true) f links
    go (yes l) ih = rw (le-ltb p v.priority l, le-leb v.priority p l) (omega arith)
    go (no l) ih = rw (lt-ltb p v.priority (omega arith), lt-leb v.priority p (omega arith)) (omega arith)

sent : ℕ → VirtualLink → ℕ
sent w v = v.greatest * frame_curve v w

pub loaded_most : (t : Table) (p w : ℕ) → blocking t p + up_arrivals t p w ≤ demand t.links w
unfolding blocking up_arrivals demand sent
loaded_most t p w =
    omega (
      arith,
      greatest_sum (beyond p) (λ v. v.greatest) (sent w) (λ v. omega (arith, mul-le-mul_left v.greatest (frame_some v w))) t.links,
      curve_most (λ n. n) (up_to p) t.lines t.links w,
      parted p (sent w) t.links,
    )

-- ---- so where they send no more than w until w, every priority has a hold
there : (t : Table) (p w : ℕ) → 1 ≤ w → w ≤ 65_536 → blocking t p + up_arrivals t p (w - 1) ≤ w → is_there (hold_of t p) ≡ true
unfolding is_there
there t p w l m h = go (hold_of t p) refl
  where
    go : (o : Option ℕ) → hold_of t p ≡ o → is_there o ≡ true
    go none e = absurd (omega (arith, (hold_smallest t p).1 e w l m))
    go (some x) e = refl

module _ (t : Table) (passes : table_refusal t ≡ 0) where
  pub sends_few : (w : ℕ) → 1 ≤ w → w ≤ 65_536 → demand t.links (w - 1) ≤ w → bounds_refusal t ≡ 0
  sends_few w l m h = all_holds t passes (λ p _. there t p w l m (le_trans (loaded_most t p (w - 1)) h))

  fits : {v : VirtualLink} → Memᴰ v t.links → FieldsFit t.lines v
  fits m = members_pass t.lines none t.links (links_unmet t passes) m

  -- and the other way round: no line is cut at the hold of the last priority
  last_sends : (w : ℕ) → hold_of t 7 ≡ some w → demand t.links (w - 1) ≤ w
  unfolding demand up_to
  last_sends w is =
      le_trans
      (sum_over_within (λ v. true) (up_to 7) (λ v. v.greatest * frame_curve v (w - 1)) t.links (λ v m e. le-leb v.priority 7 (fits m).priority_most))
      (sent_most t (links_unmet t passes) w is)

  by_last : (w : ℕ) → hold_of t 7 ≡ some w → (1 ≤ w) × (w ≤ 65_536) × (demand t.links (w - 1) ≤ w)
  by_last w is = let h = hold_is t 7 w is in (h.least_is, h.most_is, last_sends w is)

pub bounds_by_demand : BoundsByDemand
bounds_by_demand t passes =
    (λ e. let k = by_last t passes (hold t 7) ((has_bounds t e).holds 7 (omega arith)) in (hold t 7, k.0, k.1, k.2), sends_few t passes)

pub last_hold_decides : LastHoldDecides
last_hold_decides t passes e =
    let k = by_last t passes (or_zero (hold_of t 7)) (there_is (hold_of t 7) e) in
    sends_few t passes (or_zero (hold_of t 7)) k.0 k.1 k.2

-- ---- by climbing: from w to what is sent until w, which never passes a w with no more sent than that

pub demand_grows : (links : List VirtualLink) (w w' : ℕ) → w ≤ w' → demand links w ≤ demand links w'
unfolding demand
demand_grows links w w' l =
    sum_over_mono (λ v. true) (λ v. v.greatest * frame_curve v w) (λ v. v.greatest * frame_curve v w') links (λ v m. mul-le-mul_left v.greatest (frame_curve_mono v w w' l))

-- for each k below w, more than k is sent until k
abbrev pub Overloaded : List VirtualLink → ℕ → Type 0
Overloaded links w = (k : ℕ) → 1 ≤ k → k < w → k < demand links (k - 1)

pub overloaded_start : (links : List VirtualLink) → Overloaded links 1
overloaded_start links k i j = absurd (omega arith)

pub overloaded_more : (links : List VirtualLink) (w : ℕ) → Overloaded links w → w < demand links (w - 1) → Overloaded links (demand links (w - 1))
overloaded_more links w over x k i j =
    elim (dec_le w k) [ yes y ↦ omega (arith, demand_grows links (w - 1) (k - 1) (omega arith)) | no y ↦ over k i (omega arith) ]

pub overloaded_lacks : (t : Table) → table_refusal t ≡ 0 → (w : ℕ) → Overloaded t.links w → 65_536 < w → bounds_refusal t ≡ 8
overloaded_lacks t passes w over l = go (has_or_lacks t passes)
  where
    go : (bounds_refusal t ≡ 0) ⊎ (bounds_refusal t ≡ 8) → bounds_refusal t ≡ 8
    go (inl x) = let h = (bounds_by_demand t passes).0 x in absurd (omega (arith, h.3, over h.0 h.1 (omega (arith, h.2))))
    go (inr x) = x

-- ---- few links: at most 14 frames of each within 43,064 ticks
frames_few : (v : VirtualLink) → v.jitter ≤ 125_000 → frame_curve v 43_063 ≤ 14
unfolding frame_curve
frames_few v h =
    omega (arith, (div-lt_iff_lt-mul {x = 43_063 + v.jitter} {y = 14} (bag_positive v)).1 (omega (arith, bag_least v.code)))

few_send : (lines : ℕ) (links : List VirtualLink) → ((v : VirtualLink) → Memᴰ v links → FieldsFit lines v) → demand links 43_063 ≤ 21_532 * length links
unfolding demand sum_over provided
few_send lines [] h = le_refl 0
few_send lines (v ∷ links) h =
    let f = h v (Memᴰ.head refl) in
    omega (
      arith,
      mul-le-mul f.greatest_most (frames_few v f.jitter_most),
      few_send lines links (λ u m. h u (Memᴰ.tail m)),
    )

pub few_have_bounds : FewHaveBounds
few_have_bounds t passes few =
    sends_few t passes 43_064 (omega arith) (omega arith) (omega (arith, few_send t.lines t.links (λ v m. fits t passes m)))
