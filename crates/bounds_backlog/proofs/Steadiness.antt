-- Where no link's number of frames changes, the loads stay as they are.
use mathlib.Core.Path.{◌≡◌, refl, sym, ◌∙◌}
use mathlib.Core.Bool.{Bool, true, false, ◌&&◌}
use mathlib.Core.List.{List}
use Prim.Native.Nat.{ℕ, zero, suc, ◌+◌, ◌-◌, ◌*◌, ◌/◌, ◌≤◌, ◌<◌, min}
use native.Mathlib.Nat.{mul-le-mul_left, div-lt_iff_lt-mul, lt-mul-div-succ}
use native.Mathlib.Decide.{dec_le}
use native.Mathlib.Numerals.{add-one}
use native.Mathlib.Omega.{arith}
use lib.Dec.{eqb, leb}
use borrow.Author.Tests.{lt-leb}
use lib.ListN.{length, get_or, take}
use lib.Seq.{take_all}
use Rattle.model.specs.Basics.{provided}
use Rattle.model.specs.Link.{VirtualLink, bag_of, bag, link_at, sum_over}
use Rattle.model.specs.Table.{table_refusal}
use Rattle.model.specs.Arrival.{frame_curve, on_line}
use Rattle.model.proofs.Bags.{bag_positive}
use Rattle.model.proofs.Curves.{frame_curve_mono}
use Rattle.table.specs.declared.VirtualLink.{VirtualLink as LinkFields}
use Rattle.table.specs.declared.Table.{Table as TableRecord}
use Rattle.table.specs.View.{view_link, blank_fields, view_links, view_table}
use Rattle.bounds_arrivals.specs.declared.Loads.{Loads}
use Rattle.table.proofs.PassingRecord.{entry_is}
use Rattle.bounds_arrivals.specs.Loads.{within, between, line_sum, Loaded, flow}
use Rattle.bounds_arrivals.proofs.Sums.{sum_more}
use Rattle.bounds_backlog.specs.Peaks.{Bends}
use Rattle.bounds_backlog.specs.Stretches.{Stays, LinkSteady, Steady}
use Rattle.bounds_backlog.proofs.Bending.{ramp_bends, sum_bends}

-- ---- one link: up to the next multiple of B, less J and 1
module _ (v : VirtualLink) (w : ℕ) where
  past : w + v.jitter < frame_curve v w * bag v
  unfolding frame_curve
  past = omega (arith, lt-mul-div-succ (w + v.jitter) {b = bag v} (bag_positive v))

  same_frames : (k : ℕ) → w ≤ k → k + v.jitter < frame_curve v w * bag v → frame_curve v k ≡ frame_curve v w
  unfolding frame_curve
  same_frames k x y =
      let a = frame_curve_mono v w k x in
      let z : (k + v.jitter) / bag v < 1 + (w + v.jitter) / bag v = (div-lt_iff_lt-mul {k = bag v} {x = k + v.jitter} {y = 1 + (w + v.jitter) / bag v} (bag_positive v)).1 y in
      omega arith

-- with the numbers as the code has them
module _ (l : LinkFields) (w n b j : ℕ) (p : (number : ℕ) → n ≡ frame_curve (view_link number l) w) (q : b ≡ bag_of l.code) (e : j ≡ l.jitter) where
  pub past_window : w + j < n * b
  past_window = rw (p 0, q, e) (past (view_link 0 l) w)

  pub link_steady : (high : ℕ) → LinkSteady l high w (n * b - j - 1)
  link_steady high = record {
    past = omega (arith, past_window);
    stays =
        λ number t k x y.
        (let m = past_window in
        let z : k + l.jitter < n * b = omega arith in
        same_frames (view_link number l) w k x (rw (← p number, ← q) z));
  }

pub product_fits : (n b : ℕ) → n ≤ 16 → b ≤ 1_600_000 → n * b ≤ 25_600_000
product_fits n b h k = omega (arith, mul-le-mul_left n k)

stays_out : (high : ℕ) (v : VirtualLink) (w e : ℕ) → high < v.priority → Stays (between 0 high) v w e
unfolding within
stays_out high v w e h q =
    absurd (let z : ◌≡◌ {A = ℕ} 0 1 = let y : false ≡ true = go (leb 0 v.priority) (rw (lt-leb v.priority high h) at q) in cc in omega arith)
  where
    go : (b : Bool) → (b && false) ≡ true → false ≡ true
    go true q = q
    go false q = q

pub link_out : (l : LinkFields) (high w : ℕ) → w < 65_536 → high < l.priority → LinkSteady l high w 65_535
link_out l high w k h = record { past = omega arith; stays = λ number. stays_out high (view_link number l) w 65_535 h }

-- ---- all links
module _ (s : VirtualLink → Bool) where
  pub stays_less : (v : VirtualLink) (w e d : ℕ) → d ≤ e → Stays s v w e → Stays s v w d
  stays_less v w e d h t q k x y = t q k x (omega arith)

  pub steady_less : (links : List VirtualLink) (n w e d : ℕ) → d ≤ e → Steady s links n w e → Steady s links n w d
  steady_less links n w e d h t i l = stays_less (link_at links i) w e d h (t i l)

  pub steady_more : (links : List VirtualLink) (i w e d r : ℕ) → Steady s links i w e → Stays s (link_at links i) w d → r ≡ min e d → Steady s links (i + 1) w r
  steady_more links i w e d r t u q j h = go (dec_le i j)
    where
      go : Dec (i ≤ j) → Stays s (link_at links j) w r
      go (yes x) = let y : j ≡ i = omega arith in rw y (stays_less (link_at links i) w d r (omega arith) u)
      go (no x) = stays_less (link_at links j) w e r (omega arith) (t j (omega arith))

-- one link of the table more
pub steady_step : (t : TableRecord) → table_refusal (view_table t) ≡ 0 → (i : ℕ) → i < t.count → (w high d : ℕ) → LinkSteady (get_or t.links i blank_fields) high w d → (last r : ℕ)
    → Steady (between 0 high) (view_links t) i w last → r ≡ min last d → Steady (between 0 high) (view_links t) (i + 1) w r
steady_step t pass i h w high d s last r a q =
    steady_more (between 0 high) (view_links t) i w last d r a (rw (entry_is t pass i h) (s.stays (get_or t.numbers i 0))) q

-- the loads of a part of the set stay
module _ (weight : ℕ → ℕ) (s part : VirtualLink → Bool) (sub : (v : VirtualLink) → part v ≡ true → s v ≡ true) (links : List VirtualLink) (w e : ℕ)
    (st : Steady s links (length links) w e) (k : ℕ) (h : w ≤ k) (l : k ≤ e) where
  term_same : (i ℓ : ℕ) → i < length links
      → provided (on_line part ℓ (link_at links i)) (weight (link_at links i).greatest * frame_curve (link_at links i) k)
      ≡ provided (on_line part ℓ (link_at links i)) (weight (link_at links i).greatest * frame_curve (link_at links i) w)
  unfolding on_line provided
  term_same i ℓ j = go (part (link_at links i)) refl
    where
      go : (b : Bool) → part (link_at links i) ≡ b
          → provided (part (link_at links i) && eqb (link_at links i).line ℓ) (weight (link_at links i).greatest * frame_curve (link_at links i) k)
          ≡ provided (part (link_at links i) && eqb (link_at links i).line ℓ) (weight (link_at links i).greatest * frame_curve (link_at links i) w)
      go true q = rw (st i j (sub (link_at links i) q) k h l)
      go false q = rw q

  sum_same : (i ℓ : ℕ) → i ≤ length links → line_sum weight part (take i links) ℓ k ≡ line_sum weight part (take i links) ℓ w
  unfolding sum_over
  sum_same zero ℓ j = refl
  sum_same (suc i) ℓ j =
      let a = sum_more (on_line part ℓ) (λ v. weight v.greatest * frame_curve v k) links i j in
      let b = sum_more (on_line part ℓ) (λ v. weight v.greatest * frame_curve v w) links i j in
      rw (← add-one i) (omega (arith, term_same i ℓ j, sum_same i ℓ (omega arith)))

  pub load_stays : (d : Loads) → Loaded weight part links w d → Loaded weight part links k d
  load_stays d o = record {
    sums24 = o.sums24;
    tops24 = o.tops24;
    sum = λ ℓ j. o.sum ℓ j ∙ sym (rw (take_all (length links) links (omega arith)) at (sum_same (length links) ℓ (omega arith)));
    top = o.top;
  }

pub flow_bends : (l : Loads) (lines s e : ℕ) → Bends (flow l lines) s e
unfolding flow
flow_bends l lines s e = sum_bends (λ ℓ k. min (get_or l.sums ℓ 0) (k + get_or l.tops ℓ 0)) lines s e (λ ℓ. ramp_bends (get_or l.sums ℓ 0) (get_or l.tops ℓ 0) s e)
