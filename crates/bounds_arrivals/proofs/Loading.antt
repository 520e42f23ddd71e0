-- The loads of the lines, one link more; the arrival curve is the flow of the loads.
use mathlib.Core.Path.{◌≡◌, refl, sym}
use mathlib.Core.Logic.{◌≢◌}
use mathlib.Core.Bool.{Bool, true, false, ◌&&◌}
use mathlib.Core.List.{List}
use Prim.Native.Nat.{ℕ, zero, suc, ◌+◌, ◌*◌, ◌/◌, ◌≤◌, ◌<◌, min, max}
use native.Mathlib.Nat.{le_refl}
use native.Mathlib.Numerals.{add-one}
use native.Mathlib.Decide.{ℕ_discrete}
use native.Mathlib.Omega.{arith}
use borrow.Author.Tests.{eq-eqb, ne_eqb}
use lib.ListN.{length, get_or, take, set, length-set, replicate, length-replicate, get_or-replicate}
use lib.Seq.{get_or-set_same, get_or-set_other, take_all}
use Rattle.model.specs.Basics.{provided, sum_to}
use Rattle.model.specs.Link.{VirtualLink, link_at, sum_over, greatest_over}
use Rattle.model.specs.Table.{table_refusal}
use Rattle.model.specs.Arrival.{frame_curve, on_line, line_curve, arrival_curve}
use Rattle.model.proofs.Bags.{bag_least}
use Rattle.table.specs.declared.Table.{Table as TableRecord}
use Rattle.table.specs.View.{view_link, blank_fields, view_links, view_table}
use Rattle.table.proofs.Shape.{count_shown}
use Rattle.table.proofs.PassingRecord.{counts_pass, link_fits, entry_is}
use Rattle.bounds_arrivals.specs.declared.Loads.{Loads}
use Rattle.bounds_arrivals.specs.Loads.{within, between, less, line_sum, line_top, Loaded, flow}
use Rattle.bounds_arrivals.proofs.Sums.{sum_to_eq, sum_more, greatest_more, line_is}
use Rattle.bounds_arrivals.proofs.Fitting.{div_few, product_few, provided_few, view_count, line_in}

provided_mul : (b : Bool) (x n : ℕ) → provided b (x * n) ≡ provided b x * n
unfolding provided
provided_mul true x n = refl
provided_mul false x n = omega arith

on_same : (s : VirtualLink → Bool) (v : VirtualLink) (x : ℕ) → provided (on_line s v.line v) x ≡ provided (s v) x
unfolding on_line
on_same s v x = rw (eq-eqb v.line v.line refl) (go (s v))
  where
    go : (b : Bool) → provided (b && true) x ≡ provided b x
    go true = refl
    go false = refl

on_other : (s : VirtualLink → Bool) (v : VirtualLink) (ℓ x : ℕ) → ℓ ≢ v.line → provided (on_line s ℓ v) x ≡ 0
unfolding on_line provided
on_other s v ℓ x h = rw (ne_eqb v.line ℓ (λ e. h (sym e))) (go (s v))
  where
    go : (b : Bool) → provided (b && false) x ≡ 0
    go true = refl
    go false = refl

on_none : (s : VirtualLink → Bool) (v : VirtualLink) (ℓ x : ℕ) → s v ≡ false → provided (on_line s ℓ v) x ≡ 0
unfolding on_line provided
on_none s v ℓ x q = rw q

abbrev pub loads_of : List ℕ → List ℕ → Loads
loads_of sums tops = record { sums = sums; tops = tops }

-- ---- any set, any weight
module _ (weight : ℕ → ℕ) (s : VirtualLink → Bool) (links : List VirtualLink) (w : ℕ) where
  pub load_none : Loaded weight s (take 0 links) w (loads_of (replicate 24 0) (replicate 24 0))
  unfolding sum_over greatest_over
  load_none = record {
    sums24 = length-replicate {A = ℕ} 24 0;
    tops24 = length-replicate {A = ℕ} 24 0;
    sum = λ ℓ h. get_or-replicate {A = ℕ} 24 ℓ 0 0 h;
    top = λ ℓ h. get_or-replicate {A = ℕ} 24 ℓ 0 0 h;
  }

  -- a link that is no member
  pub load_other : (sums tops : List ℕ) (i : ℕ) → i < length links → Loaded weight s (take i links) w (loads_of sums tops) → (v : VirtualLink) → link_at links i ≡ v → s v ≡ false
      → Loaded weight s (take (i + 1) links) w (loads_of sums tops)
  load_other sums tops i h l v e q = record {
    sums24 = l.sums24;
    tops24 = l.tops24;
    sum =
        λ ℓ k.
        (let m = rw e at (sum_more (on_line s ℓ) (λ u. weight u.greatest * frame_curve u w) links i h) in
        omega (arith, on_none s v ℓ (weight v.greatest * frame_curve v w) q, l.sum ℓ k));
    top =
        λ ℓ k.
        (let m = rw e at (greatest_more (on_line s ℓ) (λ u. weight u.greatest) links i h) in
        omega (arith, on_none s v ℓ (weight v.greatest) q, l.top ℓ k));
  }

  module _ (sums tops : List ℕ) (i : ℕ) (h : i < length links) (l : Loaded weight s (take i links) w (loads_of sums tops)) (v : VirtualLink) (e : link_at links i ≡ v)
      (f : v.line < 24) where
    sum_here : line_sum weight s (take (i + 1) links) v.line w ≡ get_or sums v.line 0 + provided (s v) (weight v.greatest) * frame_curve v w
    sum_here =
        let m = rw e at (sum_more (on_line s v.line) (λ u. weight u.greatest * frame_curve u w) links i h) in
        let o = on_same s v (weight v.greatest * frame_curve v w) in
        let x = provided_mul (s v) (weight v.greatest) (frame_curve v w) in
        omega (arith, l.sum v.line f)

    sum_there : (ℓ : ℕ) → ℓ < 24 → ℓ ≢ v.line → line_sum weight s (take (i + 1) links) ℓ w ≡ get_or sums ℓ 0
    sum_there ℓ k q =
        let m = rw e at (sum_more (on_line s ℓ) (λ u. weight u.greatest * frame_curve u w) links i h) in
        let o = on_other s v ℓ (weight v.greatest * frame_curve v w) q in
        omega (arith, l.sum ℓ k)

    top_here : line_top weight s (take (i + 1) links) v.line ≡ max (get_or tops v.line 0) (provided (s v) (weight v.greatest))
    top_here =
        let m = rw e at (greatest_more (on_line s v.line) (λ u. weight u.greatest) links i h) in
        let o = on_same s v (weight v.greatest) in
        omega (arith, l.top v.line f)

    top_there : (ℓ : ℕ) → ℓ < 24 → ℓ ≢ v.line → line_top weight s (take (i + 1) links) ℓ ≡ get_or tops ℓ 0
    top_there ℓ k q =
        let m = rw e at (greatest_more (on_line s ℓ) (λ u. weight u.greatest) links i h) in
        let o = on_other s v ℓ (weight v.greatest) q in
        omega (arith, l.top ℓ k)

    set_is : (g : ℕ → ℕ) (old : List ℕ) (new : ℕ) → length old ≡ 24 → g v.line ≡ new → ((ℓ : ℕ) → ℓ < 24 → ℓ ≢ v.line → g ℓ ≡ get_or old ℓ 0)
        → (ℓ : ℕ) → ℓ < 24 → Dec (ℓ ≡ v.line) → get_or (set old v.line new) ℓ 0 ≡ g ℓ
    set_is g old new n here there ℓ k (yes q) = rw (q, get_or-set_same old v.line new 0 (omega arith)) (sym here)
    set_is g old new n here there ℓ k (no q) = rw (get_or-set_other old v.line ℓ new 0 q) (sym (there ℓ k q))

    -- the step of the loop, with the numbers as the code has them
    pub load_more : (x n top : ℕ) → x ≡ provided (s v) (weight v.greatest) → n ≡ frame_curve v w → top ≡ max (get_or tops v.line 0) x
        → Loaded weight s (take (i + 1) links) w (loads_of (set sums v.line (get_or sums v.line 0 + x * n)) (set tops v.line top))
    load_more x n top ex en et = record {
      sums24 = rw length-set l.sums24;
      tops24 = rw length-set l.tops24;
      sum = λ ℓ k. set_is (λ ℓ. line_sum weight s (take (i + 1) links) ℓ w) sums _ l.sums24 (rw (ex, en) sum_here) sum_there ℓ k (ℕ_discrete ℓ v.line);
      top = λ ℓ k. set_is (λ ℓ. line_top weight s (take (i + 1) links) ℓ) tops _ l.tops24 (rw (et, ex) top_here) top_there ℓ k (ℕ_discrete ℓ v.line);
    }

-- the arrival curve is the flow of the loads
pub flow_is : (weight : ℕ → ℕ) (s : VirtualLink → Bool) (links : List VirtualLink) (w : ℕ) (l : Loads) (lines : ℕ) → lines ≤ 24 → Loaded weight s links w l
    → flow l lines w ≡ arrival_curve weight s lines links w
unfolding flow arrival_curve
flow_is weight s links w l lines h d =
    sum_to_eq (λ ℓ. min (get_or l.sums ℓ 0) (w + get_or l.tops ℓ 0)) (λ ℓ. line_curve weight s links ℓ w) lines
    (λ k j. omega (arith, line_is weight s links k w, d.sum k (omega arith), d.top k (omega arith)))

-- one line more
pub flow_none : (l : Loads) (w : ℕ) → 0 ≡ flow l 0 w
unfolding flow sum_to
flow_none l w = refl

pub flow_more : (l : Loads) (k w : ℕ) → flow l (k + 1) w ≡ flow l k w + min (get_or l.sums k 0) (w + get_or l.tops k 0)
unfolding flow sum_to
flow_more l k w = rw add-one

-- ---- the links of a table
whole : (t : TableRecord) → take t.count (view_links t) ≡ view_links t
whole t = take_all t.count (view_links t) (omega (arith, count_shown t))

link_few : (v : VirtualLink) (cut w : ℕ) → v.greatest ≤ 1_538 → v.jitter ≤ 125_000 → w ≤ 65_536 → less cut v.greatest * frame_curve v w ≤ 24_608
unfolding frame_curve
link_few v cut w g j h =
    product_few (less cut v.greatest) (1 + (w + v.jitter) / _) (omega arith) (omega (arith, div_few (w + v.jitter) _ (bag_least v.code) (omega arith)))

module _ (t : TableRecord) (pass : table_refusal (view_table t) ≡ 0) (s : VirtualLink → Bool) (cut w : ℕ) (small : w ≤ 65_536) where
  -- how large the sums can be
  pub sum_few : (ℓ i : ℕ) → i ≤ t.count → line_sum (less cut) s (take i (view_links t)) ℓ w ≤ 24_608 * i
  unfolding sum_over
  sum_few ℓ zero k = omega arith
  sum_few ℓ (suc i) k =
      let m = sum_more (on_line s ℓ) (λ u. less cut u.greatest * frame_curve u w) (view_links t) i (view_count t i k) in
      let v = link_fits t pass i k in
      let x = provided_few (on_line s ℓ (link_at (view_links t) i)) _ 24_608 (link_few (link_at (view_links t) i) cut w v.greatest_most v.jitter_most small) in
      rw (← add-one i) (omega (arith, sum_few ℓ i (omega arith)))

  top_few : (ℓ i : ℕ) → i ≤ t.count → line_top (less cut) s (take i (view_links t)) ℓ ≤ 1_538
  unfolding greatest_over
  top_few ℓ zero k = omega arith
  top_few ℓ (suc i) k =
      let m = greatest_more (on_line s ℓ) (λ u. less cut u.greatest) (view_links t) i (view_count t i k) in
      let x = provided_few (on_line s ℓ (link_at (view_links t) i)) (less cut (link_at (view_links t) i).greatest) 1_538 (omega (arith, (link_fits t pass i k).greatest_most)) in
      rw (← add-one i) (omega (arith, top_few ℓ i (omega arith)))

  pub tops_few : (l : Loads) → Loaded (less cut) s (view_links t) w l → (k : ℕ) → k < 24 → get_or l.tops k 0 ≤ 1_538
  tops_few l d k i = omega (arith, d.top k i, rw (whole t) at (top_few k t.count (le_refl t.count)))

  pub load_all : (l : Loads) (i : ℕ) → i ≡ t.count → Loaded (less cut) s (take i (view_links t)) w l → Loaded (less cut) s (view_links t) w l
  load_all l i e d = rw (e, whole t) at d

-- one link of the table more
module _ (t : TableRecord) (pass : table_refusal (view_table t) ≡ 0) (low high cut w : ℕ) (sums tops : List ℕ) (i : ℕ) (h : i < t.count)
    (l : Loaded (less cut) (between low high) (take i (view_links t)) w (loads_of sums tops)) where
  pub load_skip : false ≡ within low high (get_or t.links i blank_fields).priority → Loaded (less cut) (between low high) (take (i + 1) (view_links t)) w (loads_of sums tops)
  load_skip q =
      load_other (less cut) (between low high) (view_links t) w sums tops i (view_count t i h) l
      (view_link (get_or t.numbers i 0) (get_or t.links i blank_fields)) (entry_is t pass i h) (sym q)

  pub load_step : true ≡ within low high (get_or t.links i blank_fields).priority → (x n top : ℕ) → x ≡ less cut (get_or t.links i blank_fields).greatest
      → ((k : ℕ) → n ≡ frame_curve (view_link k (get_or t.links i blank_fields)) w) → top ≡ max (get_or tops (get_or t.links i blank_fields).line 0) x
      → Loaded (less cut) (between low high) (take (i + 1) (view_links t)) w
      (loads_of (set sums (get_or t.links i blank_fields).line (get_or sums (get_or t.links i blank_fields).line 0 + x * n)) (set tops (get_or t.links i blank_fields).line top))
  unfolding provided
  load_step q x n top ex en et =
      load_more (less cut) (between low high) (view_links t) w sums tops i (view_count t i h) l
      (view_link (get_or t.numbers i 0) (get_or t.links i blank_fields)) (entry_is t pass i h) (line_in t pass i h) x n top (rw (← q) ex) (en (get_or t.numbers i 0)) et

  -- the sum that is added to
  pub sum_fits : w ≤ 65_536 → get_or sums (get_or t.links i blank_fields).line 0 ≤ 24_608 * 256
  sum_fits small =
      let k = (get_or t.links i blank_fields).line in
      omega (arith, l.sum k (line_in t pass i h), sum_few t pass (between low high) cut w small k i (omega arith), (counts_pass t pass).links_most)

-- ---- the greatest length
pub longest_none : (s : VirtualLink → Bool) (links : List VirtualLink) → 0 ≡ greatest_over s (λ v. v.greatest) (take 0 links)
unfolding greatest_over
longest_none s links = refl

module _ (t : TableRecord) (pass : table_refusal (view_table t) ≡ 0) (low high i : ℕ) (h : i < t.count) (top : ℕ) (p : top ≡ greatest_over (between low high) (λ v. v.greatest) (take i (view_links t))) where
  more : greatest_over (between low high) (λ v. v.greatest) (take (i + 1) (view_links t))
      ≡ max (greatest_over (between low high) (λ v. v.greatest) (take i (view_links t))) (provided (within low high (get_or t.links i blank_fields).priority) (get_or t.links i blank_fields).greatest)
  more = rw (entry_is t pass i h) at (greatest_more (between low high) (λ v. v.greatest) (view_links t) i (view_count t i h))

  pub longest_skip : false ≡ within low high (get_or t.links i blank_fields).priority → top ≡ greatest_over (between low high) (λ v. v.greatest) (take (i + 1) (view_links t))
  unfolding provided
  longest_skip q = let m = rw (← q) at more in omega arith

  pub longest_step : true ≡ within low high (get_or t.links i blank_fields).priority → (x r : ℕ) → x ≡ (get_or t.links i blank_fields).greatest → r ≡ max top x
      → r ≡ greatest_over (between low high) (λ v. v.greatest) (take (i + 1) (view_links t))
  unfolding provided
  longest_step q x r e k = let m = rw (← q) at more in omega arith

pub longest_all : (t : TableRecord) (s : VirtualLink → Bool) (i top : ℕ) → i ≡ t.count → top ≡ greatest_over s (λ v. v.greatest) (take i (view_links t))
    → top ≡ greatest_over s (λ v. v.greatest) (view_links t)
longest_all t s i top e p = rw (e, whole t) at p
