-- Two tables: what agrees where their links of priority 0 to p do, and what is no smaller where links grew. Sums, the greatest and curves are
-- compared for any set of links and any weight, then b and the curves of a priority; the limits follow from these.
use mathlib.Core.Path.{◌≡◌, refl, sym, ◌∙◌, ap, fun_ext}
use mathlib.Core.Logic.{◌⊎◌, inl, inr}
use mathlib.Core.Bool.{Bool, true, false, cond, ◌&&◌, and-eq-true_iff}
use mathlib.Core.Option.{none, some}
use mathlib.Core.List.{List, [], ◌∷◌, Memᴰ}
use Prim.Native.Nat.{ℕ, zero, suc, ◌+◌, ◌-◌, ◌*◌, ◌≤◌, ◌<◌, max}
use native.Mathlib.Nat.{le_refl, le_trans, mul-le-mul}
use native.Mathlib.Decide.{dec_le}
use native.Mathlib.Omega.{arith}
use lib.Dec.{eqb, leb, ltb}
use borrow.Author.Tests.{eqb-true, leb-true, leb-false, le-leb, lt-ltb, le-ltb, ne_eqb}
use Rattle.model.specs.Basics.{provided, sum_to, greatest_to}
use Rattle.model.specs.Units.{occupied}
use Rattle.model.specs.Link.{VirtualLink, bag, members_of, any_of, sum_over, greatest_over}
use Rattle.model.specs.Table.{Table, table_refusal}
use Rattle.model.specs.Arrival.{frame_curve, on_line, line_curve, arrival_curve}
use Rattle.model.specs.Bounds.{of_priority, up_to, beyond, own_arrivals, up_arrivals, longest, blocking, hold_of, backlog, bound_within, is_there, or_zero, window_within, bounds_refusal, hold, bound, window}
use Rattle.model.specs.Promises.{Weight, AgreeTo, ZeroIfNone, EditsBelowUnseen, NoSmaller, Grown, over, edited, added, NoneSmaller, NoneRegained, BoundsKept}
use Rattle.model.proofs.TableFacts.{FieldsFit, links_unmet}
use Rattle.model.proofs.Passing.{members_pass}
use Rattle.model.proofs.Bags.{bag_positive}
use Rattle.model.proofs.Search.{greatest_to_ge}
use Rattle.model.proofs.Curves.{wire_weight, occupied_weight, provided_false, div_mono, sum_to_mono}
use Rattle.model.proofs.Queues.{sum_to_ext}
use Rattle.model.proofs.BoundFacts.{amount_grows}
use Rattle.model.proofs.Holds.{hold_grows, HasBounds, has_bounds, all_holds, has_or_lacks, lacks_passes}

-- ---- lines: those past the last that a link stands on add nothing

sum_to_longer : (f : ℕ → ℕ) (n m : ℕ) → n ≤ m → sum_to f n ≤ sum_to f m
unfolding sum_to
sum_to_longer f n zero l = let e : n ≡ 0 = omega arith in rw e (le_refl 0)
sum_to_longer f n (suc m) l = go (dec_le n m) (sum_to_longer f n m)
  where
    go : Dec (n ≤ m) → (n ≤ m → sum_to f n ≤ sum_to f m) → sum_to f n ≤ sum_to f (suc m)
    go (yes x) ih = omega (arith, ih x)
    go (no x) ih = let e : n ≡ suc m = omega arith in rw e (le_refl (sum_to f (suc m)))

sum_to_past : (f : ℕ → ℕ) (m n : ℕ) → ((k : ℕ) → m ≤ k → f k ≡ 0) → sum_to f n ≤ sum_to f m
unfolding sum_to
sum_to_past f m zero h = omega arith
sum_to_past f m (suc n) h = go (dec_le m n) (sum_to_past f m n h)
  where
    go : Dec (m ≤ n) → sum_to f n ≤ sum_to f m → sum_to f n + f n ≤ sum_to f m
    go (yes l) ih = omega (arith, h n l)
    go (no l) ih = sum_to_longer f (suc n) m (omega arith)

-- each link of a list stands on a line below a count
abbrev Below : ℕ → List VirtualLink → Type 0
Below lines links = (v : VirtualLink) → Memᴰ v links → v.line < lines

no_member : (set : VirtualLink → Bool) (lines ℓ : ℕ) (links : List VirtualLink) → Below lines links → lines ≤ ℓ → any_of (on_line set ℓ) links ≡ false
unfolding any_of on_line
no_member set lines ℓ [] below l = refl
no_member set lines ℓ (v ∷ links) below l =
    rw (ne_eqb v.line ℓ (λ e. omega (arith, below v (Memᴰ.head refl)))) (go (set v) (no_member set lines ℓ links (λ x m. below x (Memᴰ.tail m)) l))
  where
    go : (b : Bool) → any_of (on_line set ℓ) links ≡ false → cond (b && false) true (any_of (on_line set ℓ) links) ≡ false
    go true ih = ih
    go false ih = ih

curve_lines : (weight : ℕ → ℕ) (set : VirtualLink → Bool) (n m : ℕ) (links : List VirtualLink) (w : ℕ) → Below m links
    → arrival_curve weight set n links w ≤ arrival_curve weight set m links w
unfolding arrival_curve line_curve
curve_lines weight set n m links w below = sum_to_past _ m n (λ ℓ l. provided_false (any_of (on_line set ℓ) links) _ (no_member set m ℓ links below l))

table_below : (t : Table) → table_refusal t ≡ 0 → Below t.lines t.links
table_below t e v m = (members_pass t.lines none t.links (links_unmet t e) m).line_below

-- ---- no L is 0
none_of_zero : (set : VirtualLink → Bool) (f : VirtualLink → ℕ) (links : List VirtualLink) → ((v : VirtualLink) → Memᴰ v links → 0 < f v)
    → greatest_over set f links ≡ 0 → any_of set links ≡ false
unfolding greatest_over any_of provided
none_of_zero set f [] positive e = refl
none_of_zero set f (v ∷ links) positive e = go (set v) e (none_of_zero set f links (λ u m. positive u (Memᴰ.tail m)))
  where
    go : (b : Bool) → max (provided b (f v)) (greatest_over set f links) ≡ 0 → (greatest_over set f links ≡ 0 → any_of set links ≡ false) → cond b true (any_of set links) ≡ false
    go true x ih = absurd (omega (arith, positive v (Memᴰ.head refl)))
    go false x ih = ih (omega arith)

pub zero_if_none : ZeroIfNone
zero_if_none t e p nothing =
    none_of_zero (beyond p) (λ v. v.greatest) t.links
    (λ v m. let f : FieldsFit t.lines v = members_pass t.lines none t.links (links_unmet t e) m in omega (arith, f.least_from, f.least_greatest)) nothing

-- ---- links that grew: a set has what an edit makes of its members

abbrev Kept : (VirtualLink → Bool) → Type 0
Kept set = (v u : VirtualLink) → NoSmaller v u → set v ≡ true → set u ≡ true

abbrev NoLess : (VirtualLink → ℕ) → Type 0
NoLess f = (v u : VirtualLink) → NoSmaller v u → f v ≤ f u

provided_kept : (b c : Bool) (x y : ℕ) → (b ≡ true → c ≡ true) → x ≤ y → provided b x ≤ provided c y
unfolding provided
provided_kept true c x y h l = rw (h refl) l
provided_kept false c x y h l = omega arith

any_later : (b c : Bool) → c ≡ true → cond b true c ≡ true
any_later true c e = refl
any_later false c e = e

any_grown : (set : VirtualLink → Bool) → Kept set → {links grown : List VirtualLink} → Grown links grown → any_of set links ≡ true → any_of set grown ≡ true
unfolding any_of
any_grown set k over e = e
any_grown set k (edited {v} {u} {links} {grown} s g) e = go (set v) refl e (any_grown set k g)
  where
    go : (b : Bool) → set v ≡ b → cond b true (any_of set links) ≡ true → (any_of set links ≡ true → any_of set grown ≡ true) → cond (set u) true (any_of set grown) ≡ true
    go true q x ih = rw (k v u s q)
    go false q x ih = any_later (set u) (any_of set grown) (ih x)
any_grown set k (added {u} {links} {grown} g) e = any_later (set u) (any_of set grown) (any_grown set k g e)

sum_grown : (set : VirtualLink → Bool) (f : VirtualLink → ℕ) → Kept set → NoLess f → {links grown : List VirtualLink} → Grown links grown
    → sum_over set f links ≤ sum_over set f grown
unfolding sum_over
sum_grown set f k n over = le_refl 0
sum_grown set f k n (edited {v} {u} s g) = omega (arith, provided_kept (set v) (set u) (f v) (f u) (k v u s) (n v u s), sum_grown set f k n g)
sum_grown set f k n (added g) = omega (arith, sum_grown set f k n g)

greatest_grown : (set : VirtualLink → Bool) (f : VirtualLink → ℕ) → Kept set → NoLess f → {links grown : List VirtualLink} → Grown links grown
    → greatest_over set f links ≤ greatest_over set f grown
unfolding greatest_over
greatest_grown set f k n over = le_refl 0
greatest_grown set f k n (edited {v} {u} s g) = omega (arith, provided_kept (set v) (set u) (f v) (f u) (k v u s) (n v u s), greatest_grown set f k n g)
greatest_grown set f k n (added g) = omega (arith, greatest_grown set f k n g)

below_grown : (lines : ℕ) {links grown : List VirtualLink} → Grown links grown → Below lines grown → Below lines links
below_grown lines over b x m = elim m [ ]
below_grown lines (edited {v} {u} s g) b x (Memᴰ.head e) = rw e (rw s.line_same (b u (Memᴰ.head refl)))
below_grown lines (edited s g) b x (Memᴰ.tail m) = below_grown lines g (λ y n. b y (Memᴰ.tail n)) x m
below_grown lines (added g) b x m = below_grown lines g (λ y n. b y (Memᴰ.tail n)) x m

-- ---- curves of links that grew, for any set that keeps its members and any weight
frames_grown : (w : ℕ) → NoLess (λ v. frame_curve v w)
unfolding frame_curve
frames_grown w v u s = rw s.code_same (omega (arith, div_mono (bag u) (w + v.jitter) (w + u.jitter) (bag_positive u) (omega (arith, s.jitter_kept))))

line_kept : (set : VirtualLink → Bool) → Kept set → (ℓ : ℕ) → Kept (on_line set ℓ)
unfolding on_line
line_kept set k ℓ v u s e =
    let both = (and-eq-true_iff (set v) (eqb v.line ℓ)).0 e in
    (and-eq-true_iff (set u) (eqb u.line ℓ)).1 (k v u s both.0, rw (← s.line_same) both.1)

module _ (weight : ℕ → ℕ) (z : Weight weight) (set : VirtualLink → Bool) (k : Kept set) {links grown : List VirtualLink} (g : Grown links grown) where
  line_grown : (ℓ w : ℕ) → line_curve weight set links ℓ w ≤ line_curve weight set grown ℓ w
  unfolding line_curve
  line_grown ℓ w =
      provided_kept (any_of (on_line set ℓ) links) (any_of (on_line set ℓ) grown) _ _ (any_grown (on_line set ℓ) (line_kept set k ℓ) g)
      (omega (
        arith,
        sum_grown (on_line set ℓ) (λ v. weight v.greatest * frame_curve v w) (line_kept set k ℓ)
            (λ v u s. mul-le-mul (z.grows v.greatest u.greatest s.greatest_kept) (frames_grown w v u s)) g,
        greatest_grown (on_line set ℓ) (λ v. weight v.greatest) (line_kept set k ℓ) (λ v u s. z.grows v.greatest u.greatest s.greatest_kept) g,
      ))

  pub curve_grown : (n m w : ℕ) → Below m grown → arrival_curve weight set n links w ≤ arrival_curve weight set m grown w
  unfolding arrival_curve
  curve_grown n m w below =
      le_trans (curve_lines weight set n m links w (below_grown m g below)) (sum_to_mono _ _ m (λ ℓ _. line_grown ℓ w))

-- ---- the greatest over more windows
greatest_to_more : (f g : ℕ → ℕ) → ((k : ℕ) → f k ≤ g k) → (n m : ℕ) → n ≤ m → greatest_to f n ≤ greatest_to g m
unfolding greatest_to
greatest_to_more f g h zero m l = omega arith
greatest_to_more f g h (suc n) m l = omega (arith, greatest_to_more f g h n m (omega arith), h n, greatest_to_ge g m n l)

-- ---- b, M and the curves of a priority, of two tables

by_priority : (test : ℕ → Bool) → Kept (λ v. test v.priority)
by_priority test v u s e = rw (← s.priority_same) e

module _ (t u : Table) (p : ℕ) where
  record Greater : Type 0 where
    blocked : blocking t p ≤ blocking u p
    longer : longest t p ≤ longest u p
    own : (w : ℕ) → own_arrivals t p w ≤ own_arrivals u p w
    up : (w : ℕ) → up_arrivals t p w ≤ up_arrivals u p w
    used : any_of (of_priority p) t.links ≡ true → any_of (of_priority p) u.links ≡ true

  greater : Grown t.links u.links → Below u.lines u.links → Greater
  unfolding blocking longest own_arrivals up_arrivals of_priority up_to beyond
  greater g b =
      record {
        blocked = omega (arith, greatest_grown (beyond p) (λ v. v.greatest) (by_priority (λ n. ltb p n)) (λ v u s. s.greatest_kept) g);
        longer = greatest_grown (of_priority p) (λ v. v.greatest) (by_priority (λ n. eqb n p)) (λ v u s. s.greatest_kept) g;
        own = λ w. curve_grown occupied occupied_weight (of_priority p) (by_priority (λ n. eqb n p)) g t.lines u.lines w b;
        up = λ w. curve_grown (λ n. n) wire_weight (up_to p) (by_priority (λ n. leb n p)) g t.lines u.lines w b;
        used = any_grown (of_priority p) (by_priority (λ n. eqb n p)) g;
      }

  module _ (x : Greater) where
    backlog_more : (w : ℕ) → backlog t p w ≤ backlog u p w
    unfolding backlog
    backlog_more w =
        amount_grows (own_arrivals t p w) (own_arrivals u p w) (up_arrivals t p w) (up_arrivals u p w) (w - blocking u p) (w - blocking t p) (longest t p) (longest u p)
        (x.own w) (x.up w) (omega (arith, x.blocked)) x.longer

    hold_more : (h : ℕ) → hold_of u p ≡ some h → (hold_of t p ≡ some (hold t p)) × (hold t p ≤ h)
    unfolding hold_of hold or_zero
    hold_more h e =
        let sooner = (hold_grows (blocking t p) (blocking u p) (up_arrivals t p) (up_arrivals u p) x.blocked x.up).0 h e in
        (rw sooner.1, rw sooner.1 sooner.2)

    bound_more : hold t p ≤ hold u p → bound t p ≤ bound u p
    unfolding bound bound_within
    bound_more l = go (any_of (of_priority p) t.links) refl
      where
        go : (b : Bool) → any_of (of_priority p) t.links ≡ b → bound t p ≤ bound u p
        go true e = rw (e, x.used e) (greatest_to_more (backlog t p) (backlog u p) backlog_more (hold t p) (hold u p) l)
        go false e = rw e (omega arith)

pub none_smaller : NoneSmaller
unfolding hold
none_smaller t u g e p l =
    let b : HasBounds u = has_bounds u e in
    let x : Greater t u p = greater t u p g (table_below u b.table) in
    let h : hold t p ≤ hold u p = (hold_more t u p x (hold u p) (b.holds p l)).1 in
    (bound_more t u p x h, h)

pub bounds_kept : BoundsKept
unfolding is_there
bounds_kept t u g passes e =
    let b : HasBounds u = has_bounds u e in
    all_holds t passes (λ p l. rw (hold_more t u p (greater t u p g (table_below u b.table)) (hold u p) (b.holds p l)).0)

pub none_regained : NoneRegained
none_regained t u g passes e = go (has_or_lacks u passes)
  where
    go : (bounds_refusal u ≡ 0) ⊎ (bounds_refusal u ≡ 8) → bounds_refusal u ≡ 8
    go (inl x) = absurd (omega (arith, e, bounds_kept t u g (lacks_passes t e) x))
    go (inr x) = x

-- ---- links of priority 0 to p: over a set within another, any, a sum, the greatest and a curve are those over the other's members

module _ (keep set : VirtualLink → Bool) (within : (v : VirtualLink) → set v ≡ true → keep v ≡ true) where
  outside : (v : VirtualLink) → keep v ≡ false → set v ≡ false
  outside v e = go (set v) refl
    where
      go : (b : Bool) → set v ≡ b → set v ≡ false
      go true q = absurd (let z : ◌≡◌ {A = ℕ} 0 1 = let y : true ≡ false = sym (within v q) ∙ e in cc in omega arith)
      go false q = q

  -- a fold that passes over what is outside
  fold_members : {A : Type 0} (fold : List VirtualLink → A) (put : VirtualLink → A → A) → ((v : VirtualLink) (links : List VirtualLink) → fold (v ∷ links) ≡ put v (fold links))
      → ((v : VirtualLink) (x : A) → set v ≡ false → put v x ≡ x) → (links : List VirtualLink) → fold links ≡ fold (members_of keep links)
  unfolding members_of
  fold_members fold put is past [] = refl
  fold_members {A} fold put is past (v ∷ links) = go (keep v) refl (fold_members fold put is past links)
    where
      go : (b : Bool) → keep v ≡ b → fold links ≡ fold (members_of keep links) → fold (v ∷ links) ≡ fold (cond b (v ∷ members_of keep links) (members_of keep links))
      go true e ih = is v links ∙ ap (put v) ih ∙ sym (is v (members_of keep links))
      go false e ih = is v links ∙ past v (fold links) (outside v e) ∙ ih

  any_members : (links : List VirtualLink) → any_of set links ≡ any_of set (members_of keep links)
  unfolding any_of
  any_members = fold_members (any_of set) (λ v x. cond (set v) true x) (λ v links. refl) (λ v x e. rw e)

  sum_members : (f : VirtualLink → ℕ) (links : List VirtualLink) → sum_over set f links ≡ sum_over set f (members_of keep links)
  unfolding sum_over provided
  sum_members f = fold_members (sum_over set f) (λ v x. provided (set v) (f v) + x) (λ v links. refl) (λ v x e. rw e (omega arith))

  greatest_members : (f : VirtualLink → ℕ) (links : List VirtualLink) → greatest_over set f links ≡ greatest_over set f (members_of keep links)
  unfolding greatest_over provided
  greatest_members f = fold_members (greatest_over set f) (λ v x. max (provided (set v) (f v)) x) (λ v links. refl) (λ v x e. rw e (omega arith))

line_within : (keep set : VirtualLink → Bool) → ((v : VirtualLink) → set v ≡ true → keep v ≡ true) → (ℓ : ℕ) (v : VirtualLink) → on_line set ℓ v ≡ true → keep v ≡ true
unfolding on_line
line_within keep set within ℓ v e = within v ((and-eq-true_iff (set v) (eqb v.line ℓ)).0 e).0

curve_members : (weight : ℕ → ℕ) (keep set : VirtualLink → Bool) → ((v : VirtualLink) → set v ≡ true → keep v ≡ true) → (n : ℕ) (links : List VirtualLink) (w : ℕ)
    → arrival_curve weight set n links w ≡ arrival_curve weight set n (members_of keep links) w
unfolding arrival_curve line_curve
curve_members weight keep set within n links w =
    sum_to_ext _ _ n
    (λ ℓ l.
    rw (
      any_members keep (on_line set ℓ) (line_within keep set within ℓ) links,
      sum_members keep (on_line set ℓ) (line_within keep set within ℓ) (λ v. weight v.greatest * frame_curve v w) links,
      greatest_members keep (on_line set ℓ) (line_within keep set within ℓ) (λ v. weight v.greatest) links,
    ))

members_below : (keep : VirtualLink → Bool) (lines : ℕ) (links : List VirtualLink) → Below lines links → Below lines (members_of keep links)
unfolding members_of
members_below keep lines [] b v m = b v m
members_below keep lines (u ∷ links) b v m = go (keep u) m (members_below keep lines links (λ x n. b x (Memᴰ.tail n)) v)
  where
    go : (c : Bool) → Memᴰ v (cond c (u ∷ members_of keep links) (members_of keep links)) → (Memᴰ v (members_of keep links) → v.line < lines) → v.line < lines
    go true (Memᴰ.head e) ih = b v (Memᴰ.head e)
    go true (Memᴰ.tail x) ih = ih x
    go false x ih = ih x

-- those beyond q are those among 0 to p, and those beyond p
greatest_split : (f : VirtualLink → ℕ) (p q : ℕ) → q ≤ p → (links : List VirtualLink)
    → greatest_over (beyond q) f links ≡ max (greatest_over (beyond q) f (members_of (up_to p) links)) (greatest_over (beyond p) f links)
unfolding greatest_over members_of provided beyond up_to
greatest_split f p q l [] = refl
greatest_split f p q l (v ∷ links) = go (leb v.priority p) refl (greatest_split f p q l links)
  where
    go : (b : Bool) → leb v.priority p ≡ b
        → greatest_over (beyond q) f links ≡ max (greatest_over (beyond q) f (members_of (up_to p) links)) (greatest_over (beyond p) f links)
        → greatest_over (beyond q) f (v ∷ links) ≡ max (greatest_over (beyond q) f (members_of (up_to p) (v ∷ links))) (greatest_over (beyond p) f (v ∷ links))
    go true e ih = rw (e, le-ltb p v.priority (leb-true v.priority p e)) (omega arith)
    go false e ih =
        let above : p < v.priority = leb-false v.priority p e in
        rw (e, lt-ltb p v.priority above, lt-ltb q v.priority (omega arith)) (omega arith)

module _ (t u : Table) (t-passes : table_refusal t ≡ 0) (u-passes : table_refusal u ≡ 0) (p : ℕ) (a : AgreeTo p t u) where
  members_lines : (weight : ℕ → ℕ) (set : VirtualLink → Bool) (w : ℕ)
      → arrival_curve weight set t.lines (members_of (up_to p) t.links) w ≡ arrival_curve weight set u.lines (members_of (up_to p) t.links) w
  members_lines weight set w =
      let m = members_of (up_to p) t.links in
      let of-t : Below t.lines m = members_below (up_to p) t.lines t.links (table_below t t-passes) in
      let of-u : Below u.lines m = rw a.links_same (members_below (up_to p) u.lines u.links (table_below u u-passes)) in
      omega (arith, curve_lines weight set t.lines u.lines m w of-u, curve_lines weight set u.lines t.lines m w of-t)

  curve_same : (weight : ℕ → ℕ) (set : VirtualLink → Bool) → ((v : VirtualLink) → set v ≡ true → up_to p v ≡ true) → (w : ℕ)
      → arrival_curve weight set t.lines t.links w ≡ arrival_curve weight set u.lines u.links w
  curve_same weight set within w =
      curve_members weight (up_to p) set within t.lines t.links w
      ∙ members_lines weight set w
      ∙ ap (λ m. arrival_curve weight set u.lines m w) a.links_same
      ∙ sym (curve_members weight (up_to p) set within u.lines u.links w)

  module _ (q : ℕ) (l : q ≤ p) where
    own_within : (v : VirtualLink) → of_priority q v ≡ true → up_to p v ≡ true
    unfolding of_priority up_to
    own_within v e = le-leb v.priority p (omega (arith, eqb-true v.priority q e))

    up_within : (v : VirtualLink) → up_to q v ≡ true → up_to p v ≡ true
    unfolding up_to
    up_within v e = le-leb v.priority p (omega (arith, leb-true v.priority q e))

    used_same : any_of (of_priority q) t.links ≡ any_of (of_priority q) u.links
    used_same = rw (any_members (up_to p) (of_priority q) own_within t.links, any_members (up_to p) (of_priority q) own_within u.links, a.links_same)

    longest_same : longest t q ≡ longest u q
    unfolding longest
    longest_same =
        rw (greatest_members (up_to p) (of_priority q) own_within (λ v. v.greatest) t.links, greatest_members (up_to p) (of_priority q) own_within (λ v. v.greatest) u.links, a.links_same)

    blocking_same : blocking t q ≡ blocking u q
    unfolding blocking
    blocking_same = rw (greatest_split (λ v. v.greatest) p q l t.links, greatest_split (λ v. v.greatest) p q l u.links, a.links_same, a.longest_below)

    own_same : own_arrivals t q ≡ own_arrivals u q
    unfolding own_arrivals
    own_same = fun_ext (curve_same occupied (of_priority q) own_within)

    up_same : up_arrivals t q ≡ up_arrivals u q
    unfolding up_arrivals
    up_same = fun_ext (curve_same (λ n. n) (up_to q) up_within)

    backlog_same : backlog t q ≡ backlog u q
    unfolding backlog
    backlog_same = fun_ext (λ w. rw (own_same, up_same, blocking_same, longest_same))

    hold_of_same : hold_of t q ≡ hold_of u q
    unfolding hold_of
    hold_of_same = rw (blocking_same, up_same)

    hold_same : hold t q ≡ hold u q
    unfolding hold
    hold_same = rw hold_of_same

    bound_same : bound t q ≡ bound u q
    unfolding bound bound_within
    bound_same = rw (used_same, backlog_same, hold_same)

    window_same : window t q ≡ window u q
    unfolding window window_within bound_within
    window_same = rw (used_same, backlog_same, hold_same)

    limits_same : (bound t q ≡ bound u q) × (hold t q ≡ hold u q) × (window t q ≡ window u q) × (hold_of t q ≡ hold_of u q)
    limits_same = (bound_same, hold_same, window_same, hold_of_same)

pub edits_below_unseen : EditsBelowUnseen
edits_below_unseen t u t-passes u-passes p a q l = limits_same t u t-passes u-passes p a q l
