-- The gate of a port: its line ticks and accounts. Whatever is reported, what passed of a set of links is within its arrival curve.
use mathlib.Core.Path.{◌≡◌, refl}
use mathlib.Core.Logic.{◌≢◌}
use mathlib.Core.Bool.{Bool, true, false, ◌&&◌}
use mathlib.Core.List.{List, [], ◌∷◌, map, Memᴰ}
use Prim.Native.Nat.{ℕ, zero, suc, ◌+◌, ◌-◌, ◌≤◌, ◌<◌}
use native.Mathlib.Nat.{le_refl, lt_of_not-le}
use native.Mathlib.Decide.{dec_le, ℕ_discrete}
use native.Mathlib.Omega.{arith}
use lib.ListN.{length, get_or, set, length-set, length-map, length-replicate, get_or-replicate}
use lib.Seq.{get_or-set_same, get_or-set_other}
use borrow.Author.Tests.{le-leb, ne_eqb}
use Rattle.model.specs.Basics.{provided, Each, done, also}
use Rattle.model.specs.Link.{VirtualLink, bag, link_at}
use Rattle.model.specs.Table.{Table}
use Rattle.model.specs.Arrival.{frame_curve, on_line, arrival_curve}
use Rattle.model.specs.Port.{Account, Gate, blank_account, account_at, line_tick, full_account, fresh, with_line_tick, with_account}
use Rattle.model.specs.Report.{replenished, charged}
use Rattle.model.specs.Promises.{Weight}
use Rattle.model.proofs.Passed.{Passed, passed_frame, Proper, total, cnt, set_length, line_length}
use Rattle.model.proofs.TokenBucket.{Credited, credited_start, policed_keeps, charged_keeps, other_keeps, cnt_frames}
use Rattle.model.proofs.Serialization.{line_greatest, Carried, carried_start, carried_accepts, carried_other, carried_later}
use Rattle.model.proofs.Grouping.{set_bound}

-- ---- links by their place
pub mem_at : (links : List VirtualLink) (i : ℕ) → i < length links → Memᴰ (link_at links i) links
mem_at [] i l = absurd (omega arith)
mem_at (v ∷ links) zero l = Memᴰ.head refl
mem_at (v ∷ links) (suc i) l = Memᴰ.tail (mem_at links i (omega arith))

-- what is true at each place is true of each member
all_members : (P : VirtualLink → Type 0) (links : List VirtualLink) → ((i : ℕ) → i < length links → P (link_at links i)) → (v : VirtualLink) → Memᴰ v links → P v
all_members P [] k v x'' = elim x'' [ ]
all_members P (u ∷ links) k v (Memᴰ.head e) = rw e (k 0 (omega arith))
all_members P (u ∷ links) k v (Memᴰ.tail m) = all_members P links (λ i l. k (suc i) (omega arith)) v m

abbrev pub Rising : List VirtualLink → Type 0
Rising links = (i j : ℕ) → i < j → j < length links → (link_at links i).number < (link_at links j).number

pub numbers_apart : (links : List VirtualLink) → Rising links → (i j : ℕ) → i < length links → j < length links → i ≢ j → (link_at links i).number ≡ (link_at links j).number → ⊥
numbers_apart links r i j k l n e = go (dec_le i j)
  where
    go : Dec (i ≤ j) → ⊥
    go (yes a) = omega (arith, r i j (omega arith) l)
    go (no a) = omega (arith, r j i (omega arith) k)

-- ---- the gate, and what an event makes of it

-- the account of link i, replenished to t; and charged
abbrev pub renewed : List VirtualLink → Gate → ℕ → ℕ → Account
renewed links g i t = replenished (bag (link_at links i)) (link_at links i).jitter (account_at g.accounts i) t

abbrev pub reduced : List VirtualLink → Gate → ℕ → ℕ → Account
reduced links g i t = charged (bag (link_at links i)) (renewed links g i t)

-- a frame of link i, of that length, on the line at t, that passes
pub record Conforms (lines : ℕ) (links : List VirtualLink) (g : Gate) (line i len t : ℕ) : Type 0 where
  pub in_table : i < length links
  pub on_line_lem : (link_at links i).line ≡ line
  pub line_below : line < lines
  pub short : len ≤ (link_at links i).greatest
  pub covered : bag (link_at links i) ≤ (renewed links g i t).credit
  pub spaced : line_tick g.line_ticks line + len ≤ t

-- the gate at the clock, after the frames h: each account and each line within its law, none ahead of the clock
pub record Good (weight : ℕ → ℕ) (members : VirtualLink → Bool) (lines : ℕ) (links : List VirtualLink) (h : List Passed) (clock : ℕ) (g : Gate) : Type 0 where
  pub accounts_length : length g.accounts ≡ length links
  pub lines_length : length g.line_ticks ≡ lines
  pub proper : Each (Proper lines links) h
  pub credited : (i : ℕ) → i < length links → Credited (link_at links i) h (account_at g.accounts i)
  pub account_past : (i : ℕ) → i < length links → (account_at g.accounts i).tick ≤ clock
  pub carried : (ℓ : ℕ) → ℓ < lines → Carried weight members links ℓ h (line_tick g.line_ticks ℓ)
  pub line_past : (ℓ : ℕ) → ℓ < lines → line_tick g.line_ticks ℓ ≤ clock

-- one place of a list is set
pub after_set : {A : Type 0} (Q : ℕ → A → Type 0) (n : ℕ) (l : List A) (d : A) (i : ℕ) (a : A) → length l ≡ n → i < n → Q i a
    → ((j : ℕ) → j < n → j ≢ i → Q j (get_or l j d)) → (j : ℕ) → j < n → Q j (get_or (set l i a) j d)
after_set Q n l d i a e k here others j m = go (ℕ_discrete j i)
  where
    go : Dec (j ≡ i) → Q j (get_or (set l i a) j d)
    go (yes x) = rw (x, get_or-set_same l i a d (omega arith)) here
    go (no x) = rw (get_or-set_other l i j a d x) (others j m x)

not_on : (members : VirtualLink → Bool) (ℓ : ℕ) (v : VirtualLink) → (v.line ≡ ℓ → ⊥) → on_line members ℓ v ≡ false
unfolding on_line
not_on members ℓ v n = rw (ne_eqb v.line ℓ n) (go (members v))
  where
    go : (b : Bool) → (b && false) ≡ false
    go true = refl
    go false = refl

module _ {weight : ℕ → ℕ} {members : VirtualLink → Bool} {lines : ℕ} {links : List VirtualLink} {h : List Passed} {clock : ℕ} {g : Gate} (good : Good weight members lines links h clock g) where
  -- time goes by
  pub later_good : (t : ℕ) → clock ≤ t → Good weight members lines links h t g
  later_good t m =
      record {
        accounts_length = good.accounts_length;
        lines_length = good.lines_length;
        proper = good.proper;
        credited = good.credited;
        account_past = λ i n. omega (arith, good.account_past i n);
        carried = good.carried;
        line_past = λ ℓ n. omega (arith, good.line_past ℓ n);
      }

  pub raise_good : (line t : ℕ) → line < lines → clock ≤ t → Good weight members lines links h t (with_line_tick g line t)
  raise_good line t l m =
      record {
        accounts_length = good.accounts_length;
        lines_length = rw length-set good.lines_length;
        proper = good.proper;
        credited = good.credited;
        account_past = λ i n. omega (arith, good.account_past i n);
        carried =
            after_set (λ ℓ last. Carried weight members links ℓ h last) lines g.line_ticks 0 line t good.lines_length l
            (carried_later weight members links line h (line_tick g.line_ticks line) t (omega (arith, good.line_past line l)) (good.carried line l)) (λ ℓ n _. good.carried ℓ n);
        line_past =
            after_set (λ ℓ last. last ≤ t) lines g.line_ticks 0 line t good.lines_length l (le_refl t) (λ ℓ n _. omega (arith, good.line_past ℓ n));
      }

  -- the account of link i is set at t
  set_past : (i t : ℕ) (a : Account) → i < length links → clock ≤ t → a.tick ≤ t → (j : ℕ) → j < length links → (account_at (set g.accounts i a) j).tick ≤ t
  set_past i t a l m e = after_set (λ j b. b.tick ≤ t) (length links) g.accounts blank_account i a good.accounts_length l e (λ j n _. omega (arith, good.account_past j n))

  renewed_credited : (i t : ℕ) → i < length links → clock ≤ t → Credited (link_at links i) h (renewed links g i t)
  renewed_credited i t l m = policed_keeps (link_at links i) h (account_at g.accounts i) t (omega (arith, good.account_past i l)) (good.credited i l)

  pub police_good : (i t : ℕ) → i < length links → clock ≤ t → Good weight members lines links h t (with_account g i (renewed links g i t))
  unfolding replenished
  police_good i t l m =
      record {
        accounts_length = rw length-set good.accounts_length;
        lines_length = good.lines_length;
        proper = good.proper;
        credited =
            after_set (λ j a. Credited (link_at links j) h a) (length links) g.accounts blank_account i (renewed links g i t) good.accounts_length l
            (renewed_credited i t l m) (λ j n _. good.credited j n);
        account_past = set_past i t (renewed links g i t) l m (le_refl t);
        carried = good.carried;
        line_past = λ ℓ n. omega (arith, good.line_past ℓ n);
      }

  pub pass_good : Weight weight → Rising links → (line i len t : ℕ) → Conforms lines links g line i len t → clock ≤ t
      → Good weight members lines links (passed_frame (link_at links i) len t ∷ h) t (with_account (with_line_tick g line t) i (reduced links g i t))
  unfolding replenished charged
  pass_good z rising line i len t c m =
      record {
        accounts_length = rw length-set good.accounts_length;
        lines_length = rw length-set good.lines_length;
        proper = also proper_frame good.proper;
        credited =
            after_set (λ j a. Credited (link_at links j) (it ∷ h) a) (length links) g.accounts blank_account i (reduced links g i t) good.accounts_length c.in_table
            (charged_keeps (link_at links i) h (renewed links g i t) it refl refl c.covered (renewed_credited i t c.in_table m))
            (λ j n x. other_keeps (link_at links j) h (account_at g.accounts j) it (numbers_apart links rising j i n c.in_table x) (good.credited j n));
        account_past = set_past i t (reduced links g i t) c.in_table m (le_refl t);
        carried =
            after_set (λ ℓ last. Carried weight members links ℓ (it ∷ h) last) lines g.line_ticks 0 line t good.lines_length c.line_below
            (carried_accepts weight z members lines links line h (line_tick g.line_ticks line) it proper_frame c.spaced (good.carried line c.line_below))
            (λ ℓ n x. carried_other weight members links ℓ h (line_tick g.line_ticks ℓ) it (not_on members ℓ (link_at links i) (λ y. x (cc))) (good.carried ℓ n));
        line_past = (raise_good line t c.line_below m).line_past;
      }
    where
      it : Passed
      it = passed_frame (link_at links i) len t

      proper_frame : Proper lines links (passed_frame (link_at links i) len t)
      proper_frame = record { member = mem_at links i c.in_table; short = c.short; line_below = rw c.on_line_lem c.line_below }

  -- what passed of the set from s on is within its arrival curve
  pub gate_bound : Weight weight → (s : ℕ) → s ≤ clock → total (set_length weight members s) h ≤ arrival_curve weight members lines links (clock - s)
  gate_bound z s l =
      set_bound weight z members lines links h s (clock - s) good.proper
      (all_members (λ v. cnt v h s ≤ frame_curve v (clock - s)) links
      (λ i m. cnt_frames (link_at links i) h (account_at g.accounts i) clock s (good.credited i m) (good.account_past i m) l))
      (λ ℓ m. go ℓ m (dec_le s (line_tick g.line_ticks ℓ)))
    where
      go : (ℓ : ℕ) → ℓ < lines → Dec (s ≤ line_tick g.line_ticks ℓ) → total (line_length weight members ℓ s) h ≤ (clock - s) + line_greatest weight members links ℓ
      go ℓ m (yes i) = omega (arith, (good.carried ℓ m).bound s i, good.line_past ℓ m)
      go ℓ m (no i) = omega (arith, (good.carried ℓ m).past s (lt_of_not-le i))

-- one more frame
pub total_new : (weight : ℕ → ℕ) (members : VirtualLink → Bool) (s : ℕ) (p : Passed) (h : List Passed) → s ≤ p.tick
    → total (set_length weight members s) (p ∷ h) ≡ total (set_length weight members s) h + provided (members p.link) (weight p.length)
unfolding total set_length provided
total_new weight members s p h l = rw (le-leb s p.tick l) (omega arith)

-- ---- the start
pub full_at : (links : List VirtualLink) (i : ℕ) → i < length links → account_at (map full_account links) i ≡ full_account (link_at links i)
full_at [] i l = absurd (omega arith)
full_at (v ∷ links) zero l = refl
full_at (v ∷ links) (suc i) l = full_at links i (omega arith)

pub fresh_good : (weight : ℕ → ℕ) (members : VirtualLink → Bool) (t : Table) → Good weight members t.lines t.links [] 0 (fresh t).gate
unfolding fresh
fresh_good weight members t =
    record {
      accounts_length = length-map t.links full_account;
      lines_length = length-replicate t.lines 0;
      proper = done;
      credited = λ i l. rw (full_at t.links i l) (credited_start (link_at t.links i));
      account_past = λ i l. rw (full_at t.links i l) (le_refl 0);
      carried = λ ℓ l. rw (get_or-replicate {A = ℕ} t.lines ℓ 0 0 l) (carried_start weight members t.links ℓ);
      line_past = λ ℓ l. rw (get_or-replicate {A = ℕ} t.lines ℓ 0 0 l) (le_refl 0);
    }
