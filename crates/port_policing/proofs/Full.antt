-- The accounts at rest: blanks, one account more, and what they show; the lines at rest.
use mathlib.Core.Path.{◌≡◌, refl, sym, ap, ◌∙◌}
use mathlib.Core.List.{List, [], ◌∷◌, ◌++◌, map, map-append}
use Prim.Native.Nat.{ℕ, zero, suc, ◌+◌, ◌≤◌, ◌<◌}
use native.Mathlib.Numerals.{add-one}
use native.Mathlib.Omega.{arith}
use lib.ListN.{length, get_or, set, take, replicate, length-map}
use lib.Seq.{take-suc, take_all, length-take-le}
use Rattle.model.specs.Basics.{entries}
use Rattle.model.specs.Link.{VirtualLink, blank_link, link_at}
use Rattle.model.specs.Port.{Account, blank_account, full_account}
use Rattle.model.proofs.Entries.{entries_blank, entries_next}
use Rattle.table.specs.declared.Table.{Table as TableRecord}
use Rattle.table.specs.View.{blank_fields, view_link, view_links}
use Rattle.table.proofs.Shape.{Sized, link_shown, count_shown}
use Rattle.port_policing.specs.declared.Account.{Account as AccountRecord}
use Rattle.port_policing.specs.Check.{view_account, record_account}
use Rattle.port_policing.specs.Full.{full_accounts}

-- ---- the accounts, one more
abbrev pub accounts_of : List VirtualLink → List AccountRecord
accounts_of links = entries (record_account blank_account) 256 (map record_account (map full_account links))

pub none_yet : replicate 256 (record_account blank_account) ≡ accounts_of []
none_yet = sym (entries_blank (record_account blank_account) 256)

pub one_more : (links : List VirtualLink) (i : ℕ) → i < length links → i < 256 → set (accounts_of (take i links)) i (record_account (full_account (link_at links i))) ≡ accounts_of (take (i + 1) links)
one_more links i h k =
    let front = map record_account (map full_account (take i links)) in
    let n : length front ≡ i = length-map (map full_account (take i links)) record_account ∙ length-map (take i links) full_account ∙ length-take-le i links (omega arith) in
    let same : set (accounts_of (take i links)) (length front) (record_account (full_account (link_at links i))) ≡ entries (record_account blank_account) 256 (front ++ (record_account (full_account (link_at links i)) ∷ [])) =
    entries_next (record_account blank_account) 256 front (record_account (full_account (link_at links i))) (omega arith) in
    (rw n at same) ∙ rw (add-one, take-suc links i blank_link h, map-append full_account (take i links) (link_at links i ∷ []), map-append record_account (map full_account (take i links)) (full_account (link_at links i) ∷ []))

module _ (t : TableRecord) (s : Sized t) (few : t.count ≤ 256) (i : ℕ) (below : i < t.count) where
  pub next_account : {r : AccountRecord} → ((n : ℕ) → r ≡ record_account (full_account (view_link n (get_or t.links i blank_fields)))) →
      set (accounts_of (take i (view_links t))) i r ≡ accounts_of (take (i + 1) (view_links t))
  next_account {r} e =
      let full : r ≡ record_account (full_account (link_at (view_links t) i)) = rw (link_shown t i s below few) (e (get_or t.numbers i 0)) in
      rw full (one_more (view_links t) i (omega (arith, count_shown t)) (omega arith))

pub all_accounts : (t : TableRecord) (i : ℕ) → t.count ≤ i → accounts_of (take i (view_links t)) ≡ full_accounts t
all_accounts t i h = rw (take_all i (view_links t) (omega (arith, count_shown t)))

-- ---- what they show
entries_replicate {ℓ} : {A : Type ℓ} (b : A) (n m : ℕ) → entries b n (replicate m b) ≡ replicate n b
unfolding entries
entries_replicate b zero m = refl
entries_replicate {A = A} b (suc n) zero = ap (λ (l : List A). b ∷ l) (entries_blank b n)
entries_replicate {A = A} b (suc n) (suc m) = ap (λ (l : List A). b ∷ l) (entries_replicate b n m)

pub lines_at_rest : (n : ℕ) → entries {A = ℕ} 0 n (replicate 24 0) ≡ replicate n 0
lines_at_rest n = entries_replicate {A = ℕ} 0 n 24

-- what was made of so many is shown as they were
entries_back : (n : ℕ) (l : List Account) → length l ≤ n → entries blank_account (length l) (map view_account (entries (record_account blank_account) n (map record_account l))) ≡ l
unfolding entries
entries_back n [] h = refl
entries_back zero (a ∷ l) h = absurd (omega arith)
entries_back (suc n) (a ∷ l) h = ap (λ (r : List Account). a ∷ r) (entries_back n l (omega arith))

pub accounts_at_rest : (t : TableRecord) → t.count ≤ 256 → entries blank_account t.count (map view_account (full_accounts t)) ≡ map full_account (view_links t)
accounts_at_rest t few =
    let n : length (map full_account (view_links t)) ≡ t.count = length-map (view_links t) full_account ∙ count_shown t in
    rw n at (entries_back 256 (map full_account (view_links t)) (omega arith))
