-- What stands before a count: line ticks, accounts, links.
use mathlib.Core.Path.{◌≡◌, sym, ◌∙◌}
use mathlib.Core.Bool.{Bool, true, false}
use mathlib.Core.List.{List, map}
use Prim.Native.Nat.{ℕ, ◌+◌, ◌≤◌, ◌<◌}
use borrow.Author.Tests.{lt-leb, le-leb}
use native.Mathlib.Omega.{arith}
use lib.ListN.{length, get_or, take, length-take, length-map, get_or-map}
use Rattle.std.specs.Bool.{MatchBool}
use Rattle.std.specs.List.{AllWithin, HoldsAt}
use lib.Seq.{get_or-take}
use mir.Val.{Val}
use denote.Laws.{Is}
use denote.Array.{Array}
use denote.Struct.Declared.{row}
use Rattle.model.specs.Basics.{entries}
use Rattle.model.specs.Link.{bag_of}
use Rattle.model.specs.Port.{blank_account, account_at}
use Rattle.port_policing.specs.declared.Account.{Account as AccountRecord}
use Rattle.port_policing.specs.Check.{view_account, record_account}
use Rattle.port_policing.specs.contracts.Account.{the_type}
use Rattle.port_scheduler.proofs.Shown.{entries_take}
use Rattle.table.specs.declared.Table.{Table as TableRecord}
use Rattle.table.specs.View.{blank_fields}
use Rattle.table.proofs.Shape.{Sized, link_shown}
use Rattle.model.proofs.Checks.{to_all}
use Rattle.port_fitness.proofs.All.{all_stops}
use Rattle.port_fitness.specs.Conditions.{line_fits, lines_fit, tick_fits, credit_fits}

pub entry_shown {ℓ} : {A : Type ℓ} (b : A) (n : ℕ) (l : List A) (i : ℕ) → n ≤ length l → i < n → get_or (entries b n l) i b ≡ get_or l i b
entry_shown b n l i h k = rw (entries_take b n l h) (get_or-take n l i b k)

pub accounts_whole : (accounts : List AccountRecord) (vs : List Val) → Is (Array (row the_type) 256) accounts vs → length accounts ≡ 256
accounts_whole accounts vs s = s.1.0.1

pub account_shown : (accounts : List AccountRecord) (n i : ℕ) → n ≤ length accounts → i < n →
    account_at (entries blank_account n (map view_account accounts)) i ≡ view_account (get_or accounts i (record_account blank_account))
account_shown accounts n i h k =
    entry_shown blank_account n (map view_account accounts) i (rw length-map h) k
    ∙ get_or-map view_account accounts i (record_account blank_account)

-- ---- the tests of an entry
module _ (ticks : List ℕ) (n clock i : ℕ) (w : n ≤ length ticks) (h : i < n) where
  pub line_late : clock < get_or ticks i 0 → line_fits ticks n clock i ≡ false
  line_late e = rw (entry_shown 0 n ticks i w h) (lt-leb _ _ e)

  pub line_past : get_or ticks i 0 ≤ clock → line_fits ticks n clock i ≡ true
  line_past e = rw (entry_shown 0 n ticks i w h) (le-leb _ _ e)

-- what `all` found of the ticks before the count
pub lines_decide : (ticks : List ℕ) (n clock : ℕ) → n ≤ length ticks → (r : Bool) →
    MatchBool r (AllWithin (λ x. x ≤ clock) (take n ticks) 0 (length (take n ticks))) ((i : ℕ) × (i < length (take n ticks)) × HoldsAt (λ x. clock < x) (take n ticks) i) → r ≡ lines_fit ticks n clock
lines_decide ticks n clock w true h =
    sym (to_all _ n (λ i k. line_past ticks n clock i w k (rw (get_or-take n ticks i 0 k) at (h i 0 (omega arith) (simp length-take (omega arith))))))
lines_decide ticks n clock w false h =
    let k : h.0 < n = omega (arith, h.1, length-take {A = ℕ}) in
    all_stops _ n h.0 k (line_late ticks n clock h.0 w k (rw (get_or-take n ticks h.0 0 k) at (h.2 0)))

module _ (accounts : List AccountRecord) (n clock i : ℕ) (w : n ≤ length accounts) (h : i < n) where
  pub tick_late : clock < (get_or accounts i (record_account blank_account)).tick → tick_fits accounts n clock i ≡ false
  tick_late e = rw (account_shown accounts n i w h) (lt-leb _ _ e)

  pub tick_past : (get_or accounts i (record_account blank_account)).tick ≤ clock → tick_fits accounts n clock i ≡ true
  tick_past e = rw (account_shown accounts n i w h) (le-leb _ _ e)

-- top: B + J of the link
module _ (accounts : List AccountRecord) (t : TableRecord) (s : Sized t) (k : t.count ≤ 256) (i : ℕ) (w : t.count ≤ length accounts) (h : i < t.count)
    (top : ℕ) (e : top ≡ bag_of (get_or t.links i blank_fields).code + (get_or t.links i blank_fields).jitter) where
  pub credit_high : top < (get_or accounts i (record_account blank_account)).credit → credit_fits accounts t i ≡ false
  credit_high x = rw (account_shown accounts t.count i w h, link_shown t i s h k) (lt-leb _ _ (rw e at x))

  pub credit_within : (get_or accounts i (record_account blank_account)).credit ≤ top → credit_fits accounts t i ≡ true
  credit_within x = rw (account_shown accounts t.count i w h, link_shown t i s h k) (le-leb _ _ (rw e at x))
