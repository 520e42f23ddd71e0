-- A frame that arrived: the tick of its line, the filter, the police check and the store, in flat lists and in the model.
use Rattle.std.specs.Prelude.{Option}
use mathlib.Core.Path.{◌≡◌, refl, sym, ap, ◌∙◌}
use mathlib.Core.Logic.{⊎_elim}
use mathlib.Core.Bool.{Bool, true, false}
use mathlib.Core.Option.{none, some}
use mathlib.Core.List.{List, map}
use Prim.Native.Nat.{ℕ, zero, suc, ◌+◌, ◌≤◌, ◌<◌}
use native.Mathlib.Omega.{arith}
use lib.ListN.{length, get_or, set, drop, length-map, get_or-map}
use lib.Seq.{drop-set-lt}
use Rattle.model.specs.Basics.{entries}
use Rattle.model.specs.Link.{VirtualLink, bag, link_at, place_of}
use Rattle.model.specs.Table.{Table, size_of}
use Rattle.model.specs.Machine.{Frame, Sender, frames_held}
use Rattle.model.specs.Port.{Account, Gate, Port, blank_account, account_at, with_gate, with_line_tick}
use Rattle.model.specs.Report.{frame, Judged, admitted, police, police_at, passed_if, judge, judge_report, arrived, counted_by}
use Rattle.model.proofs.Lists.{map-set}
use Rattle.model.proofs.Entries.{get_d_entries, entries_set}
use Rattle.model.proofs.Passing.{Passing, is_passing}
use Rattle.table_lookup.specs.Places.{view_place}
use Rattle.port_policing.specs.declared.Account.{Account as AccountRecord}
use Rattle.port_policing.specs.declared.Checked.{Checked as CheckedRecord}
use Rattle.port_policing.specs.Check.{view_account, record_account, check_by}
use Rattle.counters.specs.Promised.{Within, Tallied}
use Rattle.flat_queues.specs.declared.Rings.{Rings}
use Rattle.flat_queues.specs.View.{queues_in as queues_of_rings}
use Rattle.flat_scheduler.specs.Promised.{Holds}
use Rattle.flat_storing.specs.Storing.{Roomy, Shown, Settles, Kept, KeptInPlace}
use Rattle.flat_port.specs.declared.Lists.{Lists}
use Rattle.flat_port.specs.Lists.{queues_in, view_lists}
use Rattle.flat_port.specs.Promised.{Arrived, stored_by, judge_counted, Gives, GivesInPlace}

pub stored_most : (n : ℕ) → stored_by n ≤ 1
unfolding stored_by
stored_most zero = omega arith
stored_most (suc n) = omega arith

-- what the code knows of every port: its arrays have their lengths
pub record Sized (l : Lists) : Type 0 where
  pub ticks : length l.ticks ≡ 24
  pub accounts : length l.accounts ≡ 256

-- the line's tick is set
abbrev pub ticked_lists : Lists → ℕ → ℕ → Lists
ticked_lists l line time = record { rings = l.rings; ticks = set l.ticks line time; accounts = l.accounts; tallies = l.tallies }

-- and an account is charged
abbrev pub charged_lists : Lists → ℕ → ℕ → List AccountRecord → Lists
charged_lists l line time accounts = record { rings = l.rings; ticks = set l.ticks line time; accounts = accounts; tallies = l.tallies }

-- and a frame is stored
abbrev pub settled_lists : Lists → ℕ → ℕ → List AccountRecord → Rings → Lists
settled_lists l line time accounts rings = record { rings = rings; ticks = set l.ticks line time; accounts = accounts; tallies = l.tallies }

-- and counted
abbrev pub tallied_lists : Lists → List ℕ → Lists
tallied_lists l tallies = record { rings = l.rings; ticks = l.ticks; accounts = l.accounts; tallies = tallies }

-- the model's check of the account at a place, for any B and J; the others stay
pub record Charges (bag jitter : ℕ) (accounts : List AccountRecord) (i time : ℕ) (passed : Bool) (accounts' : List AccountRecord) : Type 0 where
  pub passed_is : passed ≡ (police bag jitter (account_at (map view_account accounts) i) time).passed
  pub accounts_are : map view_account accounts' ≡ set (map view_account accounts) i (police bag jitter (account_at (map view_account accounts) i) time).account

pub charges : (bag jitter : ℕ) (accounts : List AccountRecord) (i time : ℕ) {passed : Bool} {a : AccountRecord} →
    record { passed = passed; account = a } ≡ check_by bag jitter (get_or accounts i (record_account blank_account)) time → Charges bag jitter accounts i time passed (set accounts i a)
charges bag jitter accounts i time {passed} {a} e =
    let read : account_at (map view_account accounts) i ≡ view_account (get_or accounts i (record_account blank_account)) = get_or-map view_account accounts i (record_account blank_account) in
    record {
      passed_is = rw read (ap (λ (c : CheckedRecord). c.passed) e);
      accounts_are = rw read (map-set view_account accounts i a ∙ ap (λ (c : CheckedRecord). set (map view_account accounts) i (view_account c.account)) e);
    }

module _ {t : Table} {l : Lists} {line len : ℕ} (z : Sized l) (k : Arrived t l line len) (number time : ℕ) where
  passing : Passing t
  passing = is_passing t k.table

  pub line_few : line < 24
  line_few = omega (arith, k.line_in, passing.counts.lines_most)

  ticked_shown : (clock : ℕ) (sender : Sender) → view_lists t clock sender (ticked_lists l line time)
      ≡ with_gate (view_lists t clock sender l) (with_line_tick (view_lists t clock sender l).gate line time)
  ticked_shown clock sender =
      ap (λ (ticks : List ℕ). record { scheduler = (view_lists t clock sender l).scheduler; marks = l.rings.marks; gate = record { line_ticks = ticks; accounts = (view_lists t clock sender l).gate.accounts }; counters = (view_lists t clock sender l).counters })
      (entries_set 0 t.lines l.ticks line time (omega (arith, line_few, z.ticks)))

  lines_stay : drop t.lines (set l.ticks line time) ≡ drop t.lines l.ticks
  lines_stay = drop-set-lt t.lines l.ticks line time k.line_in

  abbrev verdict_of : Port → Judged
  verdict_of s = judge_report t s (frame time line number len)

  pub is_filtered : none ≡ admitted t line len (place_of number t.links) → Gives t l verdict_of 1 (ticked_lists l line time)
  unfolding judge_report judge stored_by
  is_filtered e =
      record {
        verdict_is = λ clock sender. rw (← e);
        port = λ clock sender. rw (← e) (ticked_shown clock sender);
        holds = k.holds;
        frames = omega arith;
        behind = record { lines = lines_stay; accounts = refl; tallies = λ j a b. refl };
      }

  -- the verdict leaves the counts; the frame is counted by its number
  pub is_counted : {verdict : ℕ} {l₂ : Lists} → Gives t l verdict_of verdict l₂ → l₂.tallies ≡ l.tallies → {place : Option ℕ} → view_place place ≡ place_of number t.links → Within (length t.links) place →
      {tallies : List ℕ} → Tallied place verdict l.tallies tallies → Gives t l (judge_counted t (frame time line number len)) verdict (tallied_lists l₂ tallies)
  unfolding counted_by
  is_counted {verdict} {l₂} g e {place} found within {tallies} c =
      record {
        verdict_is = g.verdict_is;
        port = λ clock sender. rw (← g.port clock sender, ← g.verdict_is clock sender, ← found, e, c.counted_is (length t.links) passing.counts.links_most within);
        holds = g.holds;
        frames = g.frames;
        behind = record { lines = g.behind.lines; accounts = g.behind.accounts; tallies = c.behind (length t.links) within };
      }

  -- and the heads of the rings stay, here and of the other verdicts below
  pub is_filtered_in_place : none ≡ admitted t line len (place_of number t.links) → GivesInPlace t l verdict_of 1 (ticked_lists l line time)
  is_filtered_in_place e = record { gives = is_filtered e; heads = refl }

  pub is_counted_in_place : {verdict : ℕ} {l₂ : Lists} → GivesInPlace t l verdict_of verdict l₂ → l₂.tallies ≡ l.tallies → {place : Option ℕ} → view_place place ≡ place_of number t.links → Within (length t.links) place →
      {tallies : List ℕ} → Tallied place verdict l.tallies tallies → GivesInPlace t l (judge_counted t (frame time line number len)) verdict (tallied_lists l₂ tallies)
  is_counted_in_place g e found within c = record { gives = is_counted g.gives e found within c; heads = g.heads }

  module _ (i : ℕ) (e : some i ≡ admitted t line len (place_of number t.links)) (below : i < length t.links) where
    abbrev v : VirtualLink
    v = link_at t.links i

    abbrev f : Frame
    f = arrived number len time

    few : i < 256
    few = omega (arith, passing.counts.links_most)

    pub priority_few : {p : ℕ} → p ≡ v.priority → p < 8
    priority_few pe = omega (arith, pe, (passing.fields i below).priority_most)

    module _ {passed : Bool} {accounts : List AccountRecord} (c : Charges (bag v) v.jitter l.accounts i time passed accounts) where
      abbrev l₂ : Lists
      l₂ = charged_lists l line time accounts

      -- the model's gate before and after the check
      abbrev shown : List Account
      shown = map view_account l.accounts

      abbrev gate_at : Gate
      gate_at = record { line_ticks = set (entries 0 t.lines l.ticks) line time; accounts = entries blank_account (length t.links) shown }

      read : account_at gate_at.accounts i ≡ account_at shown i
      read = get_d_entries blank_account (length t.links) shown i below

      passed_shown : passed ≡ (police_at (bag v) v.jitter gate_at i time).passed
      unfolding police_at
      passed_shown = rw read c.passed_is

      accounts_few : i < length shown
      accounts_few = rw length-map (omega (arith, few, z.accounts))

      gate_shown : (clock : ℕ) (sender : Sender) → (view_lists t clock sender l₂).gate ≡ (police_at (bag v) v.jitter gate_at i time).gate
      unfolding police_at
      gate_shown clock sender =
          let a = (police (bag v) v.jitter (account_at shown i) time).account in
          rw (read, c.accounts_are, entries_set blank_account (length t.links) shown i a accounts_few, entries_set 0 t.lines l.ticks line time (omega (arith, line_few, z.ticks)))

      charged_shown : (clock : ℕ) (sender : Sender) → view_lists t clock sender l₂ ≡ with_gate (view_lists t clock sender l) (police_at (bag v) v.jitter gate_at i time).gate
      charged_shown clock sender = ap (λ (g : Gate). with_gate (view_lists t clock sender l) g) (gate_shown clock sender)

      accounts_stay : drop (length t.links) (map view_account accounts) ≡ drop (length t.links) shown
      accounts_stay = rw c.accounts_are (drop-set-lt (length t.links) shown i _ below)

      -- what the model makes of it
      judged_shown : (clock : ℕ) (sender : Sender) → verdict_of (view_lists t clock sender l) ≡ passed_if passed t (view_lists t clock sender l₂) v.priority f
      unfolding judge_report judge
      judged_shown clock sender = rw (← e, ← passed_shown, charged_shown clock sender)

      pub is_policed : passed ≡ false → Gives t l verdict_of 2 l₂
      unfolding passed_if stored_by
      is_policed q =
          record {
            verdict_is = λ clock sender. rw (judged_shown clock sender, q);
            port = λ clock sender. rw (judged_shown clock sender, q);
            holds = k.holds;
            frames = omega arith;
            behind = record { lines = lines_stay; accounts = accounts_stay; tallies = λ j a b. refl };
          }

      pub is_policed_in_place : passed ≡ false → GivesInPlace t l verdict_of 2 l₂
      is_policed_in_place q = record { gives = is_policed q; heads = refl }

      module _ (q : passed ≡ true) {p size : ℕ} (pe : p ≡ v.priority) (se : size ≡ size_of t p) where
        pub roomy : Roomy l.rings p size len
        roomy = record { ring = priority_few pe; holds = k.holds; free = λ h. k.room p (priority_few pe) (omega arith) }

        pub is_settled : {verdict : ℕ} {rings : Rings} →
            ((t' : Table) (s : Port) → Shown t' s p size (queues_in l) l.rings.marks → Settles t' s p f verdict (queues_of_rings rings) rings.marks) →
            Holds rings.held (queues_of_rings rings) → Kept l.rings verdict rings → Gives t l verdict_of verdict (settled_lists l line time accounts rings)
        unfolding passed_if stored_by
        is_settled {verdict} {rings} s holds kept =
            let shown : (clock : ℕ) (sender : Sender) → Settles t (view_lists t clock sender l₂) p f verdict (queues_of_rings rings) rings.marks =
            λ clock sender. s t (view_lists t clock sender l₂) (record { size_is = sym se; queues_are = refl; marks_are = refl }) in
            record {
              verdict_is = λ clock sender. rw (judged_shown clock sender, q, ← pe) (shown clock sender).verdict_is;
              port = λ clock sender. rw (judged_shown clock sender, q, ← pe) (shown clock sender).port_is;
              holds = holds;
              frames = frames_more;
              behind = record { lines = lines_stay; accounts = accounts_stay; tallies = λ j a b. refl };
            }
          where
            frames_more : frames_held (queues_of_rings rings) ≡ frames_held (queues_in l) + stored_by verdict
            frames_more = ⊎_elim (λ e. rw e (kept.stored e)) (λ e. rw e (let d = kept.dropped e in rw d (omega arith))) kept.either

        pub is_settled_in_place : {verdict : ℕ} {rings : Rings} →
            ((t' : Table) (s : Port) → Shown t' s p size (queues_in l) l.rings.marks → Settles t' s p f verdict (queues_of_rings rings) rings.marks) →
            Holds rings.held (queues_of_rings rings) → KeptInPlace l.rings verdict rings → GivesInPlace t l verdict_of verdict (settled_lists l line time accounts rings)
        is_settled_in_place s holds k = record { gives = is_settled s holds k.kept; heads = k.heads }
