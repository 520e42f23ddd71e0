-- A frame of the link at a place: its account charged, and the frame stored or not, in the record and in the model.
use mathlib.Core.Path.{◌≡◌, refl, sym, ap, ◌∙◌}
use mathlib.Core.Bool.{Bool, true, false}
use mathlib.Core.Option.{some}
use mathlib.Core.List.{List, map}
use Prim.Native.Nat.{ℕ, ◌<◌}
use native.Mathlib.Omega.{arith}
use lib.ListN.{get_or, set, drop, length-map, get_or-map}
use lib.Seq.{drop-set-lt}
use Rattle.model.specs.Basics.{entries}
use Rattle.model.specs.Link.{bag}
use Rattle.model.specs.Port.{Account, blank_account, account_at, with_gate}
use Rattle.model.specs.Report.{Policed, police_at, has_room, store, passed_if, judge, arrived}
use Rattle.model.proofs.Entries.{get_d_entries}
use Rattle.table.specs.declared.VirtualLink.{VirtualLink as LinkFields}
use Rattle.table.specs.View.{view_link, blank_fields, view_table}
use Rattle.table.proofs.PassingRecord.{counts_pass, entry_is, entry_fits}
use Rattle.port_policing.specs.Check.{view_account, record_account}
use Rattle.port_scheduler.specs.declared.Frame.{Frame as FrameRecord}
use Rattle.port_scheduler.specs.View.{blank_queue}
use Rattle.port_refusals.specs.Verdicts.{verdict_of}
use Rattle.port_storing.specs.declared.Settled.{Settled}
use Rattle.port_storing.specs.Storing.{Roomy, Settles}
use Rattle.port.specs.declared.Port.{Port as PortRecord}
use Rattle.port.specs.View.{view_port_table, view_port}
use Rattle.port.specs.Charging.{Charged, charge_by}
use Rattle.port.specs.Judging.{JudgedRecord, link_of, LetThrough, Stores, Polices}
use Rattle.port.specs.Whole.{Whole}
use Rattle.model.proofs.Lists.{map-set}
use Rattle.model.proofs.Entries.{entries_set}
use Rattle.port.proofs.Stored.{with_queues, settled_verdict, settled_port}

module _ (p : PortRecord) (w : Whole p) (i len : ℕ) (k : LetThrough p i len) where
  pub in_array : i < 256
  in_array = omega (arith, (counts_pass p.table k.table).links_most, k.place)

  abbrev fields : LinkFields
  fields = get_or p.table.links i blank_fields

  pub link_is : link_of p i ≡ view_link (get_or p.table.numbers i 0) fields
  link_is = entry_is p.table k.table i k.place

  pub priority_in : fields.priority < 8
  priority_in = omega (arith, (entry_fits p.table k.table i k.place).priority_most)

  -- ---- the store
  abbrev it : FrameRecord
  it = record { number = get_or p.table.numbers i 0; length = len; arrival = p.clock }

  pub roomy : Roomy (get_or p.queues fields.priority blank_queue) (get_or p.table.sizes fields.priority 0) it
  roomy = k.roomy fields.priority priority_in it refl

  pub is_stored : {s : Settled} → Settles (get_or p.queues fields.priority blank_queue) (get_or p.table.sizes fields.priority 0) it s
      → Stores p i len (record { verdict = verdict_of s.verdict; port = with_queues p (set p.queues fields.priority s.queue) })
  unfolding store has_room view_table view_port
  is_stored settles =
      rw link_is
      (record {
        verdict = settled_verdict p fields.priority w.queues priority_in it (get_or p.table.sizes fields.priority 0) settles;
        port = settled_port p fields.priority w.queues priority_in it (get_or p.table.sizes fields.priority 0) settles;
        table = refl;
        lines_behind = refl;
        accounts_behind = refl;
        counts = refl;
      })

  -- ---- the police check
  account_is : account_at (entries blank_account p.table.count (map view_account p.gate.accounts)) i ≡ view_account (get_or p.gate.accounts i (record_account blank_account))
  account_is = get_d_entries blank_account p.table.count (map view_account p.gate.accounts) i k.place ∙ get_or-map view_account p.gate.accounts i (record_account blank_account)

  module _ {B J : ℕ} (b : B ≡ bag (link_of p i)) (j : J ≡ (link_of p i).jitter) where
    abbrev charged : Charged
    charged = charge_by B J p i p.clock

    abbrev policed : Policed
    policed = police_at (bag (link_of p i)) (link_of p i).jitter (view_port p).gate i p.clock

    passed_is : charged.passed ≡ policed.passed
    unfolding view_port police_at
    passed_is = rw (b, j, account_is)

    accounts_are : entries blank_account p.table.count (map view_account charged.port.gate.accounts) ≡ policed.gate.accounts
    unfolding view_port police_at
    accounts_are =
        ap (λ (l : List Account). entries blank_account p.table.count l) (map-set view_account p.gate.accounts i _)
        ∙ entries_set blank_account p.table.count (map view_account p.gate.accounts) i _ (rw length-map (omega (arith, in_array, w.accounts)))
        ∙ rw (b, j, account_is)

    charged_shown : view_port charged.port ≡ with_gate (view_port p) policed.gate
    unfolding view_port police_at
    charged_shown =
        ap (λ (l : List Account). record { scheduler = (view_port p).scheduler; marks = (view_port p).marks; gate = record { line_ticks = (view_port p).gate.line_ticks; accounts = l }; counters = (view_port p).counters }) accounts_are

    behind : drop p.table.count charged.port.gate.accounts ≡ drop p.table.count p.gate.accounts
    behind = drop-set-lt p.table.count p.gate.accounts i _ k.place

    by_police : (x : Bool) → policed.passed ≡ x → judge (view_port_table p) (view_port p) (arrived (link_of p i).number len p.clock) (some i)
        ≡ passed_if x (view_port_table p) (with_gate (view_port p) policed.gate) (link_of p i).priority (arrived (link_of p i).number len p.clock)
    unfolding judge view_table
    by_police x e =
        ap (λ (y : Bool). passed_if y (view_port_table p) (with_gate (view_port p) policed.gate) (link_of p i).priority (arrived (link_of p i).number len p.clock)) e

    module _ {x : Charged} (charges : x ≡ charged) where
      pub is_policed : x.passed ≡ false → Polices p i len (record { verdict = 2; port = x.port })
      unfolding passed_if
      is_policed e =
          rw (charges, by_police false (sym passed_is ∙ (rw charges at e))) (record { verdict = refl; port = charged_shown; table = refl; lines_behind = refl; accounts_behind = behind; counts = refl })

      -- the port in which it was charged is as the one before it for the store
      pub still_let : LetThrough x.port i len
      still_let = rw charges (record { table = k.table; place = k.place; short = k.short; roomy = k.roomy })

      pub is_passed : x.passed ≡ true → {r : JudgedRecord} → Stores x.port i len r → Polices p i len r
      unfolding passed_if
      is_passed e s =
          let t = rw (charges, charged_shown) at s in
          rw (by_police true (sym passed_is ∙ (rw charges at e))) (record { verdict = t.verdict; port = t.port; table = t.table; lines_behind = t.lines_behind; accounts_behind = t.accounts_behind ∙ behind; counts = t.counts })
