-- A port record in flat lists, and a record of flat lists.
use Rattle.std.specs.Prelude.{Option as OptionOf, Some, None, Ok}
use mathlib.Core.Path.{◌≡◌, refl, sym, ap, ◌∙◌}
use mathlib.Core.Bool.{true}
use mathlib.Core.Option.{Option, none, some}
use mathlib.Core.List.{List, [], ◌∷◌, map}
use Prim.Native.Nat.{ℕ, zero, suc, ◌*◌, ◌≤◌}
use native.Mathlib.Omega.{arith}
use borrow.Author.Tests.{eqb-true, leb-true}
use lib.ListN.{get_or, drop}
use Rattle.model.specs.Basics.{Each, done, also}
use Rattle.model.specs.Link.{place_of, link_at}
use Rattle.model.specs.Table.{Table, table_refusal}
use Rattle.model.specs.Machine.{Frame, queue_of}
use Rattle.model.specs.Port.{Account}
use Rattle.model.specs.Fitness.{names_link, fit}
use Rattle.model.specs.Batch.{reports_in, batch_or}
use Rattle.model.proofs.Checks.{all_true}
use Rattle.model.proofs.Stepping.{Placed, placed}
use Rattle.model.proofs.Passing.{Passing}
use Rattle.model.proofs.Lined.{Lined, over as lined-over, next}
use Rattle.model.proofs.Fitness.{FitPort, fit_is}
use Rattle.table.specs.declared.Table.{Table as TableRecord}
use Rattle.table.specs.View.{view_table}
use Rattle.table.proofs.Shape.{count_shown}
use Rattle.table.proofs.PassingRecord.{counts_pass}
use Rattle.port_policing.specs.declared.Account.{Account as AccountRecord}
use Rattle.port_policing.specs.Check.{view_account, record_account}
use Rattle.port_scheduler.specs.declared.Queue.{Queue}
use Rattle.port_scheduler.proofs.Shown.{queue_count}
use Rattle.port.specs.declared.Port.{Port as PortRecord}
use Rattle.port.specs.View.{view_port_table, view_port}
use Rattle.port.specs.Whole.{Whole}
use Rattle.flat_queues.specs.declared.Rings.{Rings}
use Rattle.flat_scheduler.proofs.Rings.{ring_count}
use Rattle.flat_record.specs.Promised.{CountsPut, CountsRead, QueuesFit, QueuesPut, QueuesRead, RingsFit, Narrow}
use Rattle.flat_record.proofs.Rows.{counts_stay as stay}
use Rattle.flat_port.specs.declared.FlatPort.{FlatPort}
use Rattle.flat_port.specs.Lists.{queues_in, view_flat, Stands}
use Rattle.flat_batch.specs.Promised.{batch_of, Ends, Answers}
use Rattle.port_batch.specs.Promised.{batch_from, Fit, Answered}
use Rattle.port_batch.proofs.Refusing.{untouched}

-- the links of a fit record are not more than its arrays
pub fit_few : {p : PortRecord} {holding : ℕ} → Fit p holding → p.table.count ≤ 256
unfolding fit
fit_few {p} k = (counts_pass p.table (eqb-true (table_refusal (view_port_table p)) 0 (all_true _ k.fits).0)).links_most

-- ---- from the record
pub queues_room : {p : PortRecord} {holding : ℕ} → Fit p holding → QueuesFit p.queues
unfolding view_port
queues_room {p} k r h =
    let f : FitPort (view_port_table p) (view_port p) = fit_is (view_port_table p) (view_port p) k.fits in
    rw (← queue_count p.queues r) (f.few r h)

module _ {p : PortRecord} {holding : ℕ} (k : Fit p holding) {rings : Rings} (q : QueuesPut p.queues rings) {tallies : List ℕ} (f : CountsPut p.counts p.unknown tallies) where
  abbrev t : Table
  t = view_table p.table

  abbrev start : FlatPort
  start =
      record {
        lists = record { rings = rings; ticks = p.gate.line_ticks; accounts = p.gate.accounts; tallies = tallies };
        state = record { clock = p.clock; sender = p.sender; frames = holding };
      }

  pub start_shown : view_flat t start ≡ view_port p
  unfolding view_port view_table
  start_shown = rw (q.rings, q.marks_are, count_shown p.table, f.counters_are p.table.count (fit_few k))

  pub stands : Stands t start
  unfolding view_port
  stands = record { holds = q.holds; frames = rw q.rings k.frames_are; fits = rw start_shown k.fits }

-- ---- what goes into a record
narrow_frame : (t : Table) (p : ℕ) (f : Frame) → Passing t → names_link t p f.length (place_of f.number t.links) ≡ true → Narrow f
unfolding names_link
narrow_frame t p f v e = go (place_of f.number t.links) refl e
  where
    go : (o : Option ℕ) → place_of f.number t.links ≡ o → names_link t p f.length o ≡ true → Narrow f
    go none x y = absurd (let z : ◌≡◌ {A = ℕ} 0 1 = cc in omega arith)
    go (some i) x y =
        let all = all_true _ y in
        let k : Placed f.number t.links i = placed f.number t.links i x in
        let fields = v.fields i k.in_range in
        (omega (arith, k.number_is, fields.number_most), omega (arith, leb-true f.length (link_at t.links i).greatest all.1.1.0, fields.greatest_most))

all_narrow : (t : Table) (p c low : ℕ) (q : List Frame) → Passing t → Lined t p c low q → Each Narrow q
all_narrow t p c low [] v lined-over = done
all_narrow t p c low (f ∷ q) v (next n a b r) = also {a = f} (narrow_frame t p f v n) (all_narrow t p c f.arrival q v r)

pub rings_fit : {t : Table} {x : FlatPort} → Stands t x → RingsFit x.lists.rings
rings_fit {t} {x} k =
    let f : FitPort t (view_flat t x) = fit_is t (view_flat t x) k.fits in
    let r = x.lists.rings in
    record {
      few = λ p h. rw (← ring_count r.frames r.heads r.counts p) (f.few p h);
      low = λ p h. omega (arith, f.within p h, f.table.sizes.most p);
      narrow = λ p h. all_narrow t p x.state.clock 0 (queue_of (queues_in x.lists) p) f.table (f.lined p h);
    }

-- the record of rings and flat lists, and its view
abbrev pub record_of : TableRecord → FlatPort → List Queue → List ℕ → PortRecord
record_of t x queues counts =
    record {
      table = t;
      clock = x.state.clock;
      queues = queues;
      sender = x.state.sender;
      gate = record { line_ticks = x.lists.ticks; accounts = x.lists.accounts };
      counts = counts;
      unknown = get_or x.lists.tallies 1280 0;
    }

pub record_shown : (r : TableRecord) → r.count ≤ 256 → (x : FlatPort) {queues : List Queue} {counts : List ℕ} → QueuesRead x.lists.rings queues → CountsRead x.lists.tallies counts →
    view_port (record_of r x queues counts) ≡ view_flat (view_table r) x
unfolding view_port view_table
record_shown r few x q f = rw (q.rings, q.marks_are, count_shown r, f.counters_are r.count few)

-- accounts that are shown the same are the same
back : (a : List AccountRecord) → map record_account (map view_account a) ≡ a
back [] = refl
back (x ∷ a) = ap (λ (l : List AccountRecord). x ∷ l) (back a)

same_accounts : (a b : List AccountRecord) → map view_account a ≡ map view_account b → a ≡ b
same_accounts a b e = sym (back a) ∙ ap (λ (l : List Account). map record_account l) e ∙ back b

drop-map : {A B : Type 0} (f : A → B) (n : ℕ) (l : List A) → drop n (map f l) ≡ map f (drop n l)
drop-map f zero l = refl
drop-map f (suc n) [] = refl
drop-map f (suc n) (x ∷ l) = drop-map f n l

-- ---- after the reports
module _ {p : PortRecord} (w : Whole p) {holding : ℕ} (k : Fit p holding) {rings : Rings} (q : QueuesPut p.queues rings) {tallies : List ℕ} (f : CountsPut p.counts p.unknown tallies)
    (reports answers list : List ℕ) {answers' list' : List ℕ} {ran : OptionOf ℕ} {x : FlatPort}
    (ends : Ends (view_table p.table) (start k q f) (batch_of (view_table p.table) (start k q f) (reports_in reports) list) ran x)
    (given : Answers (batch_of (view_table p.table) (start k q f) (reports_in reports) list) answers answers' list list') where
  -- the model's batch of the record
  batch_is : batch_of (view_table p.table) (start k q f) (reports_in reports) list ≡ batch_from p reports list
  batch_is = rw (start_shown k q f)

  accounts_stay : drop p.table.count x.lists.accounts ≡ drop p.table.count p.gate.accounts
  unfolding view_table
  accounts_stay =
      let e = rw (count_shown p.table) at ends.behind.accounts in
      same_accounts (drop p.table.count x.lists.accounts) (drop p.table.count p.gate.accounts)
      (sym (drop-map view_account p.table.count x.lists.accounts) ∙ e ∙ drop-map view_account p.table.count p.gate.accounts)

  -- counts behind those of the table's links are as they came
  counts_stay : {filed : List ℕ} → CountsRead x.lists.tallies filed → drop (4 * p.table.count) filed ≡ drop (4 * p.table.count) p.counts
  unfolding view_table
  counts_stay cr = stay f cr w.counts p.table.count (rw (count_shown p.table) at ends.behind.tallies)

  pub kept : ran ≡ None → Answered p reports answers answers' list list' (record { outcome = Ok 0; port = p })
  unfolding batch_or
  kept e =
      let u = untouched (view_port_table p) (view_port p) (reports_in reports) list (rw batch_is at (ends.all_refused e)) in
      record {
        gives =
            record {
              refused = refl;
              departures = sym u.freed;
              port = sym u.port;
              answers_are = rw batch_is at given.answers_are;
              list_is = rw batch_is at given.list_is;
              table = refl;
              lines_behind = refl;
              accounts_behind = refl;
              counts_behind = refl;
            };
        same_port = λ x. refl;
      }

  pub moved : {n : ℕ} → ran ≡ Some n → {queues : List Queue} {filed : List ℕ} → QueuesRead x.lists.rings queues → CountsRead x.lists.tallies filed →
      Answered p reports answers answers' list list' (record { outcome = Ok n; port = record_of p.table x queues filed })
  unfolding batch_or view_table
  moved {n} e {queues} {filed} qr cr =
      let b = rw batch_is at ends.port in
      record {
        gives =
            record {
              refused = refl;
              departures = rw batch_is at (ends.departures n e);
              port = record_shown p.table (fit_few k) x qr cr ∙ b;
              answers_are = rw batch_is at given.answers_are;
              list_is = rw batch_is at given.list_is;
              table = refl;
              lines_behind = ends.behind.lines;
              accounts_behind = accounts_stay;
              counts_behind = counts_stay cr;
            };
        same_port = λ y. absurd (let z : ◌≡◌ {A = ℕ} 0 1 = let v : Some n ≡ None = sym e ∙ ends.untouched (rw batch_is y) in cc in omega arith);
      }
