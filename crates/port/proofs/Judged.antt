-- A frame that arrived: the tick of its line, and the filter, in the record and in the model.
use mathlib.Core.Path.{◌≡◌, refl, sym, ap, ◌∙◌}
use mathlib.Core.Bool.{Bool, true, false, cond}
use mathlib.Core.Option.{Option, none, some}
use mathlib.Core.List.{List}
use Prim.Native.Nat.{ℕ, ◌<◌}
use native.Mathlib.Omega.{arith}
use borrow.Author.Tests.{eqb-true}
use lib.ListN.{length, get_or}
use lib.Seq.{drop-set-lt}
use Rattle.model.specs.Units.{occupied}
use Rattle.model.specs.Link.{link_at, place_of}
use Rattle.model.specs.Table.{Table, table_refusal}
use Rattle.model.specs.Machine.{queue_of, held}
use Rattle.model.specs.Port.{with_gate, with_line_tick}
use Rattle.model.specs.Fitness.{fit}
use Rattle.model.specs.Report.{admits, admitted, judge, judge_report}
use Rattle.model.proofs.Checks.{all_true}
use Rattle.model.proofs.Stepping.{placed}
use Rattle.model.proofs.Lined.{lined_count}
use Rattle.model.proofs.Fitness.{FitPort, fit_is}
use Rattle.table.specs.View.{view_links, view_table}
use Rattle.std.specs.Prelude.{Some, None}
use Rattle.table.proofs.PassingRecord.{counts_pass}
use Rattle.port_scheduler.specs.declared.Frame.{Frame as FrameRecord}
use Rattle.port_scheduler.specs.View.{blank_queue, view_queue, view_queues}
use Rattle.port_scheduler.proofs.Shown.{queue_shown, queue_count}
use Rattle.port_storing.specs.Storing.{Roomy}
use Rattle.port_filter.specs.Filter.{Admits}
use Rattle.port.specs.declared.Port.{Port as PortRecord}
use Rattle.port.specs.View.{view_port_table, view_port}
use Rattle.port.specs.Judging.{JudgedRecord, ticked, Arrived, LetThrough, Polices, Judges}
use Rattle.port.specs.Whole.{Whole}
use Rattle.model.proofs.Entries.{entries_set}

-- a place that the filter gives is that of the number
admitted_place : (t : Table) (line len i : ℕ) (o : Option ℕ) → admitted t line len o ≡ some i → o ≡ some i
unfolding admitted
admitted_place t line len i none e = absurd (let z : ◌≡◌ {A = ℕ} 0 1 = cc in omega arith)
admitted_place t line len i (some j) e = go (admits (link_at t.links j) line len) e
  where
    go : (b : Bool) → cond b (some j) none ≡ some i → some j ≡ some i
    go true x = x
    go false x = absurd (let z : ◌≡◌ {A = ℕ} 0 1 = cc in omega arith)

module _ (p : PortRecord) (w : Whole p) (line len : ℕ) (k : Arrived p line len) where
  pub table_passes : table_refusal (view_port_table p) ≡ 0
  unfolding fit
  table_passes = eqb-true (table_refusal (view_port_table p)) 0 (all_true _ k.fit_port).0

  fits : FitPort (view_port_table p) (view_port p)
  fits = fit_is (view_port_table p) (view_port p) k.fit_port

  pub line_in : line < 24
  line_in = omega (arith, k.line_in, (counts_pass p.table table_passes).lines_most)

  -- a queue with room for a frame is not full: a frame has at least the least length, a buffer at most 16,384 bytes
  roomy : (q : ℕ) → q < 8 → (f : FrameRecord) → f.length ≡ len → Roomy (get_or p.queues q blank_queue) (get_or p.table.sizes q 0) f
  unfolding view_table view_port occupied
  roomy q h f e =
      let counted : length (queue_of (view_queues p.queues) q) ≡ (get_or p.queues q blank_queue).count = queue_count p.queues q in
      let shown : held (queue_of (view_queues p.queues) q) ≡ held (view_queue (get_or p.queues q blank_queue)) = rw queue_shown in
      record {
        few = rw (← counted) (fits.few q h);
        room =
            λ l.
            omega (
              arith,
              counted,
              shown,
              lined_count (view_port_table p) q p.clock 0 (queue_of (view_queues p.queues) q) fits.table (fits.lined q h),
              fits.table.sizes.most q,
              k.long,
            );
      }

  ticked_shown : view_port (ticked p line) ≡ with_gate (view_port p) (with_line_tick (view_port p).gate line p.clock)
  unfolding view_port
  ticked_shown =
      ap (λ (l : List ℕ). record { scheduler = (view_port p).scheduler; marks = (view_port p).marks; gate = record { line_ticks = l; accounts = (view_port p).gate.accounts }; counters = (view_port p).counters })
      (entries_set 0 p.table.lines p.gate.line_ticks line p.clock (omega (arith, line_in, w.lines)))

  module _ {x : PortRecord} (e : x ≡ ticked p line) (number : ℕ) where
    pub table_is : table_refusal (view_table x.table) ≡ 0
    table_is = rw e table_passes

    pub is_filtered : Admits x.table line number len None → Judges p line number len (record { verdict = 1; port = x })
    unfolding judge_report judge view_table
    is_filtered a =
        let nowhere : admitted (view_port_table p) line len (place_of number (view_links p.table)) ≡ none = sym (rw e at a.place) in
        rw (e, nowhere) (record { verdict = refl; port = ticked_shown; table = refl; lines_behind = drop-set-lt p.table.lines p.gate.line_ticks line p.clock k.line_in; accounts_behind = refl; counts = refl })

    module _ (i : ℕ) (a : Admits x.table line number len (Some i)) where
      pub let_through : LetThrough x i len
      let_through = rw e (record { table = table_passes; place = rw e at (a.below i refl); short = k.short; roomy = roomy })

      pub is_admitted : {r : JudgedRecord} → Polices x i len r → Judges p line number len r
      unfolding judge_report view_table
      is_admitted s =
          let at_place : admitted (view_port_table p) line len (place_of number (view_links p.table)) ≡ some i = sym (rw e at a.place) in
          let named : (link_at (view_links p.table) i).number ≡ number =
          (placed number (view_links p.table) i (admitted_place (view_port_table p) line len i (place_of number (view_links p.table)) at_place)).number_is in
          let t = rw (e, ticked_shown, named) at s in
          rw at_place
          (record {
            verdict = t.verdict;
            port = t.port;
            table = t.table;
            lines_behind = t.lines_behind ∙ drop-set-lt p.table.lines p.gate.line_ticks line p.clock k.line_in;
            accounts_behind = t.accounts_behind;
            counts = t.counts;
          })
