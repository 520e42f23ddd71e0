-- The stretch that the code makes: its backlog is the paper's, and bends.
use mathlib.Core.Path.{◌≡◌, refl, ◌∙◌}
use Prim.Native.Nat.{ℕ, ◌-◌, ◌≤◌, min}
use native.Mathlib.Decide.{dec_le}
use native.Mathlib.Omega.{arith}
use lib.ListN.{length}
use Rattle.model.specs.Units.{unkept}
use Rattle.model.specs.Table.{table_refusal}
use Rattle.model.specs.Bounds.{own_arrivals, up_arrivals, backlog}
use Rattle.model.proofs.Holds.{up_grows}
use Rattle.table.specs.declared.Table.{Table as TableRecord}
use Rattle.table.specs.View.{view_links, view_table}
use Rattle.table.proofs.Shape.{count_shown}
use Rattle.table.proofs.PassingRecord.{counts_pass}
use Rattle.bounds_arrivals.specs.declared.Loads.{Loads}
use Rattle.bounds_arrivals.specs.Loads.{between, less, Loaded, flow}
use Rattle.bounds_arrivals.proofs.Loading.{flow_is, tops_few}
use Rattle.bounds_arrivals.proofs.Views.{own_within_up, own_arrivals_lem, up_arrivals_lem}
use Rattle.bounds_backlog.specs.declared.Stretch.{Stretch}
use Rattle.bounds_backlog.specs.Peaks.{Bends}
use Rattle.bounds_backlog.specs.Stretches.{Steady, Given, SumsFit, Stretched, backlog_by, backlog_in}
use Rattle.bounds_backlog.proofs.Bending.{drained_bends}
use Rattle.bounds_backlog.proofs.Steadiness.{steady_less, load_stays, flow_bends}

module _ (t : TableRecord) (pass : table_refusal (view_table t) ≡ 0) (p b m last w : ℕ) (g : Given (view_table t) (record { priority = p; blocking = b; longest = m; last = last })) (h : w ≤ last)
    (own up : Loads) (lo : Loaded (less unkept) (between p p) (view_links t) w own) (lu : Loaded (less 0) (between 0 p) (view_links t) w up)
    (e u : ℕ) (we : w ≤ e) (st : Steady (between 0 p) (view_links t) t.count w e) (q : u ≡ min e last) (lines : ℕ) (ql : lines ≡ t.lines) where
  stretch : Stretch
  stretch = record { own = own; up = up; lines = lines; blocking = b; longest = m; start = w; last = u }

  steady : Steady (between 0 p) (view_links t) (length (view_links t)) w u
  steady = rw (count_shown t) (steady_less (between 0 p) (view_links t) t.count w e u (omega arith) st)

  own_is : (k : ℕ) → w ≤ k → k ≤ u → flow own lines k ≡ own_arrivals (view_table t) p k
  own_is k x y =
      rw ql
      (flow_is (less unkept) (between p p) (view_links t) k own t.lines (counts_pass t pass).lines_most
      (load_stays (less unkept) (between 0 p) (between p p) (own_within_up p) (view_links t) w u steady k x y own lo)
      ∙ own_arrivals_lem t p k)

  up_is : (k : ℕ) → w ≤ k → k ≤ u → flow up lines k ≡ up_arrivals (view_table t) p k
  up_is k x y =
      rw ql
      (flow_is (less 0) (between 0 p) (view_links t) k up t.lines (counts_pass t pass).lines_most
      (load_stays (less 0) (between 0 p) (between 0 p) (λ v z. z) (view_links t) w u steady k x y up lu)
      ∙ up_arrivals_lem t p k)

  -- below the hold the difference is never truncated
  busy : (k : ℕ) → w ≤ k → k ≤ u → k - b ≤ flow up lines k
  busy k x y = go (dec_le 1 k)
    where
      go : Dec (1 ≤ k) → k - b ≤ flow up lines k
      go (yes l) = omega (arith, g.blocking_is, g.is_hold.smallest k l (omega arith), up_grows (view_table t) p (k - 1) k (omega arith), up_is k x y)
      go (no l) = omega arith

  same : (k : ℕ) → w ≤ k → k ≤ u → backlog_in stretch k ≡ backlog (view_table t) p k
  unfolding stretch backlog_by backlog
  same k x y = rw (own_is k x y, up_is k x y, g.blocking_is, g.longest_is)

  bends : Bends (backlog_in stretch) w u
  unfolding stretch backlog_by
  bends = drained_bends (flow own lines) (flow up lines) b m w u g.some_link busy (flow_bends own lines w u) (flow_bends up lines w u)

  most : w ≤ 65_536
  most = omega (arith, g.is_hold.most_is)

  sized : SumsFit stretch
  unfolding stretch
  sized = record {
    lines_most = omega (arith, (counts_pass t pass).lines_most);
    some_link = g.some_link;
    longest_most = g.longest_most;
    own_most = tops_few t pass (between p p) unkept w most own lo;
    up_most = tops_few t pass (between 0 p) 0 w most up lu;
  }

  pub stretched : Stretched (backlog (view_table t) p) w last (record { own = own; up = up; lines = lines; blocking = b; longest = m; start = w; last = u })
  unfolding stretch
  stretched = record {
    start_is = refl;
    within = omega arith;
    steep = record { sized = sized; order = omega arith; last_most = omega (arith, g.is_hold.most_is); bends = bends };
    same = same;
  }
