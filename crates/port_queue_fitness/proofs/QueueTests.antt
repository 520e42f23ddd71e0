-- The loop over the frames of a queue, and the loop over the queues.
use Rattle.std.specs.Prelude.{Option, Some, None}
use Rattle.std.specs.Bool.{then_some}
use mathlib.Core.Path.{◌≡◌, refl, sym, ap, ◌∙◌}
use mathlib.Core.Bool.{Bool, true, false, ◌&&◌}
use mathlib.Core.List.{List, [], ◌∷◌}
use Prim.Native.Nat.{ℕ, ◌+◌, ◌≤◌, ◌<◌}
use native.Mathlib.Omega.{arith}
use lib.Dec.{leb}
use borrow.Author.Tests.{lt-leb, le-leb}
use lib.ListN.{length, get_or, take, drop, get_or-map}
use Rattle.model.specs.Units.{most_frames}
use Rattle.model.specs.Link.{link_at, place_of}
use Rattle.model.specs.Table.{table_refusal}
use Rattle.model.specs.Basics.{all_to, all_hold}
use Rattle.model.specs.Machine.{Frame, queue_of, bytes, held, frames_held}
use Rattle.model.specs.Fitness.{frames_fit, sender_fit}
use Rattle.model.proofs.Checks.{all_true, true_all}
use Rattle.table.specs.declared.Table.{Table as TableRecord}
use Rattle.table.specs.View.{view_link, blank_fields, view_links, view_table}
use Rattle.table.proofs.PassingRecord.{entry_is}
use Rattle.port_scheduler.specs.declared.Queue.{Queue}
use Rattle.port_scheduler.specs.declared.Sending.{Sending}
use Rattle.port_scheduler.specs.View.{view_frame, blank_entry, blank_queue, view_queue, view_queues, view_marks, view_sender}
use Rattle.port_scheduler.proofs.Shown.{count_shown, queue_shown, queue_count}
use Rattle.port_scheduler.proofs.Sums.{frames_all}
use Rattle.table_lookup.specs.Places.{view_place, Found}
use Rattle.port_fitness.specs.Conditions.{frame_fits}
use Rattle.port_queue_fitness.specs.Queues.{load_fits, queue_fits, queues_fit, queues_fitness}
use Rattle.port_fitness.proofs.All.{not_both, same_truth, any_false, all_stops, all_end}
use Rattle.table_lookup.proofs.Tables.{links_named}
use Rattle.port_queue_fitness.proofs.Frames.{frame_shown, names_none, names_one, frames_end}

-- ---- the frames of a queue
module _ (t : TableRecord) (q : Queue) (p clock low i : ℕ)
    (so_far : frames_fit (view_table t) p clock 0 (view_queue q) ≡ frames_fit (view_table t) p clock low (drop i (view_queue q))) where
  pub sum_decides : q.count ≤ i → {sum m : ℕ} → sum ≡ held (view_queue q) → m ≡ q.mark → leb sum m ≡ load_fits t clock p q
  sum_decides h e x =
      let all : frames_fit (view_table t) p clock 0 (view_queue q) ≡ true = so_far ∙ frames_end (view_table t) p clock low (view_queue q) i (omega (arith, count_shown q)) in
      rw (e, x) (same_truth _ _ (λ y. true_all _ (all, (y, tt))) (λ (y : load_fits t clock p q ≡ true). (all_true _ y).1.0))

  module _ (pass : table_refusal (view_table t) ≡ 0) (w : q.count ≤ length q.frames) (h : i < q.count)
      (n : ℕ) (same : n ≡ (get_or q.frames i blank_entry).number) (r : Option ℕ) (found : Found t.numbers t.count n r) where
    abbrev f : Frame
    f = view_frame (get_or q.frames i blank_entry)

    within : i < length (view_queue q)
    within = rw count_shown h

    place_is : place_of f.number (view_table t).links ≡ view_place r
    unfolding view_table
    place_is = rw (← same) (found.place (view_links t) (links_named t pass))

    pub unnamed : r ≡ None → false ≡ load_fits t clock p q
    unnamed e = any_false _ 0 (so_far ∙ names_none (view_table t) p clock low (view_queue q) i within f (frame_shown q i h w) (place_is ∙ ap view_place e))

    module _ (k : ℕ) (e : r ≡ Some k) (b : Bool) (is : (m : ℕ) → b ≡ frame_fits (view_link m (get_or t.links k blank_fields)) p clock low f) where
      link_is : link_at (view_table t).links k ≡ view_link (get_or t.numbers k 0) (get_or t.links k blank_fields)
      unfolding view_table
      link_is = entry_is t pass k (found.below k e)

      tested : frames_fit (view_table t) p clock 0 (view_queue q) ≡ (b && frames_fit (view_table t) p clock f.arrival (drop (i + 1) (view_queue q)))
      tested =
          so_far
          ∙ names_one (view_table t) p clock low (view_queue q) i within f (frame_shown q i h w) k (place_is ∙ ap view_place e)
          ∙ rw (link_is, ← is (get_or t.numbers k 0))

      pub unfit : b ≡ false → false ≡ load_fits t clock p q
      unfit x = any_false _ 0 (tested ∙ rw x)

      pub goes_on : b ≡ true → frames_fit (view_table t) p clock 0 (view_queue q) ≡ frames_fit (view_table t) p clock f.arrival (drop (i + 1) (view_queue q))
      goes_on x = tested ∙ rw x

-- ---- the queue of priority i
module _ (t : TableRecord) (clock : ℕ) (queues : List Queue) (i : ℕ) where
  abbrev q : Queue
  q = get_or queues i blank_queue

  mark_shown : get_or (view_marks queues) i 0 ≡ q.mark
  mark_shown = get_or-map (λ (r : Queue). r.mark) queues i blank_queue

  pub too_many : most_frames < q.count → queue_fits t clock queues i ≡ false
  too_many h = sym (any_false _ 0 (lt-leb (length (queue_of (view_queues queues) i)) most_frames (rw queue_count h)))

  pub mark_above : get_or t.sizes i 0 < q.mark → queue_fits t clock queues i ≡ false
  mark_above h = sym (any_false _ 3 (lt-leb (get_or (view_marks queues) i 0) (get_or t.sizes i 0) (rw mark_shown h)))

  pub queue_fits_lem : q.count ≤ most_frames → true ≡ load_fits t clock i q → q.mark ≤ get_or t.sizes i 0 → queue_fits t clock queues i ≡ true
  queue_fits_lem a b c =
      let load = all_true (frames_fit (view_table t) i clock 0 (view_queue q) ∷ leb (held (view_queue q)) q.mark ∷ []) (sym b) in
      true_all _ (
        le-leb (length (queue_of (view_queues queues) i)) most_frames (rw queue_count a),
        (
          rw queue_shown load.0,
          (rw (queue_shown, mark_shown) load.1.0, (le-leb (get_or (view_marks queues) i 0) (get_or t.sizes i 0) (rw mark_shown c), tt)),
        ),
      )

  pub load_unfit : false ≡ load_fits t clock i q → queue_fits t clock queues i ≡ false
  load_unfit e = go (queue_fits t clock queues i) refl
    where
      go : (b : Bool) → queue_fits t clock queues i ≡ b → b ≡ false
      go false x = refl
      go true x =
          let all = all_true _ x in
          let frames : frames_fit (view_table t) i clock 0 (view_queue q) ≡ true = rw queue_shown at all.1.0 in
          let sum : leb (held (view_queue q)) q.mark ≡ true = rw (queue_shown, mark_shown) at all.1.1.0 in
          not_both (true_all (frames_fit (view_table t) i clock 0 (view_queue q) ∷ leb (held (view_queue q)) q.mark ∷ []) (frames, (sum, tt))) (sym e)

-- nothing is queued
nothing : {A : Type 0} (l : List A) → length l ≡ 0 → l ≡ []
nothing [] e = refl
nothing (x ∷ l) e = absurd (omega arith)

pub none_queued : (t : TableRecord) (clock p : ℕ) (r : Queue) → r.count ≡ 0 → true ≡ load_fits t clock p r
unfolding bytes
none_queued t clock p r e =
    let none : view_queue r ≡ [] = nothing (view_queue r) (count_shown r ∙ e) in
    sym
    (true_all (frames_fit (view_table t) p clock 0 (view_queue r) ∷ leb (held (view_queue r)) r.mark ∷ []) (
      frames_end (view_table t) p clock 0 (view_queue r) 0 (omega (arith, count_shown r)),
      (rw none (le-leb 0 r.mark (omega arith)), tt),
    ))

-- ---- what is told of all queues and of the sender
module _ (t : TableRecord) (clock : ℕ) (queues : List Queue) (sender : Option Sending) where
  abbrev fits : Bool
  fits = all_hold (queues_fit t clock queues ∷ sender_fit clock (view_queues queues) (view_sender sender) ∷ [])

  unfit_told : false ≡ fits → None ≡ queues_fitness t clock queues sender
  unfit_told x = ap (λ (b : Bool). then_some b (frames_held (view_queues queues))) x

  pub queue_told : (i : ℕ) → i < 8 → queue_fits t clock queues i ≡ false → None ≡ queues_fitness t clock queues sender
  queue_told i h x = unfit_told (any_false _ 0 (sym (all_stops _ 8 i h x)))

  pub sender_told : false ≡ sender_fit clock (view_queues queues) (view_sender sender) → None ≡ queues_fitness t clock queues sender
  sender_told x = unfit_told (any_false _ 1 (sym x))

  -- all queues fit, and then it is the sender's turn
  pub all_told : (i : ℕ) → i ≤ 8 → 8 ≤ i → length queues ≡ 8 → all_to (queue_fits t clock queues) i ≡ true → {frames : ℕ} → frames ≡ frames_held (take i (view_queues queues))
      → (b : Bool) → b ≡ sender_fit clock (view_queues queues) (view_sender sender) → then_some b frames ≡ queues_fitness t clock queues sender
  all_told i h k n all e b x =
      let fits_is : b ≡ fits =
      same_truth b fits (λ y. true_all _ (sym (all_end _ 8 i h k all), (sym x ∙ y, tt))) (λ (y : fits ≡ true). x ∙ (all_true _ y).1.0) in
      rw (← fits_is, e ∙ frames_all queues i (omega arith))
