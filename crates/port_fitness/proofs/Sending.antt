-- The frame being sent, tested.
use mathlib.Core.Path.{◌≡◌, ap}
use mathlib.Core.Bool.{true, false}
use mathlib.Core.List.{List}
use Prim.Native.Nat.{ℕ, ◌+◌, ◌-◌, ◌≤◌, ◌<◌}
use native.Mathlib.Omega.{arith}
use lib.Dec.{ltb}
use borrow.Author.Tests.{ltb-true, lt-ltb, le-ltb, lt-leb, le-leb}
use lib.ListN.{length, get_or}
use Rattle.model.specs.Machine.{Frame, Sender, sending, idle, queue_of, head_of}
use Rattle.model.specs.Fitness.{sender_fit}
use Rattle.model.proofs.Checks.{all_true, true_all}
use Rattle.port_scheduler.specs.declared.Queue.{Queue}
use Rattle.port_scheduler.specs.View.{blank_entry, blank_queue, view_queues}
use Rattle.port_scheduler.proofs.Shown.{queue_count, head_shown}
use Rattle.port_fitness.proofs.All.{same_truth, any_false}

module _ (clock : ℕ) (queues : List Queue) {s : Sender} where
  pub sends_nothing : s ≡ idle → true ≡ sender_fit clock (view_queues queues) s
  unfolding sender_fit
  sends_nothing x = rw x

  module _ (p start : ℕ) (x : s ≡ sending p start) where
    pub no_queue : 8 ≤ p → false ≡ sender_fit clock (view_queues queues) s
    unfolding sender_fit
    no_queue h = rw x (any_false _ 0 (le-ltb p 8 h))

    pub no_head : (get_or queues p blank_queue).count ≡ 0 → false ≡ sender_fit clock (view_queues queues) s
    unfolding sender_fit
    no_head e = rw x (any_false _ 1 (le-ltb 0 (length (queue_of (view_queues queues) p)) (omega (arith, queue_count queues p))))

    pub not_started : clock ≤ start → false ≡ sender_fit clock (view_queues queues) s
    unfolding sender_fit
    not_started h = rw x (any_false _ 3 (le-ltb start clock h))

    module _ (w : 0 < (get_or queues p blank_queue).count) where
      waits : 0 < length (queue_of (view_queues queues) p)
      waits = rw queue_count w

      arrival_shown : (head_of (view_queues queues) p).arrival ≡ (get_or (get_or queues p blank_queue).frames 0 blank_entry).arrival
      arrival_shown = ap (λ (f : Frame). f.arrival) (head_shown queues p waits)

      length_shown : (head_of (view_queues queues) p).length ≡ (get_or (get_or queues p blank_queue).frames 0 blank_entry).length
      length_shown = ap (λ (f : Frame). f.length) (head_shown queues p waits)

      pub not_arrived : start < (get_or (get_or queues p blank_queue).frames 0 blank_entry).arrival → false ≡ sender_fit clock (view_queues queues) s
      unfolding sender_fit
      not_arrived h = rw x (any_false _ 2 (lt-leb (head_of (view_queues queues) p).arrival start (omega (arith, arrival_shown))))

      -- clock − start is compared, since start + length could wrap in the code
      pub ends_later : p < 8 → start < clock → (get_or (get_or queues p blank_queue).frames 0 blank_entry).arrival ≤ start
          → (len : ℕ) → len ≡ (get_or (get_or queues p blank_queue).frames 0 blank_entry).length
          → ltb (clock - start) len ≡ sender_fit clock (view_queues queues) s
      unfolding sender_fit
      ends_later h l a len e =
          rw x
          (same_truth _ _
          (λ k.
          true_all _ (
            lt-ltb p 8 h,
            (
              lt-ltb 0 (length (queue_of (view_queues queues) p)) waits,
              (
                le-leb (head_of (view_queues queues) p).arrival start (omega (arith, arrival_shown)),
                (
                  lt-ltb start clock l,
                  (lt-ltb clock (start + (head_of (view_queues queues) p).length) (omega (arith, length_shown, ltb-true (clock - start) len k)), tt),
                ),
              ),
            ),
          ))
          (λ k.
          lt-ltb (clock - start) len
          (omega (arith, length_shown, ltb-true clock (start + (head_of (view_queues queues) p).length) (all_true _ k).1.1.1.1.0))))
