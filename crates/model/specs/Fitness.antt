-- When a port record is fit.
use Rattle.std.specs.Prelude.{Bool, true, false, List, [], ◌∷◌, ℕ, ◌+◌, eqb, leb, ltb, length}
use Rattle.std.proofs.Math.Option.{Option, none, some}
use Rattle.model.specs.Basics.{all_to, all_hold}
use Rattle.model.specs.Units.{last_tick, most_frames, full_count}
use Rattle.model.specs.Link.{bag, link_at, place_of}
use Rattle.model.specs.Table.{Table, size_of, table_refusal}
use Rattle.model.specs.Machine.{Frame, Sender, idle, sending, queue_of, head_of, held}
use Rattle.model.specs.Counters.{every_count}
use Rattle.model.specs.Port.{Port, account_at, mark_of, line_tick}

-- "queued frames name links of their priority within length limits"
unfoldable pub names_link : Table → ℕ → ℕ → Option ℕ → Bool
names_link t p len none = false
names_link t p len (some i) =
    all_hold (
    eqb (link_at t.links i).priority p
    ∷ leb (link_at t.links i).least len
    ∷ leb len (link_at t.links i).greatest
    ∷ []
    )

-- "arrival ticks rise or stay equal and are ≤ clock"; low is the arrival tick of the frame before
unfoldable pub frames_fit : Table → ℕ → ℕ → ℕ → List Frame → Bool
frames_fit t p clock low [] = true
frames_fit t p clock low (f ∷ frames) =
    all_hold (
    names_link t p f.length (place_of f.number t.links)
    ∷ leb low f.arrival
    ∷ leb f.arrival clock
    ∷ frames_fit t p clock f.arrival frames
    ∷ []
    )

-- "a frame being sent heads its queue, arrived by its start, and start < clock < start + length"
unfoldable pub sender_fit : ℕ → List (List Frame) → Sender → Bool
sender_fit clock queues idle = true
sender_fit clock queues (sending p start) =
    all_hold (
    ltb p 8
    ∷ ltb 0 (length (queue_of queues p))
    ∷ leb (head_of queues p).arrival start
    ∷ ltb start clock
    ∷ ltb clock (start + (head_of queues p).length)
    ∷ []
    )

-- "A port record is fit if" all of these hold, in the paper's order; and "Fitness requires all counts to be at most 2^52"
unfoldable pub fit : Table → Port → Bool
fit t s =
    all_hold (
    eqb (table_refusal t) 0
    ∷ leb s.scheduler.clock last_tick
    ∷ all_to (λ p. leb (length (queue_of s.scheduler.queues p)) most_frames) 8
    ∷ all_to (λ p. frames_fit t p s.scheduler.clock 0 (queue_of s.scheduler.queues p)) 8
    ∷ all_to (λ p. leb (held (queue_of s.scheduler.queues p)) (mark_of s p)) 8
    ∷ all_to (λ p. leb (mark_of s p) (size_of t p)) 8
    ∷ all_to (λ ℓ. leb (line_tick s.gate.line_ticks ℓ) s.scheduler.clock) t.lines
    ∷ all_to (λ i. leb (account_at s.gate.accounts i).tick s.scheduler.clock) (length t.links)
    ∷ all_to (λ i. leb (account_at s.gate.accounts i).credit (bag (link_at t.links i) + (link_at t.links i).jitter)) (length t.links)
    ∷ sender_fit s.scheduler.clock s.scheduler.queues s.scheduler.sender
    ∷ every_count (λ count. leb count full_count) (length t.links) s.counters
    ∷ []
    )
