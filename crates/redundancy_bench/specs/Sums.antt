-- What bench/ makes of two recordings in memory: calls in a row, and a sum of what is told of their parts.
use Rattle.std.specs.Prelude.{Bool, true, false, cond, List, [], ℕ, zero, suc, ◌+◌, ◌*◌, ◌/◌, ◌%◌, ltb, length, get_or, take, drop}
use Rattle.model.specs.Redundancy.{Network, neither, network_a, network_b, State, Presented, Selection, select}
use Rattle.redundancy_measure.specs.declared.Measure.{Measure}
use Rattle.redundancy_measure.specs.Measure.{measure_of}

-- frames of 64 bytes, one behind the other: the k-th, or none
unfoldable pub frame_at : List ℕ → ℕ → List ℕ
frame_at frames k = cond (ltb k (length frames / 64)) (take 64 (drop (k * 64) frames)) []

unfoldable pub is_b : Network → Bool
is_b neither = false
is_b network_a = false
is_b network_b = true

unfoldable pub added : ℕ → Measure → ℕ
added total m = total % 4_294_967_296 + m.length % 65_536 + m.first + m.last

-- two recordings with their ticks
pub record Recordings : Type 0 where
  pub a : List ℕ
  pub ticks_a : List ℕ
  pub b : List ℕ
  pub ticks_b : List ℕ

-- two waiting frames and their ticks
abbrev pub placed : List ℕ → ℕ → List ℕ → ℕ → Presented
placed a at_a b at_b = record { a = record { frame = a; tick = at_a }; b = record { frame = b; tick = at_b } }

-- the answer where the i-th frame of A and the j-th of B wait
abbrev pub answer_at : Recordings → State → ℕ → ℕ → Selection
answer_at r s i j = select s (placed (frame_at r.a i) (get_or r.ticks_a i 0) (frame_at r.b j) (get_or r.ticks_b j 0))

-- so many calls; the frame that is taken makes room for the next of its recording
unfoldable pub sum_of : ℕ → Recordings → State → ℕ → ℕ → ℕ → ℕ
sum_of zero r s i j total = total
sum_of (suc k) r s i j total =
    let answer = answer_at r s i j in
    let on_b = is_b answer.decision.network in
    sum_of k r answer.decision.state (cond on_b i (i + 1)) (cond on_b (j + 1) j) (added total (measure_of answer.part))
