-- The sizes of a record, one after the other.
use Rattle.std.proofs.Common.{◌≡◌, ℕ, ◌+◌, ◌*◌, ◌<◌, List, length, drop, take, slice_index, slice_set, arith, ◌∙◌, ap, get_or-set_same, get_or-set_other}
use native.Mathlib.Decide.{ℕ_discrete}
use Rattle.model.specs.TableFile.{number_at, from_bytes}

-- the next of them, put behind those
pub one_more : (items : List ℕ) (i v : ℕ) (rest s : List ℕ) → rest ≡ drop (4 * i) s → ((k : ℕ) → k < i → slice_index items k ≡ number_at (4 * k) 4 s) → v ≡ number_at 0 4 rest → i < length items → (k : ℕ) → k < i + 1 → slice_index (slice_set items i v) k ≡ number_at (4 * k) 4 s
one_more items i v rest s stands before is within k below = go (ℕ_discrete k i)
  where
    go : Dec (k ≡ i) → slice_index (slice_set items i v) k ≡ number_at (4 * k) 4 s
    go (yes e) = rw (e, get_or-set_same items i v 0 within) (is ∙ ap (λ t. from_bytes (take 4 t)) stands)
    go (no e) = rw (get_or-set_other items i k v 0 e) (before k (omega arith))
