-- So many sizes are read, of four bytes each.
use Rattle.std.proofs.Common.{◌≡◌, ℕ, ◌*◌, ◌<◌, drop, slice_index}
use Rattle.model.specs.TableFile.{number_at}
use Rattle.case_records.proofs.record.read_sizes.Given as goal

abbrev pub invariant-loop-size : goal.invariant-loop-size
invariant-loop-size l =
    (l.r.rest.now ≡ drop (4 * l.size-index) l.fn.r.rest.now)
    × ((k : ℕ) → k < l.size-index → slice_index l.size-items k ≡ number_at (4 * k) 4 l.fn.r.rest.now)
