-- `batch_cases::lists::freed` is safe: the sum stays within what the answers can tell of. Assumes nothing.
use Prim.Native.Nat.{◌*◌, ◌≤◌}
use Rattle.batch_cases.proofs.lists.freed.Given as goal

abbrev pub invariant-loop-i : goal.invariant-loop-i
invariant-loop-i l = (l.n ≤ 2133) × (l.sum ≤ 6400 * l.i)
