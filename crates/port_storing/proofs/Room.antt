-- The room of a queue, in the order in which the code tests.
use mathlib.Core.Path.{◌≡◌, sym}
use mathlib.Core.Bool.{false}
use Prim.Native.Nat.{ℕ, ◌+◌, ◌-◌, ◌≤◌, ◌<◌}
use native.Mathlib.Decide.{dec_le}
use native.Mathlib.Omega.{arith}
use lib.Dec.{leb}
use borrow.Author.Tests.{le-leb, lt-leb}

pub too_large : (held more size : ℕ) → size < more → false ≡ leb (held + more) size
too_large held more size h = sym (lt-leb (held + more) size (omega arith))

pub room_left : (held more size : ℕ) → more ≤ size → leb held (size - more) ≡ leb (held + more) size
room_left held more size h =
    elim (dec_le held (size - more)) [
      | yes k ↦ rw (le-leb held (size - more) k) (sym (le-leb (held + more) size (omega arith)))
      | no k ↦ rw (lt-leb held (size - more) (omega arith)) (sym (lt-leb (held + more) size (omega arith)))
    ]
