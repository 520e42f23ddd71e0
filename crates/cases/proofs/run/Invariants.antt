-- So many turns went well.
use Rattle.std.proofs.Common.{◌≡◌, List, length}
use Rattle.std.specs.Prelude.{Ok}
use Rattle.std.specs.List.{FoldsTo}
use Rattle.cases.proofs.run.Given as goal

abbrev pub invariant-loop-turn : goal.invariant-loop-turn
invariant-loop-turn g l =
    goal.F-IsAlwaysCallable g l.next
    × ((well : List (Unit {0})) × FoldsTo (λ p x q. goal.F-step g p (Ok x) q) l.fn.next well l.next × (length well ≡ l.turn))
