-- By the distance.
use mathlib.Core.Path.{◌≡◌}
use Prim.Native.Nat.{◌+◌, ◌-◌, ◌%◌}
use native.Mathlib.Omega.{arith}
use borrow.Author.Tests.{eq-eqb}
use Rattle.redundancy.proofs.Rules.{zero_follows_none, same_follows_none, follows_near}
use Rattle.redundancy.proofs.is_among.Goals as goal

pub returns-then-number-eq0 : goal.returns-then-number-eq0
returns-then-number-eq0 c = zero_follows_none c.args.many c.args.before c.args.number c.requires (omega arith) (omega arith) c.if-number-eq0.true

pub returns-then-ahead-ne0 : goal.returns-then-ahead-ne0
returns-then-ahead-ne0 c = rw (c.from.ensures, c.from-2.ensures) (follows_near c.args.many c.args.before c.args.number c.requires (omega arith) (omega arith) c.if-number-eq0.false (λ e. c.if-ahead-ne0.true (omega arith)))

pub returns-else-ahead-ne0 : goal.returns-else-ahead-ne0
returns-else-ahead-ne0 c =
    let none_ahead : (c.args.number + 255 - c.args.before) % 255 ≡ 0 = omega arith in
    rw (c.from.ensures, c.from-2.ensures, eq-eqb ((c.args.number + 255 - c.args.before) % 255) 0 none_ahead)
    (same_follows_none c.args.many c.args.before c.args.number c.requires (omega arith) (omega arith) c.if-number-eq0.false none_ahead)
