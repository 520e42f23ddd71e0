use mathlib.Core.Path.{refl}
use native.Mathlib.Omega.{arith}
use Rattle.refusal.proofs.Numbers.{number_not_0, passed_on}
use Rattle.fenuschia_c.proofs.Sizes.{file_refused, bounds_refused, short_refused, sized_given}
use Rattle.fenuschia_c.proofs.sizing.put_sizing.Goals as goal

pub returns-in_err-t : goal.returns-in_err-t
returns-in_err-t c = rw (passed_on _ _ c.from_residual.ensures.1) (file_refused _ _ _ c.in_err-t.ensures (number_not_0 _))

pub returns-in_err-b : goal.returns-in_err-b
returns-in_err-b c = rw (passed_on _ _ c.from_residual-in_err-b.ensures.1) (bounds_refused _ _ _ c.in_ok-t.ensures refl _ c.in_err-b.ensures (number_not_0 _))

pub returns-then-out-lt256 : goal.returns-then-out-lt256
returns-then-out-lt256 c = short_refused _ _ _ c.in_ok-t.ensures refl _ c.in_ok-b.ensures refl c.if-out-lt256.true

pub returns : goal.returns
returns c = sized_given _ _ _ c.in_ok-t.ensures refl _ c.in_ok-b.ensures refl (omega (arith, c.if-out-lt256.false)) c.put_eight.ensures c.put_eight-2.ensures c.put_eight-3.ensures c.put_eight-4.ensures
