-- No refusal has the number 0.
use Rattle.std.proofs.Common.{◌≡◌, ◌≤◌, ap, arith}
use Rattle.std.specs.Prelude.{Result, Ok, Err, IsErrAnd}
use Rattle.refusal.specs.declared.Refusal.{Refusal}
use Rattle.refusal.specs.declared.Refusal.TheVariants.{CutShort, NotDue, CountOutOfRange, FieldOutOfRange, NumberNotRising, SizeOutOfRange, BytesLeft, NoBounds, OutputTooShort, PortNotFit, PastLastTick, BeforeClock, NoSuchLine, LengthOutOfRange, LineNotFree, ListTooShort, BothEmpty, BeforeLastTaken, NotReports, AnswersTooShort, JitterTooLarge, LineBeyondCount, LineOversold, NoSuchLink, NoJitterFits, HasBounds}
use Rattle.refusal.specs.Numbers.{number_of}

pub number_positive : (r : Refusal) → 1 ≤ number_of r
number_positive CutShort = omega arith
number_positive NotDue = omega arith
number_positive CountOutOfRange = omega arith
number_positive FieldOutOfRange = omega arith
number_positive NumberNotRising = omega arith
number_positive SizeOutOfRange = omega arith
number_positive BytesLeft = omega arith
number_positive NoBounds = omega arith
number_positive OutputTooShort = omega arith
number_positive PortNotFit = omega arith
number_positive PastLastTick = omega arith
number_positive BeforeClock = omega arith
number_positive NoSuchLine = omega arith
number_positive LengthOutOfRange = omega arith
number_positive LineNotFree = omega arith
number_positive ListTooShort = omega arith
number_positive BothEmpty = omega arith
number_positive BeforeLastTaken = omega arith
number_positive NotReports = omega arith
number_positive AnswersTooShort = omega arith
number_positive JitterTooLarge = omega arith
number_positive LineBeyondCount = omega arith
number_positive LineOversold = omega arith
number_positive NoSuchLink = omega arith
number_positive NoJitterFits = omega arith
number_positive HasBounds = omega arith

pub number_not_0 : (r : Refusal) → number_of r ≡ 0 → ⊥
number_not_0 r none = omega (arith, number_positive r)

-- what `?` passes on is the very refusal
pub passed_on : {T : Type 0} (r : Result T Refusal) (e : Refusal) → IsErrAnd r (λ f. f ≡ e) → r ≡ Err e
passed_on (Ok x) e h = absurd h
passed_on (Err f) e h = ap Err h
