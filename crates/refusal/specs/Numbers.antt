-- The paper's number of each refusal; 0 is the number of none.
use Rattle.std.specs.Prelude.{ℕ, Result, Ok, Err}
use Rattle.refusal.specs.declared.Refusal.{Refusal}
use Rattle.refusal.specs.declared.Refusal.TheVariants.{CutShort, NotDue, CountOutOfRange, FieldOutOfRange, NumberNotRising, SizeOutOfRange, BytesLeft, NoBounds, OutputTooShort, PortNotFit, PastLastTick, BeforeClock, NoSuchLine, LengthOutOfRange, LineNotFree, ListTooShort, BothEmpty, BeforeLastTaken, NotReports, AnswersTooShort, JitterTooLarge, LineBeyondCount, LineOversold, NoSuchLink, NoJitterFits, HasBounds}

abbrev pub number_of : Refusal → ℕ
number_of CutShort = 1
number_of NotDue = 2
number_of CountOutOfRange = 3
number_of FieldOutOfRange = 4
number_of NumberNotRising = 5
number_of SizeOutOfRange = 6
number_of BytesLeft = 7
number_of NoBounds = 8
number_of OutputTooShort = 9
number_of PortNotFit = 10
number_of PastLastTick = 11
number_of BeforeClock = 12
number_of NoSuchLine = 13
number_of LengthOutOfRange = 14
number_of LineNotFree = 15
number_of ListTooShort = 16
number_of BothEmpty = 17
number_of BeforeLastTaken = 18
number_of NotReports = 19
number_of AnswersTooShort = 20
number_of JitterTooLarge = 21
number_of LineBeyondCount = 22
number_of LineOversold = 23
number_of NoSuchLink = 24
number_of NoJitterFits = 25
number_of HasBounds = 26

-- an outcome's number: 0, or that of its refusal
abbrev pub number_or_0 : {T : Type 0} → Result T Refusal → ℕ
number_or_0 (Ok x) = 0
number_or_0 (Err refusal) = number_of refusal
