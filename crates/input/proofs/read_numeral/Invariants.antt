use Rattle.input.proofs.Numerals.{Read}
use Rattle.input.proofs.read_numeral.Given as goal

abbrev pub invariant-loop-byte : goal.invariant-loop-byte
invariant-loop-byte l = Read l.text l.byte-index l.value
