use mathlib.Core.Path.{◌≡◌, sym, ◌∙◌}
use native.Mathlib.Omega.{arith}
use Prim.Native.Nat.{◌-◌}
use lib.ListN.{length, get_or}
use borrow.Author.Tests.{eqb-true, eqb-false}
use Rattle.input.specs.Numerals.{with_digit, capped}
use Rattle.input.proofs.Numerals.{none_read, one_more, no_numeral_lem, whole_read, empty_read}
use Rattle.input.proofs.read_numeral.Goals as goal

pub loop-byte-init : goal.loop-byte-init
loop-byte-init c = none_read c.args.text.now

pub loop-byte-preserved : goal.loop-byte-preserved
loop-byte-preserved c =
    let digit = get_or c.args.text.now c.loop-byte.byte-index 0 - 48 in
    let more : c.saturating_add-value.result ≡ capped (with_digit c.loop-byte.value digit) = omega arith in
    rw more
    (one_more c.args.text.now c.loop-byte.byte-index c.loop-byte.value c.loop-byte-test.true
    (sym c.is_ascii_digit.ensures.value ∙ c.if-not-is_ascii_digit.false) c.loop-byte.invariant)

pub returns-then-not-is_ascii_digit : goal.returns-then-not-is_ascii_digit
returns-then-not-is_ascii_digit c =
    no_numeral_lem c.args.text.now c.loop-byte.byte-index c.loop-byte-test.true (sym c.is_ascii_digit.ensures.value ∙ c.if-not-is_ascii_digit.true)

pub returns-then-is_empty : goal.returns-then-is_empty
returns-then-is_empty c = empty_read c.args.text.now (eqb-true (length c.args.text.now) 0 (sym c.is_empty.ensures ∙ c.if-is_empty.true))

pub returns-else-is_empty : goal.returns-else-is_empty
returns-else-is_empty c = whole_read c.args.text.now c.loop-byte.byte-index c.loop-byte.value c.loop-byte-test.false (eqb-false (length c.args.text.now) 0 (sym c.is_empty.ensures ∙ c.if-is_empty.false)) c.loop-byte.invariant
