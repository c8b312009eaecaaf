use Rattle.std.proofs.Common.{◌≡◌, ◌≤◌, ◌<◌, get_or, drop, sym, ap, ◌∙◌, arith}
use Rattle.std.proofs.lemmas.Bool.{lt-ltb, le-ltb}
use Rattle.std.specs.Char.{digit_value}
use Rattle.mb_xml.proofs.NumberLemmas.{digits_whole, digits_step, digits_other, digits_large, digits_end}
use Rattle.mb_xml.proofs.numbers.digits_number.Goals as goal

pub returns-then-number-limit : goal.returns-then-number-limit
returns-then-number-limit c =
    sym (digits_large c.args.radix c.args.limit c.loop-byte.number (drop c.loop-byte.byte-index c.args.digits.now) (omega arith) c.if-number-limit.true)
    ∙ c.loop-byte.invariant ∙ digits_whole c.args.radix c.args.limit c.args.digits.now

pub returns-in_default : goal.returns-in_default
returns-in_default c =
    let other : c.args.radix ≤ digit_value (get_or c.args.digits.now c.loop-byte.byte-index 0) =
    omega (arith, c.in_default.ensures.value, ap digit_value c.from.ensures, c.from-in-loop-byte.ensures) in
    sym (digits_other c.args.radix c.args.limit c.loop-byte.number c.args.digits.now c.loop-byte.byte-index c.loop-byte-test.true other)
    ∙ c.loop-byte.invariant ∙ digits_whole c.args.radix c.args.limit c.args.digits.now

pub loop-byte-preserved : goal.loop-byte-preserved
loop-byte-preserved c =
    let is : c.in-Some.digit ≡ digit_value (get_or c.args.digits.now c.loop-byte.byte-index 0) = c.in-Some.ensures.value.1 ∙ ap digit_value c.from.ensures in
    let small : c.in-Some.digit < c.args.radix = omega (arith, c.in-Some.ensures.value.0, c.in-Some.ensures.value.1, c.from-in-loop-byte.ensures) in
    rw (c.from-in-loop-byte-2.ensures, c.from-in-loop-byte-3.ensures)
    (sym (digits_step c.args.radix c.args.limit c.loop-byte.number c.args.digits.now c.loop-byte.byte-index c.in-Some.digit c.loop-byte-test.true is small)
    ∙ c.loop-byte.invariant)

pub returns-then-number-limit-2 : goal.returns-then-number-limit-2
returns-then-number-limit-2 c =
    let ended = digits_end c.args.radix c.args.limit c.loop-byte.number c.args.digits.now c.loop-byte.byte-index c.loop-byte-test.false in
    let below = lt-ltb c.loop-byte.number c.args.limit c.if-number-limit-2.true in
    sym (rw below at ended) ∙ c.loop-byte.invariant ∙ digits_whole c.args.radix c.args.limit c.args.digits.now

pub returns-else-number-limit-2 : goal.returns-else-number-limit-2
returns-else-number-limit-2 c =
    let ended = digits_end c.args.radix c.args.limit c.loop-byte.number c.args.digits.now c.loop-byte.byte-index c.loop-byte-test.false in
    let large = le-ltb c.loop-byte.number c.args.limit c.if-number-limit-2.false in
    sym (rw large at ended) ∙ c.loop-byte.invariant ∙ digits_whole c.args.radix c.args.limit c.args.digits.now
