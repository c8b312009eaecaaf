use Rattle.std.proofs.Common.{◌≡◌, ◌^◌, ◌-◌, true, take, min}
use Rattle.mb_words.specs.Numbers.{are_digits, value_of}
use Rattle.mb_words.proofs.numbers.value_of.Given as goal

abbrev pub invariant-loop-digit : goal.invariant-loop-digit
invariant-loop-digit l =
    (are_digits (take l.digit-index l.digits) ≡ true)
    × (l.number ≡ min (value_of (take l.digit-index l.digits)) (2 ^ 128 - 1))
