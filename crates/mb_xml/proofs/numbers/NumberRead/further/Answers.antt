use Rattle.std.proofs.Common.{◌≡◌, ℕ, ◌+◌, ◌*◌, ◌<◌, ◌≤◌, sym, ap, ◌∙◌, arith}
use Rattle.std.specs.Char.{digit_value}
use Rattle.mb_xml.proofs.NumberSteps.{number_space, number_first_digit, number_next_digit, number_large, number_other}
use Rattle.mb_xml.proofs.numbers.NumberRead.further.Goals as goal
use Rattle.mb_xml.proofs.numbers.NumberRead.further.Goals.{in-Nothing, in-Digits}

pub returns-then-is_space-clause-exact : goal.returns-then-is_space-clause-exact
returns-then-is_space-clause-exact c = λ bytes. rw c.spaced.ensures
    (number_space c.args.limit c.args.self c.args.byte bytes c.requires.below (sym c.if-is_space.ensures))

pub returns-in_err-to_digit-clause-exact : goal.returns-in_err-to_digit-clause-exact
returns-in_err-to_digit-clause-exact c = λ bytes.
    let other : 10 ≤ digit_value c.args.byte = omega (arith, c.in_err-to_digit.ensures.value, ap digit_value c.from.ensures) in
    rw c.from_residual.ensures (number_other c.args.limit c.args.self c.args.byte bytes (sym c.if-is_space.ensures) other)

pub returns-then-number-limit-clause-exact : goal.returns-then-number-limit-clause-exact
returns-then-number-limit-clause-exact c = λ bytes.
    let limit = c.args.limit in
    let digit : ℕ = c.from-digit.result in
    let is : digit ≡ digit_value c.args.byte = c.from-digit.ensures ∙ c.in_ok-to_digit.ensures.value.1 ∙ ap digit_value c.from.ensures in
    let small : digit < 10 = omega (arith, c.in_ok-to_digit.ensures.value.0, c.from-digit.ensures, c.in_ok-to_digit.ensures.value.1) in
    elim c.match-self.branch [
      | in-Nothing w ↦ rw (w.in-Nothing.is, w.number-is) (number_first_digit limit c.args.byte digit bytes (sym c.if-is_space.ensures) is small)
      | in-Digits w ↦ rw (w.in-Digits.is, w.number-is) (number_next_digit limit w.in-Digits.number c.args.byte digit bytes is small)
    ]

pub returns-else-number-limit-clause-exact : goal.returns-else-number-limit-clause-exact
returns-else-number-limit-clause-exact c = λ bytes.
    let limit = c.args.limit in
    let digit : ℕ = c.from-digit.result in
    let is : digit ≡ digit_value c.args.byte = c.from-digit.ensures ∙ c.in_ok-to_digit.ensures.value.1 ∙ ap digit_value c.from.ensures in
    let small : digit < 10 = omega (arith, c.in_ok-to_digit.ensures.value.0, c.from-digit.ensures, c.in_ok-to_digit.ensures.value.1) in
    let large = c.if-number-limit.false in
    elim c.match-self.branch [
      | in-Nothing w ↦ rw w.in-Nothing.is (number_first_digit limit c.args.byte digit bytes (sym c.if-is_space.ensures) is small
          ∙ number_large limit digit bytes (rw w.number-is at large))
      | in-Digits w ↦ rw w.in-Digits.is (number_next_digit limit w.in-Digits.number c.args.byte digit bytes is small
          ∙ number_large limit (w.in-Digits.number * 10 + digit) bytes (rw w.number-is at large))
    ]
