-- Numbers, byte by byte, with white space around their digits.
use Rattle.std.proofs.Common.{◌≡◌, ℕ, suc, ◌+◌, ◌*◌, ◌<◌, ◌≤◌, true, false, ◌&&◌, nat_lt, List, [], ◌∷◌, length, drop, Option, None, refl, ◌∙◌, ap, inl, inr, arith}
use Rattle.std.specs.List.{list_all, prefix_len}
use Rattle.std.specs.Char.{is_digit, digit_value}
use Rattle.std.specs.Str.Parse.{digits_value, digits_value_after}
use Rattle.std.proofs.lemmas.Bool.{cases_Bool, lt-ltb, le-ltb}
use Rattle.std.proofs.lemmas.Bool.Decides.{nat_tests}
use Rattle.mb_xml.specs.declared.numbers.NumberRead.{NumberRead}
use Rattle.mb_xml.specs.declared.numbers.NumberRead.TheVariants.{Nothing, Digits, Whole}
use Rattle.mb_xml.specs.Name.{is_space}
use Rattle.mb_xml.specs.Value.{some_if, skip_space, number_of}
use Rattle.mb_xml.specs.NumberView.{number_with, behind_space, behind_digits_at, digits_at, IsBelow}
use Rattle.mb_xml.proofs.NumberLemmas.{le_value_after}

pub number_nothing : (limit : ℕ) → number_of limit [] ≡ None
unfolding number_of skip_space
number_nothing limit = refl

space_is_no_digit : (b : ℕ) → is_space b ≡ true → is_digit b 10 ≡ false
space_is_no_digit b is = grind (arith, nat_tests)

pub number_space : (limit : ℕ) (read : NumberRead) (b : ℕ) (bytes : List ℕ) → IsBelow limit read → is_space b ≡ true
    → number_with limit read (b ∷ bytes) ≡ number_with limit (behind_space read) bytes
unfolding number_of skip_space
number_space limit Nothing b bytes below is = rw is refl
number_space limit (Digits n) b bytes below is =
    let other : is_digit b 10 ≡ false = space_is_no_digit b is in
    let test : nat_lt n limit ≡ true = lt-ltb n limit below in
    elim (cases_Bool (list_all is_space bytes)) [
      | inl passes ↦ rw (other, is, test, passes) refl
      | inr fails ↦ rw (other, is, test, fails) refl
    ]
number_space limit (Whole n) b bytes below is = rw is refl

digits_more : (b : ℕ) (bytes : List ℕ) → is_digit b 10 ≡ true → digits_at (b ∷ bytes) ≡ b ∷ digits_at bytes
digits_more b bytes is =
    let more : 1 + prefix_len (λ x. is_digit x 10) bytes ≡ suc (prefix_len (λ x. is_digit x 10) bytes) = omega arith in
    rw (is, more) refl

-- the number of these digits, with this behind them
abbrev number_of_digits : ℕ → List ℕ → List ℕ → Option ℕ
number_of_digits limit digits behind = some_if (nat_lt 0 (length digits) && list_all is_space behind && nat_lt (digits_value 10 digits) limit) (digits_value 10 digits)

first_digit : (limit b d : ℕ) (digits behind : List ℕ) → d ≡ digit_value b → number_of_digits limit (b ∷ digits) behind
    ≡ some_if (list_all is_space behind && nat_lt (digits_value_after 10 d digits) limit) (digits_value_after 10 d digits)
first_digit limit b d digits behind is =
    let value : 0 * 10 + digit_value b ≡ d = omega (arith, is) in
    let some : nat_lt 0 (suc (length digits)) ≡ true = lt-ltb 0 (suc (length digits)) (omega arith) in
    rw (value, some) refl

skip_none : (b : ℕ) (bytes : List ℕ) → is_space b ≡ false → skip_space (b ∷ bytes) ≡ b ∷ bytes
unfolding skip_space
skip_none b bytes other = rw other refl

number_parts_of : (limit : ℕ) (value s : List ℕ) → skip_space value ≡ s → number_of limit value ≡ number_of_digits limit (digits_at s) (behind_digits_at s)
unfolding number_of
number_parts_of limit value s is = ap (λ (t : List ℕ). number_of_digits limit (digits_at t) (behind_digits_at t)) is

pub number_first_digit : (limit b d : ℕ) (bytes : List ℕ) → is_space b ≡ false → d ≡ digit_value b → d < 10
    → number_with limit Nothing (b ∷ bytes) ≡ number_with limit (Digits d) bytes
number_first_digit limit b d bytes other is digit =
    let test : is_digit b 10 ≡ true = lt-ltb (digit_value b) 10 (omega (arith, is, digit)) in
    number_parts_of limit (b ∷ bytes) (b ∷ bytes) (skip_none b bytes other)
    ∙ ap (λ (ds : List ℕ). number_of_digits limit ds (drop (length ds) (b ∷ bytes))) (digits_more b bytes test)
    ∙ first_digit limit b d (digits_at bytes) (behind_digits_at bytes) is

pub number_next_digit : (limit n b d : ℕ) (bytes : List ℕ) → d ≡ digit_value b → d < 10
    → number_with limit (Digits n) (b ∷ bytes) ≡ number_with limit (Digits (n * 10 + d)) bytes
number_next_digit limit n b d bytes is digit =
    let test : nat_lt (digit_value b) 10 ≡ true = lt-ltb (digit_value b) 10 (omega (arith, is, digit)) in
    let more : 1 + prefix_len (λ x. is_digit x 10) bytes ≡ suc (prefix_len (λ x. is_digit x 10) bytes) = omega arith in
    rw (is, test, more) refl

pub number_large : (limit n : ℕ) (bytes : List ℕ) → limit ≤ n → number_with limit (Digits n) bytes ≡ None
number_large limit n bytes large =
    let test : nat_lt (digits_value_after 10 n (digits_at bytes)) limit ≡ false =
    le-ltb (digits_value_after 10 n (digits_at bytes)) limit (omega (arith, le_value_after 10 n (digits_at bytes) (omega arith), large)) in
    elim (cases_Bool (list_all is_space (behind_digits_at bytes))) [
      | inl passes ↦ rw (passes, test) refl
      | inr fails ↦ rw fails refl
    ]

pub number_other : (limit : ℕ) (read : NumberRead) (b : ℕ) (bytes : List ℕ) → is_space b ≡ false → 10 ≤ digit_value b
    → number_with limit read (b ∷ bytes) ≡ None
unfolding number_of skip_space
number_other limit Nothing b bytes other digit =
    let test : nat_lt (digit_value b) 10 ≡ false = le-ltb (digit_value b) 10 digit in
    rw (other, test) refl
number_other limit (Digits n) b bytes other digit =
    let test : nat_lt (digit_value b) 10 ≡ false = le-ltb (digit_value b) 10 digit in
    rw (test, other) refl
number_other limit (Whole n) b bytes other digit = rw other refl
