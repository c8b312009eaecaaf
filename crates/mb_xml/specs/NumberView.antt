-- What the bytes of a value so far are of a number.
use Rattle.std.specs.Prelude.{ℕ, ◌<◌, ◌&&◌, nat_lt, List, length, drop, take_while, Option, ⊤}
use Rattle.std.specs.List.{list_all}
use Rattle.std.specs.Char.{is_digit}
use Rattle.std.specs.Str.Parse.{digits_value_after}
use Rattle.mb_xml.specs.declared.numbers.NumberRead.{NumberRead}
use Rattle.mb_xml.specs.declared.numbers.NumberRead.TheVariants.{Nothing, Digits, Whole}
use Rattle.mb_xml.specs.Name.{is_space}
use Rattle.mb_xml.specs.Value.{some_if, number_of}

-- the digits at the front, and what is behind them
abbrev pub digits_at : List ℕ → List ℕ
digits_at bytes = take_while (λ b. is_digit b 10) bytes

abbrev pub behind_digits_at : List ℕ → List ℕ
behind_digits_at bytes = drop (length (digits_at bytes)) bytes

-- the number below the limit that these bytes go on with behind some that were read
abbrev pub number_with : ℕ → NumberRead → List ℕ → Option ℕ
number_with limit Nothing bytes = number_of limit bytes
number_with limit (Digits n) bytes = some_if (list_all is_space (behind_digits_at bytes)
    && nat_lt (digits_value_after 10 n (digits_at bytes)) limit) (digits_value_after 10 n (digits_at bytes))
number_with limit (Whole n) bytes = some_if (list_all is_space bytes) n

-- what is read with white space behind it
abbrev pub behind_space : NumberRead → NumberRead
behind_space Nothing = Nothing
behind_space (Digits n) = Whole n
behind_space (Whole n) = Whole n

-- the number that was read is below the limit
abbrev pub IsBelow : ℕ → NumberRead → Type 0
IsBelow limit Nothing = ⊤
IsBelow limit (Digits n) = n < limit
IsBelow limit (Whole n) = n < limit
