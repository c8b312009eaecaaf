-- Numbers as decimal digits.
use Rattle.std.specs.Prelude.{ℕ, Bool, ◌+◌, ◌-◌, ◌*◌, ◌&&◌, nat_le, if◌then◌else◌, List, length, fold, Option, Some, None}
use Rattle.std.specs.List.{list_all}

-- the number that decimal digits stand for
abbrev pub value_of : List ℕ → ℕ
value_of digits = fold (λ n digit. 10 * n + (digit - 48)) 0 digits

-- whether each byte is a decimal digit
abbrev pub are_digits : List ℕ → Bool
are_digits digits = list_all (λ digit. nat_le 48 digit && nat_le digit 57) digits

-- the number from `least` to `greatest` that one or more decimal digits stand for
abbrev pub number_in : ℕ → ℕ → List ℕ → Option ℕ
number_in least greatest text =
    if nat_le 1 (length text) && are_digits text
    && nat_le least (value_of text) && nat_le (value_of text) greatest
    then Some (value_of text) else None
