-- What the value of an attribute says, its references being replaced.
use Rattle.std.specs.Prelude.{ℕ, ◌^◌, ◌==◌, ◌&&◌, ◌||◌, Bool, false, nat_lt, if◌then◌else◌, List, [], ◌∷◌, length, drop, take_while, Option, Some, None, is_some, is_none, option_and_then, codes, bytes_eq}
use Rattle.std.specs.List.{list_all}
use Rattle.std.specs.Char.{is_digit}
use Rattle.std.specs.Str.Parse.{digits_value}
use Rattle.base64.specs.Engines.{standard}
use Rattle.base64.specs.GeneralPurpose.{decoded_of}
use Rattle.mb_xml.specs.Name.{is_space}

abbrev pub some_if : {A : Type 0} → Bool → A → Option A
some_if test x = if test then Some x else None

unfoldable pub skip_space : List ℕ → List ℕ
skip_space [] = []
skip_space (b ∷ bytes) = if is_space b then skip_space bytes else b ∷ bytes

-- The digits behind white space at the front, and what is behind them.
abbrev pub digits_in : List ℕ → List ℕ
digits_in value = take_while (λ b. is_digit b 10) (skip_space value)

abbrev pub behind_digits : List ℕ → List ℕ
behind_digits value = drop (length (digits_in value)) (skip_space value)

-- the number below the limit: one decimal digit or more, and white space around them
unfoldable pub number_of : ℕ → List ℕ → Option ℕ
number_of limit value = some_if (nat_lt 0 (length (digits_in value)) && list_all is_space (behind_digits value)
    && nat_lt (digits_value 10 (digits_in value)) limit) (digits_value 10 (digits_in value))

-- the bytes of which the value is the base64 (RFC 4648 section 4), where there are so many
unfoldable pub bytes_of : ℕ → List ℕ → Option (List ℕ)
bytes_of count value = option_and_then (λ bytes. some_if (length bytes == count) bytes) (decoded_of standard value)

-- an attribute is given and its value can't be read
abbrev pub is_bad : {A : Type 0} → Option (List ℕ) → (List ℕ → Option A) → Bool
is_bad value read = is_some value && is_none (option_and_then read value)

-- the number of Expires (RFC 3926 section 3.4.2), in NTP seconds
abbrev pub expires_of : List ℕ → Option ℕ
expires_of value = number_of (2 ^ 32) value

-- the attribute Complete is there and says yes
abbrev pub is_complete : Option (List ℕ) → Bool
is_complete None = false
is_complete (Some value) = bytes_eq value (codes "true") || bytes_eq value (codes "1")
