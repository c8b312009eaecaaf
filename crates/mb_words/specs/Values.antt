-- The values of options, by the rows that the words give.
use Rattle.std.specs.Prelude.{ℕ, Bool, ◌&&◌, ◌||◌, ◌==◌, nat_le, false, length, List, [], ◌∷◌, Option, Some, None}
use Rattle.std.specs.List.{list_all}
use Rattle.clap.specs.Words.{Kinds, Row, Text, first_of}
use Rattle.mb_words.specs.Numbers.{number_in}

-- a number, of the option's text or where there is none its default
abbrev pub number_or : ℕ → ℕ → Option ℕ → Option Text → Option ℕ
number_or least greatest default (Some text) = number_in least greatest text
number_or least greatest default None = default

-- the number of the option with this name
abbrev pub number_given : Text → ℕ → ℕ → Option ℕ → List Row → Option ℕ
number_given name least greatest default rows = number_or least greatest default (first_of name rows)

-- a text of 1 to `longest` bytes
unfoldable pub is_within : ℕ → Text → Bool
is_within longest text = nat_le 1 (length text) && nat_le (length text) longest

-- there are `fewest` to 4,294,967,295 texts, and each has 1 to `longest` bytes
abbrev pub are_within : ℕ → ℕ → List Text → Bool
are_within fewest longest texts =
    nat_le fewest (length texts) && nat_le (length texts) 4294967295
    && list_all (is_within longest) texts

-- the value that follows from another, if there is that one
abbrev pub and_then : {A B : Type 0} → Option A → (A → Option B) → Option B
and_then (Some value) next = next value
and_then None next = None

-- the values of words that a command takes, and none of words for which it has a kind of error
abbrev pub values_unless : {A : Type 0} → Kinds → Option A → Option A
values_unless [] values = values
values_unless (kind ∷ kinds) values = None

-- an ASCII letter, a digit or a byte of /-._~%
unfoldable pub is_path_byte : ℕ → Bool
is_path_byte byte =
    (nat_le 97 byte && nat_le byte 122) || (nat_le 65 byte && nat_le byte 90) || (nat_le 48 byte && nat_le byte 57)
    || byte == 47 || byte == 45 || byte == 46 || byte == 95 || byte == 126 || byte == 37

abbrev pub begins_with_slash : Text → Bool
begins_with_slash [] = false
begins_with_slash (byte ∷ bytes) = byte == 47

-- a path of repair requests
unfoldable pub is_path : Text → Bool
is_path text = nat_le (length text) 256 && begins_with_slash text && list_all is_path_byte text

-- a text that may name a repair server
unfoldable pub is_server : Text → Bool
is_server text = nat_le 1 (length text) && nat_le (length text) 256 && list_all (λ byte. nat_le 33 byte && nat_le byte 126) text

abbrev pub are_servers : List Text → Bool
are_servers texts = nat_le (length texts) 4294967295 && list_all is_server texts
