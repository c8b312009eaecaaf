-- White space and names (XML 1.0 sections 2.3 and 2.6, as bytes of UTF-8: each byte of a character above 127 may stand in a name).
use Rattle.std.specs.Prelude.{◌≡◌, ℕ, ◌==◌, ◌&&◌, ◌||◌, Bool, true, nat_le, if◌then◌else◌, List, [], ◌∷◌}
use Rattle.std.specs.List.{AllByRecursion, list_any}

-- space, tab, carriage return, line feed
abbrev pub is_space : ℕ → Bool
is_space b = (b == 32) || (b == 9) || (b == 13) || (b == 10)

abbrev pub is_letter : ℕ → Bool
is_letter b = (nat_le 65 b && nat_le b 90) || (nat_le 97 b && nat_le b 122)

-- a letter, an underscore, a colon, or a byte of a character above 127
abbrev pub is_name_start : ℕ → Bool
is_name_start b = is_letter b || (b == 95) || (b == 58) || nat_le 128 b

-- one of these, a digit, a hyphen or a dot
abbrev pub is_name_byte : ℕ → Bool
is_name_byte b = is_name_start b || (nat_le 48 b && nat_le b 57) || (b == 45) || (b == 46)

abbrev pub IsSpace : List ℕ → Type 0
IsSpace bytes = AllByRecursion (λ b. is_space b ≡ true) bytes

abbrev pub IsName : List ℕ → Type 0
IsName [] = ⊥
IsName (b ∷ bytes) = (is_name_start b ≡ true) × AllByRecursion (λ c. is_name_byte c ≡ true) bytes

-- a name without its prefix: what stands behind the last colon
unfoldable pub local_part : List ℕ → List ℕ
local_part [] = []
local_part (b ∷ bytes) = if list_any (λ c. c == 58) (b ∷ bytes) then local_part bytes else b ∷ bytes
