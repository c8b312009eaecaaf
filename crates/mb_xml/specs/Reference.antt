-- References in the value of an attribute that is read (XML 1.0 sections 4.1 and 4.6).
use Rattle.std.specs.Prelude.{ℕ, ◌+◌, ◌*◌, ◌==◌, ◌&&◌, ◌||◌, Bool, true, false, not, nat_lt, nat_le, if◌then◌else◌, List, [], ◌∷◌, ◌++◌, drop, Option, Some, None, codes, bytes_eq, is_some, unwrap_or, encode_utf8}
use Rattle.std.specs.List.{list_all, list_any, starts_with}
use Rattle.std.specs.Char.{is_digit, digit_value}
use Rattle.std.specs.Str.Parse.{digits_value}
use Rattle.std.specs.Prelude.{nat_eq}

-- a Unicode scalar value other than 0
abbrev pub is_character : ℕ → Bool
is_character n = nat_lt 0 n && (nat_lt n 0xd800 || (nat_le 0xe000 n && nat_lt n 0x110000))

-- the character that one digit or more name
abbrev pub character_of : ℕ → List ℕ → Option ℕ
character_of radix [] = None
character_of radix (b ∷ digits) = if list_all (λ d. is_digit d radix) (b ∷ digits) && is_character (digits_value radix (b ∷ digits))
    then Some (digits_value radix (b ∷ digits)) else None

-- the character that a reference names between `&` and `;`
unfoldable pub referred : List ℕ → Option ℕ
referred name =
    if bytes_eq name (codes "amp") then Some 38
    else if bytes_eq name (codes "lt") then Some 60
    else if bytes_eq name (codes "gt") then Some 62
    else if bytes_eq name (codes "quot") then Some 34
    else if bytes_eq name (codes "apos") then Some 39
    else if starts_with nat_eq name (codes "#x") then character_of 16 (drop 2 name)
    else if starts_with nat_eq name (codes "#") then character_of 10 (drop 1 name)
    else None

-- Whether each `&` begins a reference. Inside of one, its bytes so far are given.
unfoldable pub are_references_in : Option (List ℕ) → List ℕ → Bool
are_references_in None [] = true
are_references_in (Some name) [] = false
are_references_in None (b ∷ value) = if b == 38 then are_references_in (Some []) value else are_references_in None value
are_references_in (Some name) (b ∷ value) =
    if b == 59 then is_some (referred name) && are_references_in None value else are_references_in (Some (name ++ b ∷ [])) value

abbrev pub are_references : List ℕ → Bool
are_references value = are_references_in None value

-- the value with its characters in place of the references
unfoldable pub replaced_in : Option (List ℕ) → List ℕ → List ℕ
replaced_in None [] = []
replaced_in (Some name) [] = []
replaced_in None (b ∷ value) = if b == 38 then replaced_in (Some []) value else b ∷ replaced_in None value
replaced_in (Some name) (b ∷ value) =
    if b == 59 then encode_utf8 (unwrap_or (referred name) 0) ++ replaced_in None value else replaced_in (Some (name ++ b ∷ [])) value

abbrev pub replaced : List ℕ → List ℕ
replaced value = replaced_in None value

-- Where a reader of a value stands: in no reference, behind `&` and some bytes, behind `&#`, or behind digits of a radix, with
-- their value where there are some.
pub data Inside : Type 0 where
  Plain : Inside
  Named : List ℕ → Inside
  Numbered : Inside
  Digits : ℕ → Option ℕ → Inside

abbrev pub named_references : List (List ℕ)
named_references = codes "amp;" ∷ codes "lt;" ∷ codes "gt;" ∷ codes "quot;" ∷ codes "apos;" ∷ []

-- behind some bytes of a reference, which the byte goes on or not
abbrev pub named_further : List ℕ → ℕ → Option Inside
named_further so_far b =
    if bytes_eq (so_far ++ b ∷ []) (codes "#") then Some Numbered
    else if not (list_any (λ name. starts_with nat_eq name (so_far ++ b ∷ [])) named_references) then None
    else if b == 59 then Some Plain
    else Some (Named (so_far ++ b ∷ []))

-- A number stays below 0x110000, so that each digit is refused that no scalar value has there.
abbrev pub digits_further : ℕ → Option ℕ → ℕ → Option Inside
digits_further radix number b =
    if is_digit b radix then
    (let n = unwrap_or number 0 * radix + digit_value b in if nat_lt n 0x110000 then Some (Digits radix (Some n)) else None)
    else if (b == 59) && is_character (unwrap_or number 0) then Some Plain
    else None

-- one byte more of a reference, or none where no reference has it there
unfoldable pub referred_further : Inside → ℕ → Option Inside
referred_further Plain b = Some Plain
referred_further (Named so_far) b = named_further so_far b
referred_further Numbered b = if b == 120 then Some (Digits 16 None) else digits_further 10 None b
referred_further (Digits radix number) b = digits_further radix number b
