-- The forms that the program's arguments may have. Arguments of no form are refused.
use Rattle.std.specs.Prelude.{◌≡◌, ◌⊎◌, ℕ, ◌<◌, List, [], ◌∷◌, codes, length, map, drop, ⊤}
use Rattle.std.specs.Str.Parse.{IsNumeral, digits_value}
use Rattle.mb_tables.specs.Limits.{IsK}

-- the arguments of `show`
abbrev pub show_arguments : List (List ℕ)
show_arguments = codes "show" ∷ []

-- the arguments of `check`
abbrev pub check_arguments : List (List ℕ)
check_arguments = codes "check" ∷ []

-- the number that decimal digits write
unfoldable pub size_of : List ℕ → ℕ
size_of text = digits_value 10 text

-- the text of a block size: decimal digits alone, with or without leading zeros, of a K within its limits
pub record IsSizeText (text : List ℕ) : Type 0 where
  pub digits : IsNumeral 10 text
  pub limits : IsK (size_of text)

-- texts of block sizes, the first above this number and each other one above the one before it
abbrev pub AreSizesAbove : ℕ → List (List ℕ) → Type 0
AreSizesAbove low [] = ⊤
AreSizesAbove low (text ∷ texts) = IsSizeText text × (low < size_of text) × AreSizesAbove (size_of text) texts

-- the arguments of `make`: block sizes follow, one at least, and they rise
pub record AreMakeArguments (arguments : List (List ℕ)) : Type 0 where
  pub texts : List (List ℕ)
  pub is : arguments ≡ codes "make" ∷ texts
  pub some : 0 < length texts
  pub sizes : AreSizesAbove 0 texts

-- the block sizes that they give
abbrev pub sizes_of : List (List ℕ) → List ℕ
sizes_of arguments = map size_of (drop 1 arguments)

-- the arguments have a form
abbrev pub HasForm : List (List ℕ) → Type 0
HasForm arguments = (arguments ≡ show_arguments) ⊎ (arguments ≡ check_arguments) ⊎ AreMakeArguments arguments

-- they have none
abbrev pub HasNoForm : List (List ℕ) → Type 0
HasNoForm arguments = HasForm arguments → ⊥
